use Rattle.std.proofs.Common.{◌≡◌, List, [], ◌∷◌, ℕ, Bor, Option, Some, IfSome, IfNone, codes, refl, ap, ◌∙◌, subst, rules}
use Rattle.std.specs.List.{join_with_byte}
use Rattle.meta_verify.specs.Statement as spec
use Rattle.meta_verify.specs.Numbers.{stated, HasTypeNumbers}
use Rattle.meta_verify.specs.declared.statement.Statement.{Statement}
use Rattle.meta_verify.specs.declared.statement.Statement.TheVariants.{Parameter, Applied}
use Rattle.meta_asm.specs.Short.{control_written}
use Rattle.meta_asm.proofs.LineLemmas.{shown}
use Rattle.meta_asm.proofs.WrittenLemmas.{written_word, states_shown, has_written, no_parameter}
use Rattle.meta_asm.proofs.written.written_of.Goals as goal

pub returns-in-Some-Applied : goal.returns-in-Some-Applied
returns-in-Some-Applied c = λ m a can plain some parts values.
    let line : c.deref.result.now ≡ join_with_byte 32 (codes "line" ∷ c.args.parts.name.now ∷ c.unwrap_or-control.result.now ∷ codes "-"
    ∷ c.args.values.now ∷ []) = c.deref.ensures.value ∙ c.in_ok-line.ensures in
    let control = ap (λ (t : Bor (List ℕ)). t.now) c.unwrap_or-control.ensures
    ∙ written_word (λ (t : Bor (List ℕ)). t.now) c.args.parts.control
    (control_written m.leaves_out a.control a.second) _ refl parts.control in
    let is : c.in_ok-application.field-0 ≡ Some (Applied c.in-Some-Applied.application) = search rules in
    let found = subst (λ (o : Option Statement). IfSome o (λ s. spec.IsStatement c.deref.result.now (stated s))) is
    c.in_ok-application.ensures.found in
    let known = subst (λ (o : Option Statement). IfSome o HasTypeNumbers) is c.in_ok-application.ensures.known in
    has_written m a can plain some c.deref.result.now c.args.parts.name.now c.unwrap_or-control.result.now
    c.args.values.now parts.name control values line c.in-Some-Applied.application found known _ refl refl refl

pub returns-in-Some-Parameter : goal.returns-in-Some-Parameter
returns-in-Some-Parameter c = λ m a can plain some parts values.
    let line : c.deref.result.now ≡ join_with_byte 32 (codes "line" ∷ c.args.parts.name.now ∷ c.unwrap_or-control.result.now ∷ codes "-"
    ∷ c.args.values.now ∷ []) = c.deref.ensures.value ∙ c.in_ok-line.ensures in
    let control = ap (λ (t : Bor (List ℕ)). t.now) c.unwrap_or-control.ensures
    ∙ written_word (λ (t : Bor (List ℕ)). t.now) c.args.parts.control
    (control_written m.leaves_out a.control a.second) _ refl parts.control in
    let is : c.in_ok-application.field-0 ≡ Some (Parameter c.in-Some-Parameter._parameter) = search rules in
    let found = subst (λ (o : Option Statement). IfSome o (λ s. spec.IsStatement c.deref.result.now (stated s))) is
    c.in_ok-application.ensures.found in
    absurd (no_parameter m a can plain some c.deref.result.now c.args.parts.name.now c.unwrap_or-control.result.now
    c.args.values.now parts.name control values line _ found)

pub returns : goal.returns
returns c = λ m a can plain some parts values.
    let line : c.deref.result.now ≡ join_with_byte 32 (codes "line" ∷ c.args.parts.name.now ∷ c.unwrap_or-control.result.now ∷ codes "-"
    ∷ c.args.values.now ∷ []) = c.deref.ensures.value ∙ c.in_ok-line.ensures in
    let control = ap (λ (t : Bor (List ℕ)). t.now) c.unwrap_or-control.ensures
    ∙ written_word (λ (t : Bor (List ℕ)). t.now) c.args.parts.control
    (control_written m.leaves_out a.control a.second) _ refl parts.control in
    let none = subst (λ (o : Option Statement). IfNone o ((s : spec.Statement) → spec.IsStatement c.deref.result.now s
    → ⊥)) c.in-None.is c.in_ok-application.ensures.none in
    absurd (none (spec.OfApplication (shown m.leaves_out a))
    (states_shown m a can plain some c.deref.result.now c.args.parts.name.now c.unwrap_or-control.result.now
    c.args.values.now parts.name control values line))
