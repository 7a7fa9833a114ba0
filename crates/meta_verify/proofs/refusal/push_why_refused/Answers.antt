use Rattle.std.proofs.Common.{◌≡◌, ℕ, List, map, All, Option, Some, None, IsSome, IfSome, false, sym, ap, ◌∙◌, subst, rules}
use Rattle.std.proofs.lemmas.Bool.{false≢true}
use Rattle.std.proofs.lemmas.Result.{on_ok_weaker}
use Rattle.std.proofs.lemmas.List.Elements.{All-append, All-map, All-weaker}
use Rattle.meta_types.specs.TypeNumber.{type_with, IsTypeNumber}
use Rattle.meta_inst.specs.Tables.{TableContents}
use Rattle.meta_gen.specs.Contents.{IsOpcode}
use Rattle.meta_explain.specs.Wanted.{IsExplained}
use Rattle.meta_explain.specs.declared.control_types.ControlTypes.{ControlTypes}
use Rattle.meta_explain.specs.declared.explained.Explained.{Explained}
use Rattle.meta_explain.specs.declared.explained.Explained.TheVariants.{Accept, Refuse}
use Rattle.meta_verify.specs.Environment.{HaveTypes}
use Rattle.meta_verify.specs.Numbers.{applied, controls_in, IsTypedNumber}
use Rattle.meta_verify.specs.Defined.{environment_of}
use Rattle.meta_verify.specs.Why.{refusal_text}
use Rattle.meta_verify.specs.declared.statement.TypedNumber.{TypedNumber}
use Rattle.meta_verify.proofs.WhyLemmas.{told_of, not_accepted, named_opcode, no_value}
use Rattle.meta_verify.proofs.refusal.push_why_refused.Goals as goal

pub returns-in_default : goal.returns-in_default
returns-in_default c = absurd (c.requires.refused.0 c.in_default.ensures.none)

pub push_reason-requires-clause-operands : goal.push_reason-requires-clause-operands
push_reason-requires-clause-operands c =
    let tables = c.args.tables.now.opcodes in
    let env = environment_of c.args.types.now in
    let a = c.args.application.now in
    let known = subst (All IsTypeNumber) (sym c.deref-4.ensures.value) c.in_ok-look_up.ensures.known in
    let are = c.deref-3.ensures.value ∙ c.in_ok-put_numbers.ensures ∙ ap (map (λ (r : TypedNumber). r.number)) c.deref-2.ensures.value in
    let results = All-map IsTypeNumber (λ (r : TypedNumber). r.number) a.results.items
    (All-weaker IsTypedNumber (λ (r : TypedNumber). IsTypeNumber r.number) (λ r is. is.number) a.results.items c.requires.numbers.results) in
    All-append IsTypeNumber c.deref-3.result.now c.deref-4.result.now (subst (All IsTypeNumber) (sym are) results) known

pub returns-in-Some-Refuse : goal.returns-in-Some-Refuse
returns-in-Some-Refuse c =
    let tables = c.args.tables.now.opcodes in
    let env = environment_of c.args.types.now in
    let a = c.args.application.now in
    let known = subst (All IsTypeNumber) (sym c.deref-4.ensures.value) c.in_ok-look_up.ensures.known in
    let are = c.deref-3.ensures.value ∙ c.in_ok-put_numbers.ensures ∙ ap (map (λ (r : TypedNumber). r.number)) c.deref-2.ensures.value in
    let off : c.is_some.result ≡ false = search rules in
    let none : c.in_ok-look_up.field-0 ≡ None = no_value c.in_ok-look_up.field-0 (sym c.is_some.ensures ∙ off) in
    let types = subst (λ (ns : List ℕ). HaveTypes env a.values.items (map type_with ns)) (sym c.deref-4.ensures.value)
    (subst (λ (vs : List ℕ). HaveTypes env vs (map type_with c.look_up.new.numbers.items)) c.deref.ensures.value
    (c.in_ok-look_up.ensures.types none)) in
    let is : c.in_ok-explained.explained ≡ Some (Refuse c.in-Some-Refuse.part c.in-Some-Refuse.wanted) = search rules in
    let explained = subst (λ (x : ControlTypes). IsExplained tables c.in-Some.opcode x c.deref-3.result.now c.deref-4.result.now
    (Refuse c.in-Some-Refuse.part c.in-Some-Refuse.wanted)) c.controls_of-controls.ensures
    (subst (λ (t : TableContents). IsExplained t c.in-Some.opcode c.controls_of-controls.result c.deref-3.result.now c.deref-4.result.now
    (Refuse c.in-Some-Refuse.part c.in-Some-Refuse.wanted)) c.opcodes.ensures
    (subst (λ (o : Option Explained). IfSome o (IsExplained c.opcodes.result.now c.in-Some.opcode c.controls_of-controls.result
    c.deref-3.result.now c.deref-4.result.now)) is c.in_ok-explained.ensures.explained)) in
    on_ok_weaker c.push_reason.result
    (λ e. (
      refusal_text (applied a) (controls_in a) c.deref-3.result.now c.deref-4.result.now c.in-Some-Refuse.part c.in-Some-Refuse.wanted,
      told_of a c.requires.numbers c.deref-4.result.now known c.deref-3.result.now are tables env c.in-Some.opcode c.in-Some.ensures.found
          types c.in-Some-Refuse.part c.in-Some-Refuse.wanted explained,
      e,
    ))
    c.push_reason.ensures

pub returns-in-Some-Accept : goal.returns-in-Some-Accept
returns-in-Some-Accept c =
    let tables = c.args.tables.now.opcodes in
    let env = environment_of c.args.types.now in
    let a = c.args.application.now in
    let known = subst (All IsTypeNumber) (sym c.deref-4.ensures.value) c.in_ok-look_up.ensures.known in
    let are = c.deref-3.ensures.value ∙ c.in_ok-put_numbers.ensures ∙ ap (map (λ (r : TypedNumber). r.number)) c.deref-2.ensures.value in
    let off : c.is_some.result ≡ false = search rules in
    let none : c.in_ok-look_up.field-0 ≡ None = no_value c.in_ok-look_up.field-0 (sym c.is_some.ensures ∙ off) in
    let types = subst (λ (ns : List ℕ). HaveTypes env a.values.items (map type_with ns)) (sym c.deref-4.ensures.value)
    (subst (λ (vs : List ℕ). HaveTypes env vs (map type_with c.look_up.new.numbers.items)) c.deref.ensures.value
    (c.in_ok-look_up.ensures.types none)) in
    let is : c.in_ok-explained.explained ≡ Some Accept = search rules in
    let explained = subst (λ (x : ControlTypes). IsExplained tables c.in-Some.opcode x c.deref-3.result.now c.deref-4.result.now
    Accept) c.controls_of-controls.ensures
    (subst (λ (t : TableContents). IsExplained t c.in-Some.opcode c.controls_of-controls.result c.deref-3.result.now c.deref-4.result.now
    Accept) c.opcodes.ensures
    (subst (λ (o : Option Explained). IfSome o (IsExplained c.opcodes.result.now c.in-Some.opcode c.controls_of-controls.result
    c.deref-3.result.now c.deref-4.result.now)) is c.in_ok-explained.ensures.explained)) in
    absurd (not_accepted a c.requires.numbers c.deref-4.result.now known c.deref-3.result.now are tables env c.in-Some.opcode
    c.in-Some.ensures.found types c.requires.refused explained)

pub returns : goal.returns
returns c =
    let opcode = named_opcode c.args.tables.now.opcodes.names c.in-Some.opcode _ c.args.application.now.name.now
    c.opcode_count-opcodes.ensures.named c.in-Some.ensures.found.holds in
    let some = c.in_ok-explained.ensures.opcode.1
    (subst (λ (t : TableContents). IsOpcode t c.in-Some.opcode) (sym c.opcodes.ensures) opcode) in
    let none : IsSome {T = Explained} None = subst (λ (o : Option Explained). IsSome o) c.in-None.is some in
    absurd (false≢true none)
