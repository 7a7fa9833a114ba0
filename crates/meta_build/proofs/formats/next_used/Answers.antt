use Rattle.std.proofs.Common.{◌≡◌, ℕ, ◌∙◌, ap, sym, refl, subst}
use Rattle.std.specs.List.{slice_get}
use Rattle.std.proofs.lemmas.Bool.{false≢true}
use Rattle.std.proofs.lemmas.Result.{IfOk-from_err}
use Rattle.meta_types.specs.declared.fault.Place.TheVariants.{Format as AtFormat}
use Rattle.meta_types.specs.declared.fault.DefinitionError.TheVariants.{BadName, BadFormat, FormatClash}
use Rattle.meta_inst.specs.Faults.{FormatNameRule, BlocksRule, ClashRule, OfFormat, IsFirstFault}
use Rattle.meta_build.specs.FormatsUsed.{IsNotAmong, ClashesWithNone, IsFirstToClash}
use Rattle.meta_build.proofs.FormatSearch.{declared, of_here, has_name, has_few, first_here, good_name, few_blocks, no_clash}
use Rattle.meta_build.proofs.FormatSearch.{first_clash}
use Rattle.meta_build.proofs.formats.next_used.Goals as goal

pub returns-then-not-is_name-clause-refused : goal.returns-then-not-is_name-clause-refused
returns-then-not-is_name-clause-refused c = λ vars instructions place next other.
    let d = declared vars c.args.formats.now instructions in
    let new = subst (IsNotAmong c.args.used.now.used.items) (sym next.uses) next.new in
    let format = ap (slice_get c.args.formats.now) next.uses ∙ c.get-format.ensures in
    let number = sym (c.from-number.ensures ∙ c.number.ensures ∙ sym next.uses) in
    subst (λ (z : ℕ). IsFirstFault d (BadName (AtFormat z))) number (record {
      position = OfFormat place FormatNameRule;
      shows = record {
        format = _;
        first_use = first_here d _ _ _ (next.before) next.at new;
        breaks = (refl, (_, format, λ is. false≢true (c.if-not-is_name.ensures.1 is)));
      };
      first = next.clean;
    })

pub returns-then-has_too_many_blocks-clause-refused : goal.returns-then-has_too_many_blocks-clause-refused
returns-then-has_too_many_blocks-clause-refused c = λ vars instructions place next other.
    let d = declared vars c.args.formats.now instructions in
    let new = subst (IsNotAmong c.args.used.now.used.items) (sym next.uses) next.new in
    let format = ap (slice_get c.args.formats.now) next.uses ∙ c.get-format.ensures in
    let used = next.before in
    let named = good_name d _ _ _ used next.at (next.clean) (has_name d _ _ format (c.if-not-is_name.ensures.0 refl)) in
    let number = sym (c.from-number.ensures ∙ c.number.ensures ∙ sym next.uses) in
    subst (λ (z : ℕ). IsFirstFault d (BadFormat z)) number (record {
      position = OfFormat place BlocksRule;
      shows = record {
        format = _;
        first_use = first_here d _ _ _ used next.at new;
        breaks = (refl, (_, format, c.if-has_too_many_blocks.ensures.0 refl));
      };
      first = named;
    })

pub returns-in-Some-clause-refused : goal.returns-in-Some-clause-refused
returns-in-Some-clause-refused c = λ vars instructions place next other.
    let d = declared vars c.args.formats.now instructions in
    let new = subst (IsNotAmong c.args.used.now.used.items) (sym next.uses) next.new in
    let format = ap (slice_get c.args.formats.now) next.uses ∙ c.get-format.ensures in
    let used = next.before in
    let named = good_name d _ _ _ used next.at (next.clean) (has_name d _ _ format (c.if-not-is_name.ensures.0 refl)) in
    let few = few_blocks d _ _ _ used next.at named (has_few d _ _ format (λ many. false≢true (c.if-has_too_many_blocks.ensures.1 many))) in
    let first = of_here (λ formats f. IsFirstToClash formats c.args.used.now.used.items f c.in-Some.earlier) _ _ _ _ c.requires.table
    (sym next.uses) c.in-Some.ensures.some in
    let number = sym (c.from-number.ensures ∙ c.number.ensures ∙ sym next.uses) in
    let earlier = sym (c.from.ensures ∙ c.number-in-Some.ensures) in
    subst (λ (z : ℕ). IsFirstFault d (FormatClash z c.from.result)) number
    (subst (λ (z : ℕ). IsFirstFault d (FormatClash next.user.format z)) earlier (record {
      position = OfFormat place ClashRule;
      shows = record {
        format = _;
        first_use = first_here d _ _ _ used next.at new;
        breaks = (_, refl, first_clash d _ _ _ used next.at _ first);
      };
      first = few;
    }))

pub returns-clause-clean : goal.returns-clause-clean
returns-clause-clean c = λ vars instructions place next.
    let d = declared vars c.args.formats.now instructions in
    let format = ap (slice_get c.args.formats.now) next.uses ∙ c.get-format.ensures in
    let named = good_name d _ _ _ next.before next.at next.clean (has_name d _ _ format (c.if-not-is_name.ensures.0 refl)) in
    let few = few_blocks d _ _ _ next.before next.at named
    (has_few d _ _ format (λ many. false≢true (c.if-has_too_many_blocks.ensures.1 many))) in
    let none = of_here (λ formats f. ClashesWithNone formats c.args.used.now.used.items f) _ _ _ _ c.requires.table
    (sym next.uses) c.in_default.ensures.none in
    no_clash d _ _ _ next.before next.at few none

pub returns-clause-refused : goal.returns-clause-refused
returns-clause-refused c = λ vars instructions place next. tt

pub returns-clause-of_table : goal.returns-clause-of_table
returns-clause-of_table c = record { format = c.get-format.result.now; at = c.get-format.ensures; structure = c.in_ok-structure.ensures }

pub returns-clause-apart : goal.returns-clause-apart
returns-clause-apart c =
    of_here (λ formats f. ClashesWithNone formats c.args.used.now.used.items f) _ _ _ _ c.requires.table refl c.in_default.ensures.none

pub returns-then-not-is_name-clause-clean : goal.returns-then-not-is_name-clause-clean
returns-then-not-is_name-clause-clean c = λ vars instructions place next. tt

pub returns-then-has_too_many_blocks-clause-clean : goal.returns-then-has_too_many_blocks-clause-clean
returns-then-has_too_many_blocks-clause-clean c = λ vars instructions place next. tt

pub returns-in-Some-clause-clean : goal.returns-in-Some-clause-clean
returns-in-Some-clause-clean c = λ vars instructions place next. tt

pub returns-in_err-structure-clause-clean : goal.returns-in_err-structure-clause-clean
returns-in_err-structure-clause-clean c = λ vars instructions place next. IfOk-from_err c.from_residual.result _ c.from_residual.ensures.0

pub returns-in_err-structure-clause-id : goal.returns-in_err-structure-clause-id
returns-in_err-structure-clause-id c = IfOk-from_err c.from_residual.result _ c.from_residual.ensures.0

pub returns-in_err-structure-clause-of_table : goal.returns-in_err-structure-clause-of_table
returns-in_err-structure-clause-of_table c = IfOk-from_err c.from_residual.result _ c.from_residual.ensures.0

pub returns-in_err-structure-clause-apart : goal.returns-in_err-structure-clause-apart
returns-in_err-structure-clause-apart c = IfOk-from_err c.from_residual.result _ c.from_residual.ensures.0
