use Rattle.std.proofs.Common.{◌≡◌, Some, None, refl, sym, ap, ◌∙◌}
use Rattle.std.proofs.lemmas.Result.{IfOk-weaker}
use Rattle.meta_types.specs.TypeParts.{number_of}
use Rattle.meta_types.specs.AllTypes.{all_types}
use Rattle.meta_types.specs.ValueTypes.{type_parts_of}
use Rattle.meta_types.specs.TypeText.{rust_name_of}
use Rattle.meta_types.proofs.Typed.{typed}
use Rattle.meta_table_text.specs.ConstraintText.{type_numbered, rust_name_or_nothing, type_text}
use Rattle.meta_table_text.proofs.TypeNames.{numbered, unnumbered}
use Rattle.meta_table_text.proofs.constraint_text.type_name.Goals as goal

pub returns-in-Some : goal.returns-in-Some
unfolding type_text type_numbered
returns-in-Some c =
    let t = type_parts_of c.in-Some.found in
    let found : type_numbered (number_of t) ≡ Some t =
    numbered all_types c.there_are_153_types.ensures.listed (number_of t) t (typed c.in-Some.found) refl in
    IfOk-weaker c.rust_name.result (λ name. name ≡ rust_name_of t) (λ name. name ≡ type_text c.args.number)
    (λ name e. e ∙ sym (ap rust_name_or_nothing (ap type_numbered (sym c.in-Some.ensures.found) ∙ found))) c.rust_name.ensures

pub returns-in-None : goal.returns-in-None
unfolding type_text type_numbered
returns-in-None c =
    let none : type_numbered c.args.number ≡ None = unnumbered all_types c.there_are_153_types.ensures.listed c.args.number c.in-None.ensures.none in
    IfOk-weaker c.new.result _ (λ name. name ≡ type_text c.args.number) (λ name e. e ∙ sym (ap rust_name_or_nothing none)) c.new.ensures
