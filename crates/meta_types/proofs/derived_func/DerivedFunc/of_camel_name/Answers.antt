use Rattle.std.proofs.Common.{refl, sym, ◌∙◌}
use Rattle.meta_types.specs.declared.derived_func.DerivedFunc.TheVariants.{LaneOf}
use Rattle.meta_types.proofs.Functions.{name_within, name_found, name_missing}
use Rattle.meta_types.proofs.derived_func.DerivedFunc.of_camel_name.Goals as goal

pub bounds-place-place : goal.bounds-place-place
bounds-place-place c = name_within c.args.name.now c.in_ok-place.place (sym c.camel_place.ensures ∙ c.in_ok-place.was)

pub returns-clause-found : goal.returns-clause-found
returns-clause-found c = name_found c.args.name.now c.in_ok-place.place _ LaneOf (sym c.camel_place.ensures ∙ c.in_ok-place.was) refl

pub returns-in_err-place-clause-none : goal.returns-in_err-place-clause-none
returns-in_err-place-clause-none c =
    rw c.from_residual.ensures (name_missing c.args.name.now (sym c.camel_place.ensures ∙ c.in_err-place.was))
