use Rattle.meta_types.specs.ValueTypes.{type_parts_of}
use Rattle.meta_types.proofs.Typed.{typed}
use Rattle.meta_types.proofs.ByNumber.{steps_of_types}
use Rattle.meta_types.proofs.derived_func.DerivedFunc.relates_number.Goals as goal

pub returns-in-Some-Some : goal.returns-in-Some-Some
returns-in-Some-Some c =
    steps_of_types _ (type_parts_of c.in-Some-Some.c) (type_parts_of c.in-Some-Some.t) _ _ _ (typed c.in-Some-Some.c)
    (typed c.in-Some-Some.t) c.in-Some-Some.ensures.found c.in-Some-Some.ensures'.found c.relates.ensures
