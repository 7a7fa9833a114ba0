-- What a constraint demands, in four cases.
use Rattle.meta_types.specs.DerivedFunc.{function_of}
use Rattle.meta_inst.specs.Controls.{which_of}
use Rattle.meta_inst.specs.Tables.{NumberConstraint, ConcreteNumber, FreeOf, SameNumber, ByNumber}
use Rattle.meta_gen.specs.declared.constraint.Demand.{Demand}
use Rattle.meta_gen.specs.declared.constraint.Demand.TheVariants.{Number, OfSet, Controlling, By}

-- what is demanded of a number
abbrev pub number_constraint_demanded : Demand → NumberConstraint
number_constraint_demanded (Number n) = ConcreteNumber n
number_constraint_demanded (OfSet j) = FreeOf j
number_constraint_demanded (Controlling a) = SameNumber (which_of a)
number_constraint_demanded (By a f) = ByNumber (which_of a) (function_of f)
