-- What a line states, with the types by their numbers, as the program holds it.
--     stated s               what is stated
--     HasTypeNumbers s       each number is one of a type
use Rattle.std.specs.Prelude.{map, All, IfSome}
use Rattle.std.specs.Option.{option_map}
use Rattle.meta_types.specs.TypeNumber.{type_with, IsTypeNumber}
use Rattle.meta_explain.specs.declared.control_types.ControlTypes.{ControlTypes}
use Rattle.meta_verify.specs.Statement as spec
use Rattle.meta_verify.specs.Statement.{TypedValue, IsValue}
use Rattle.meta_verify.specs.declared.statement.TypedNumber.{TypedNumber}
use Rattle.meta_verify.specs.declared.statement.Application.{Application}
use Rattle.meta_verify.specs.declared.statement.Statement.{Statement}
use Rattle.meta_verify.specs.declared.statement.Statement.TheVariants.{Parameter, Applied}

-- the value and the type with the number
abbrev pub typed_value_of : TypedNumber → TypedValue
typed_value_of r = record { value = r.value; type = type_with r.number }

-- the numbers of the controlling types
abbrev pub controls_in : Application → ControlTypes
controls_in a = record { ctrl = a.control; second = a.second }

abbrev pub applied : Application → spec.Application
applied a = record {
  name = a.name.now;
  control = option_map type_with a.control;
  second = option_map type_with a.second;
  results = map typed_value_of a.results.items;
  values = a.values.items;
}

abbrev pub stated : Statement → spec.Statement
stated (Parameter r) = spec.OfParameter (typed_value_of r)
stated (Applied a) = spec.OfApplication (applied a)

pub record IsTypedNumber (r : TypedNumber) : Type 0 where
  pub value : IsValue r.value
  pub number : IsTypeNumber r.number

-- each number of the application is one of a type
pub record HasNumbers (a : Application) : Type 0 where
  pub control : IfSome a.control IsTypeNumber
  pub second : IfSome a.second IsTypeNumber
  pub results : All IsTypedNumber a.results.items
  pub values : All IsValue a.values.items

abbrev pub HasTypeNumbers : Statement → Type 0
HasTypeNumbers (Parameter r) = IsTypedNumber r
HasTypeNumbers (Applied a) = HasNumbers a
