-- A chain of the program as contracts see it.
use Rattle.std.specs.Prelude.{List, map}
use Rattle.meta_types.specs.Function.{Function}
use Rattle.meta_types.specs.DerivedFunc.{function_of}
use Rattle.meta_types.specs.declared.derived_func.DerivedFunc.{DerivedFunc}

-- the derived functions that are meant
abbrev pub functions_of : List DerivedFunc → List Function
functions_of fs = map function_of fs
