-- The shapes of instructions.
--     inputs_for shape x, outputs_for shape x     the names and the variables of what it takes and gives
--     format_of shape                             the number of its format
--     all_formats                                 the formats, by their numbers
use Rattle.std.specs.Prelude.{◌≡◌, ℕ, List, [], ◌∷◌, codes}
use Rattle.meta_types.specs.Function.{AsTruthy, Narrower}
use Rattle.meta_typevar.specs.Variable.{Variable, underived, longer}
use Rattle.meta_operands.specs.Format.{empty_format, built_format}
use Rattle.meta_operands.specs.declared.format.InstructionFormat.{InstructionFormat}
use Rattle.meta_query.specs.declared.formats.Formats.{Formats}
use Rattle.meta_query.specs.declared.shape.Shape.{Shape}
use Rattle.meta_query.specs.declared.shape.Shape.TheVariants.{Bare, Copying, Comparing, Widening}

-- the inputs of an instruction with the root variable x: nothing, `x` of X, `x` and `y` of X, or `x` of what is narrower than X
abbrev pub inputs_for : Shape → ℕ → List (List ℕ × Variable)
inputs_for Bare x = []
inputs_for Copying x = (codes "x", underived x) ∷ []
inputs_for Comparing x = (codes "x", underived x) ∷ (codes "y", underived x) ∷ []
inputs_for Widening x = (codes "x", longer (underived x) Narrower) ∷ []

-- its outputs: nothing, `a` of X, or `a` of what a comparison of values of X gives
abbrev pub outputs_for : Shape → ℕ → List (List ℕ × Variable)
outputs_for Bare x = []
outputs_for Copying x = (codes "a", underived x) ∷ []
outputs_for Comparing x = (codes "a", longer (underived x) AsTruthy) ∷ []
outputs_for Widening x = (codes "a", underived x) ∷ []

-- the number of its format
abbrev pub format_of : Shape → ℕ
format_of Bare = 0
format_of Copying = 1
format_of Comparing = 2
format_of Widening = 1

-- the format with this name and this count of value inputs, of which the first is designated
abbrev pub value_format : List ℕ → ℕ → InstructionFormat
value_format name count = built_format (record (empty_format name) { num_value_operands = count })

-- the formats, by their numbers
abbrev pub all_formats : List InstructionFormat
all_formats = value_format (codes "NullAry") 0 ∷ value_format (codes "Unary") 1 ∷ value_format (codes "Binary") 2 ∷ []

-- the formats have these numbers
pub record AreNumbered (formats : Formats) : Type 0 where
  pub null_ary : formats.null_ary ≡ 0
  pub unary : formats.unary ≡ 1
  pub binary : formats.binary ≡ 2
