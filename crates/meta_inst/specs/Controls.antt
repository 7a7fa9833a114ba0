-- The controls of an instruction by the numbers of their variables, as the program keeps them.
--     which_of a                     the control that the program means
--     IsOneOf controls n             the variable n is one of the controls
--     AreControlsOf vars controls    the controls are of the registry
--     controls_at vars controls      the controls as variables
use Rattle.std.specs.Prelude.{◌≡◌, ◌<◌, ℕ, List, length, Option, Some, option_map}
use Rattle.meta_typevar.specs.Variable.{Variable}
use Rattle.meta_typevar.specs.Registry.{variable_at}
use Rattle.meta_typevar.specs.declared.content.TypeVarContent.{TypeVarContent}
use Rattle.meta_inst.specs.Which.{Which, First, Second, both}
use Rattle.meta_inst.specs.declared.controls.Which.{Which as WhichType}
use Rattle.meta_inst.specs.declared.controls.Which.TheVariants.{First as FirstType, Second as SecondType}

-- the control that is meant
abbrev pub which_of : WhichType → Which
which_of FirstType = First
which_of SecondType = Second

-- the variable n is one of the controls
abbrev pub IsOneOf : (Which → Option ℕ) → ℕ → Type 0
IsOneOf controls n = (a : Which) × (controls a ≡ Some n)

-- each control that is there is of the registry
abbrev pub AreControlsOf : List TypeVarContent → (Which → Option ℕ) → Type 0
AreControlsOf vars controls = (a : Which) (v : ℕ) → controls a ≡ Some v → v < length vars

-- the controls as variables
abbrev pub controls_at : List TypeVarContent → (Which → Option ℕ) → Which → Option Variable
controls_at vars controls = both (option_map (variable_at vars) (controls First)) (option_map (variable_at vars) (controls Second))
