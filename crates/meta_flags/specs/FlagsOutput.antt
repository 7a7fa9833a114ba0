-- The output of a service of settings for an input.
--     IsFlagsOutput d input out        the output over the first group of declarations
use Rattle.std.specs.Prelude.{ℕ, List, Option, slice_get}
use Rattle.std.specs.Option.{option_map}
use Rattle.meta_settings.specs.GroupDeclaration.{GroupDeclaration}
use Rattle.meta_settings.specs.LaidOut.{built_of}
use Rattle.meta_build.specs.AllDeclared.{Declared}
use Rattle.meta_flags.specs.Served.{Served, served_of}
use Rattle.meta_flags.specs.FlagAnswers.{IsOutputOver}

-- the first of the groups, as it is served; there may be none
abbrev pub first_served : List GroupDeclaration → Option Served
first_served groups = option_map (λ (g : GroupDeclaration). served_of (built_of g)) (slice_get groups 0)

-- the output for an input over declarations: the answers to its lines over their first group
abbrev pub IsFlagsOutput : Declared → List ℕ → List ℕ → Type 0
IsFlagsOutput d input out = IsOutputOver (first_served d.groups) input out
