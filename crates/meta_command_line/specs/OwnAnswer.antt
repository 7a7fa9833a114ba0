-- What a program answers of itself.
--     WasPrinted ending              the text was written, or couldn't be
--     IsOwnAnswer words answer       no answer if the words are for the program's work, and else how the print of what they ask for ended
use Rattle.std.specs.Prelude.{◌≡◌, ◌⊎◌, ℕ, List, Option, None, Some}
use Rattle.meta_command_line.specs.Asked.{AsksFor}
use Rattle.meta_command_line.specs.declared.asked.Asked.TheVariants.{Help, Version, Work}
use Rattle.meta_run.specs.declared.ending.Ending.{Ending}
use Rattle.meta_run.specs.declared.ending.Ending.TheVariants.{Done, WriteFault}

-- the text was written, or couldn't be
abbrev pub WasPrinted : Ending → Type 0
WasPrinted ending = (ending ≡ Done) ⊎ (ending ≡ WriteFault)

-- the words ask for nothing of the program itself, or they ask for the help or the version, and this says how the print ended
abbrev pub IsOwnAnswer : List (List ℕ) → Option Ending → Type 0
IsOwnAnswer words None = AsksFor words Work
IsOwnAnswer words (Some ending) = (AsksFor words Help ⊎ AsksFor words Version) × WasPrinted ending
