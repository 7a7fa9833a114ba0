-- How a run ended.
use Rattle.std.specs.Prelude.{◌≡◌, ◌⊎◌, ℕ, Bool, true, false}
use Rattle.meta_run.specs.declared.ending.Ending.{Ending}
use Rattle.meta_run.specs.declared.ending.Ending.TheVariants.{Done, Refused, Usage, ReadFault, WriteFault, OutOfMemory, TooLong, Rejected}

-- the exit status of the process
abbrev pub code_of : Ending → ℕ
code_of Done = 0
code_of Refused = 1
code_of Usage = 2
code_of ReadFault = 3
code_of WriteFault = 4
code_of OutOfMemory = 5
code_of TooLong = 6
code_of Rejected = 7

-- after these endings nothing was written
abbrev pub WritesNothing : Ending → Type 0
WritesNothing ending = (ending ≡ Usage) ⊎ ((ending ≡ ReadFault) ⊎ ((ending ≡ TooLong) ⊎ (ending ≡ OutOfMemory)))

-- the ending of a run whose text was written whole; the mark says whether the text is a rejection
abbrev pub written_as : Bool → Ending
written_as false = Done
written_as true = Rejected
