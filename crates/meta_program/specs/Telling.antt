-- What is said of how a run ended.
--     about tool ending     what the ending was about, and no text if all is done
use Rattle.std.specs.Prelude.{ℕ, List, Option, Some, codes}
use Rattle.meta_run.specs.declared.ending.Ending.{Ending}
use Rattle.meta_run.specs.declared.ending.Ending.TheVariants as ends
use Rattle.meta_command_line.specs.Telling.{about_text}
use Rattle.meta_program.specs.declared.tool.Tool.{Tool}
use Rattle.meta_program.specs.declared.tool.Tool.TheVariants.{Run, TablesIn, Explain, Verify, Asm, Flags, Audit, Check, Describe}

-- why a tool rejects; a tool without an input says what of the declarations can't be written
abbrev pub rejection_text : Tool → Option (List ℕ)
rejection_text (Run command) = about_text ends.Rejected
rejection_text (TablesIn version) = Some (codes "the tables don't fit the version")
rejection_text Explain = about_text ends.Rejected
rejection_text (Verify why) = about_text ends.Rejected
rejection_text (Asm form why) = about_text ends.Rejected
rejection_text Flags = about_text ends.Rejected
rejection_text Audit = about_text ends.Rejected
rejection_text Check = about_text ends.Rejected
rejection_text Describe = Some (codes "no file of declarations says the same")

-- what the ending of a run was about
abbrev pub about : Tool → Ending → Option (List ℕ)
about tool ends.Done = about_text ends.Done
about tool ends.Refused = about_text ends.Refused
about tool ends.Usage = about_text ends.Usage
about tool ends.ReadFault = about_text ends.ReadFault
about tool ends.WriteFault = about_text ends.WriteFault
about tool ends.OutOfMemory = about_text ends.OutOfMemory
about tool ends.TooLong = about_text ends.TooLong
about tool ends.Rejected = rejection_text tool
