-- What a program says of its ending.
--     about_text ending     the text after the name of the program on standard error, and no text if all is done
use Rattle.std.specs.Prelude.{ℕ, List, Option, None, Some, codes}
use Rattle.meta_run.specs.declared.ending.Ending.{Ending}
use Rattle.meta_run.specs.declared.ending.Ending.TheVariants.{Done, Refused, Usage, ReadFault, WriteFault, OutOfMemory, TooLong, Rejected}

-- what an ending was about
abbrev pub about_text : Ending → Option (List ℕ)
about_text Done = None
about_text Refused = Some (codes "the declarations are refused")
about_text Usage = Some (codes "the words are no command: --help has the commands")
about_text ReadFault = Some (codes "standard input could not be read")
about_text WriteFault = Some (codes "standard output could not be written")
about_text OutOfMemory = Some (codes "out of memory")
about_text TooLong = Some (codes "standard input is longer than 1048576 bytes")
about_text Rejected = Some (codes "the input is rejected")
