-- Why a file wasn't read whole.
--     trouble_text trouble path     the text on it, after the path as it is shown
use Rattle.std.specs.Prelude.{ℕ, List, ◌++◌, Option, None, Some, codes}
use Rattle.meta_program.specs.declared.file_run.FileEnding.{FileEnding}
use Rattle.meta_program.specs.declared.file_run.FileEnding.TheVariants.{Ran, NamesRefused, Refused, FileFault, FileTooLong}
use Rattle.meta_program.specs.declared.file_run.FileTrouble.{FileTrouble}
use Rattle.meta_program.specs.declared.file_run.FileTrouble.TheVariants.{Missing, Forbidden, Folder, Unread, TooLong}

-- why a file wasn't read whole, by how a run over it or a check of it ended
abbrev pub trouble_of : FileEnding → Option FileTrouble
trouble_of (Ran ending) = None
trouble_of NamesRefused = None
trouble_of (Refused message) = None
trouble_of FileFault = Some Unread
trouble_of FileTooLong = Some TooLong

-- the text on it, after the path as it is shown
abbrev pub trouble_text : FileTrouble → List ℕ → List ℕ
trouble_text Missing path = path ++ codes " is missing"
trouble_text Forbidden path = path ++ codes " may not be read"
trouble_text Folder path = path ++ codes " is a folder"
trouble_text Unread path = path ++ codes " could not be read"
trouble_text TooLong path = path ++ codes " is longer than 1048576 bytes"
