use Rattle.std.proofs.Common.{◌≡◌, ◌++◌, drop, map, Some}
use Rattle.meta_program.specs.Told.{told}
use Rattle.meta_program.proofs.told.all_told.Given as goal

-- the messages so far, and those that are left
abbrev pub invariant-loop-name : goal.invariant-loop-name
invariant-loop-name l =
    map Some l.messages.items ++ map (told l.path l.names l.items.items.items l.items.lines.items) (drop l.name-index l.refused)
    ≡ map (told l.path l.names l.items.items.items l.items.lines.items) l.refused
