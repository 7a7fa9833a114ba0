use Rattle.std.proofs.Common.{◌≡◌, ◌++◌, drop, string_bytes}
use Rattle.std.specs.List.{flat_map}
use Rattle.meta_command_line.specs.Usage.{command_after_comma, commands_text}
use Rattle.meta_command_line.proofs.usage.commands_text.Given as goal

-- the names so far and those that are left are all
abbrev pub invariant-loop-other : goal.invariant-loop-other
invariant-loop-other l = string_bytes l.text ++ flat_map command_after_comma (drop l.other-index l.others) ≡ commands_text l.commands
