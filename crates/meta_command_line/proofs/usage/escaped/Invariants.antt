use Rattle.std.proofs.Common.{◌≡◌, ◌++◌, codes, drop, flat_map, string_bytes}
use Rattle.std.specs.Char.Escape.{escape_ascii}
use Rattle.meta_command_line.proofs.usage.escaped.Given as goal

-- the escapes so far and those of the bytes that are left are all
abbrev pub invariant-loop-byte : goal.invariant-loop-byte
invariant-loop-byte l = string_bytes l.shown ++ flat_map escape_ascii (drop l.byte-index l.bytes)
    ≡ codes "\"" ++ flat_map escape_ascii l.bytes
