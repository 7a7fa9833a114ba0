use Rattle.std.proofs.Common.{◌≡◌, ◌≤◌, ◌++◌, encode_utf8_all, string_bytes}
use Rattle.std.specs.Char.Escape.{escape_ascii}
use Rattle.std.specs.Char.Iter.{escape_byte_rest, escape_byte_end}
use Rattle.meta_command_line.proofs.usage.push_escaped.Given as goal

-- the letters so far and those that are left are the escape
abbrev pub invariant-loop-letter : goal.invariant-loop-letter
invariant-loop-letter l =
    (escape_byte_end l.letter-iterator ≤ 4)
    × (string_bytes l.shown ++ encode_utf8_all (escape_byte_rest l.letter-iterator)
    ≡ string_bytes l.fn.shown ++ encode_utf8_all (escape_ascii l.byte))
