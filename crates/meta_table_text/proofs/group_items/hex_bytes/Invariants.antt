use Rattle.std.proofs.Common.{◌≡◌, ◌++◌, drop, string_bytes, flat_map, codes}
use Rattle.meta_table_text.specs.GroupItems.{hex_text}
use Rattle.meta_table_text.proofs.group_items.hex_bytes.Given as goal

-- what is written, and then what is left to write
abbrev pub invariant-loop-byte : goal.invariant-loop-byte
invariant-loop-byte l = string_bytes l.text ++ flat_map (λ byte. codes ", " ++ hex_text byte)
    (drop l.byte-index l.rest) ≡ string_bytes l.initial.text ++ flat_map (λ byte. codes ", " ++ hex_text byte) l.rest
