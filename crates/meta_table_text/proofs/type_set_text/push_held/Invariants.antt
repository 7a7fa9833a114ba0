use denote.Shadow.{shadow}
use denote.Text.{Utf8}
use Rattle.std.proofs.Common.{◌≡◌, ◌++◌, [], map, drop, string_bytes}
use Rattle.std.specs.Fmt.{decimal}
use Rattle.meta_table_text.specs.TypeSetText.{parted_after, held}
use Rattle.meta_table_text.proofs.type_set_text.push_held.Given as goal

abbrev pub invariant-loop-number : goal.invariant-loop-number
invariant-loop-number l = shadow (Utf8 l.before)
    × (string_bytes l.out ++ parted_after l.before (map decimal (held l.mask (drop l.number-index l.numbers)))
    ≡ string_bytes l.initial.out ++ parted_after [] (map decimal (held l.mask l.numbers)))
