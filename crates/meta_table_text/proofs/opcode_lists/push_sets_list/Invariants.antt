use Rattle.std.proofs.Common.{◌≡◌, ◌++◌, drop, string_bytes, flat_map}
use Rattle.meta_table_text.specs.TypeSetText.{set_block}
use Rattle.meta_table_text.proofs.opcode_lists.push_sets_list.Given as goal

-- what is written, and then what is left to write
abbrev pub invariant-loop-set : goal.invariant-loop-set
invariant-loop-set l =
    string_bytes l.lines ++ flat_map set_block (drop l.set-index l.sets) ≡ flat_map set_block l.sets
