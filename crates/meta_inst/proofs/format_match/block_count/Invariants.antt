use Rattle.std.proofs.Common.{◌≡◌, ◌≤◌, count_by, take}
use Rattle.meta_inst.specs.FormatMatch.{is_block_operand}
use Rattle.meta_inst.proofs.format_match.block_count.Given as goal

-- those so far are counted
abbrev pub invariant-loop-operand : goal.invariant-loop-operand
invariant-loop-operand l = (l.count ≡ count_by is_block_operand (take l.operand-index l.operands)) × (l.count ≤ l.operand-index)
