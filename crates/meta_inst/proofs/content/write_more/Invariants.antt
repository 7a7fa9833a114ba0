use Rattle.std.proofs.Common.{take}
use Rattle.std.specs.Fmt.{HasWritten, IsPlainFormatter}
use Rattle.meta_inst.specs.Content.{more_names_text}
use Rattle.meta_inst.proofs.content.write_more.Given as goal

-- the names so far are written
abbrev pub invariant-loop-operand : goal.invariant-loop-operand
invariant-loop-operand g l = IsPlainFormatter l.initial.f
    → HasWritten g.W.Write.write_str_gives l.initial.f (more_names_text (take l.operand-index l.operands)) l.f
