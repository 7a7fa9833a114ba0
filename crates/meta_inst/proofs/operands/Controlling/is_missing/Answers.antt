use Rattle.std.proofs.Common.{rules}
use Rattle.meta_inst.proofs.operands.Controlling.is_missing.Goals as goal

pub returns-in-NotPolymorphic : goal.returns-in-NotPolymorphic
returns-in-NotPolymorphic c = search rules

pub returns-in-NotPolymorphic-2 : goal.returns-in-NotPolymorphic-2
returns-in-NotPolymorphic-2 c = search rules
