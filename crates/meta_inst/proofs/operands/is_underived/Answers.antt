use Rattle.meta_inst.proofs.Underived.{none_told}
use Rattle.meta_inst.proofs.operands.is_underived.Goals as goal

pub returns : goal.returns
returns c = none_told _ _ _ _ c.content.ensures.registry c.content.ensures.kept c.is_none.ensures
