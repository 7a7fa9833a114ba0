use Rattle.meta_explain.proofs.explaining.wanted_of.Goals as goal

pub types_at-requires : goal.types_at-requires
types_at-requires c = c.requires.types c.in-Operand.operand c.in-Operand.is
