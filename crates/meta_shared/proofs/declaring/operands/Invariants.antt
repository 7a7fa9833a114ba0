use Rattle.std.proofs.Common.{take}
use Rattle.meta_shared.specs.Words.{AreMeant, Grows}
use Rattle.meta_shared.specs.Rows.{AreOperandsOfRows, derived_among}
use Rattle.meta_shared.proofs.declaring.operands.Given as goal

-- the operands of the rows so far, and what they derive
abbrev pub invariant-loop-row : goal.invariant-loop-row
invariant-loop-row l = record {
  meant : AreMeant l.vars l.names;
  operands : AreOperandsOfRows l.vars l.names (take l.row-index l.rows) l.operands.items;
  grows : Grows (derived_among (take l.row-index l.rows)) l.initial.vars l.vars;
}
