use Rattle.std.proofs.Common.{take}
use Rattle.meta_shared.specs.Words.{AreMeant, Grows}
use Rattle.meta_shared.specs.Rows.{AddsRows, derived_in}
use Rattle.meta_shared.proofs.declaring.push_rows.Given as goal

-- the instructions of the rows so far, and what they derive
abbrev pub invariant-loop-row : goal.invariant-loop-row
invariant-loop-row l = record {
  meant : AreMeant l.vars l.names;
  adds : AddsRows l.vars l.names (take l.row-index l.rows) l.initial.all l.all;
  grows : Grows (derived_in (take l.row-index l.rows)) l.initial.vars l.vars;
}
