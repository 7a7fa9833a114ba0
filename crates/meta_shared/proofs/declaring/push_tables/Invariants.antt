use Rattle.std.proofs.Common.{take}
use Rattle.meta_shared.specs.Words.{AreMeant, Grows}
use Rattle.meta_shared.specs.Rows.{AddsRows, derived_in, rows_in}
use Rattle.meta_shared.proofs.declaring.push_tables.Given as goal

-- the instructions of the tables so far, and what they derive
abbrev pub invariant-loop-rows : goal.invariant-loop-rows
invariant-loop-rows l = record {
  meant : AreMeant l.vars l.names;
  adds : AddsRows l.vars l.names (rows_in (take l.rows-index l.tables)) l.initial.all l.all;
  grows : Grows (derived_in (rows_in (take l.rows-index l.tables))) l.initial.vars l.vars;
}
