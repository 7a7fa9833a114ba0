use Rattle.std.proofs.Common.{Some}
use Rattle.meta_inst.specs.Tables.{ControlNumberFits}
use Rattle.meta_explain.specs.Listed.{AreListed, IsLess}
use Rattle.meta_explain.proofs.Listing.{BeforeAnd}
use Rattle.meta_explain.proofs.types.control_types.Given as goal

-- the numbers so far that fit
abbrev pub invariant-loop-number : goal.invariant-loop-number
invariant-loop-number l = AreListed IsLess (BeforeAnd (λ n. ControlNumberFits l.tables l.offset (Some n)) l.number) l.types.items
