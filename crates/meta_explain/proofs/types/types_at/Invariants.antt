use Rattle.meta_inst.specs.Tables.{PassesAt}
use Rattle.meta_explain.specs.Listed.{AreListed, IsLess}
use Rattle.meta_explain.specs.Parts.{numbers_of}
use Rattle.meta_explain.proofs.Listing.{BeforeAnd}
use Rattle.meta_explain.proofs.types.types_at.Given as goal

-- the numbers so far that pass
abbrev pub invariant-loop-number : goal.invariant-loop-number
invariant-loop-number l = AreListed IsLess (BeforeAnd (PassesAt l.tables (numbers_of l.controls) l.place) l.number) l.types.items
