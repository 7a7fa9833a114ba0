use Rattle.meta_inst.specs.Controls.{which_of}
use Rattle.meta_gen.specs.Constraint.{entry_of}
use Rattle.meta_explain.specs.Listed.{AreListed, IsLess}
use Rattle.meta_explain.specs.Serving.{IsServing}
use Rattle.meta_explain.proofs.Listing.{BeforeAnd}
use Rattle.meta_explain.proofs.accepted.serving.Given as goal

-- the numbers so far that serve
abbrev pub invariant-loop-number : goal.invariant-loop-number
invariant-loop-number l = AreListed IsLess (BeforeAnd (IsServing l.tables (entry_of l.entry) (which_of l.which)) l.number) l.types.items
