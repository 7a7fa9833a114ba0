use Rattle.std.proofs.Common.{subst}
use Rattle.meta_operands.specs.EnumEntries.{AreInOrder}
use Rattle.meta_operands.proofs.Entries.{one_more}
use Rattle.meta_operands.proofs.enum_values.EnumValues.copy.Goals as goal

pub loop-name-preserved-in_ok-insert : goal.loop-name-preserved-in_ok-insert
loop-name-preserved-in_ok-insert c =
    one_more _ _ _ _ _ _ _ _ _ (subst AreInOrder c.self.view_is c.iter-name-items.ensures.ordered) c.loop-name.invariant
    c.in-Some.ensures.steps
    c.in_ok-copy.ensures c.in_ok-copy-2.ensures c.in_ok-insert.ensures.entries

pub loop-name-preserved : goal.loop-name-preserved
loop-name-preserved c =
    one_more _ _ _ _ _ _ _ _ _ (subst AreInOrder c.self.view_is c.iter-name-items.ensures.ordered) c.loop-name.invariant
    c.in-Some.ensures.steps
    c.in_ok-copy.ensures c.in_ok-copy-2.ensures c.in_ok-insert.ensures.entries
