use Rattle.std.proofs.Common.{take}
use Rattle.meta_file_declare.specs.SaidOfInsts.{said}
use Rattle.meta_file_declare.specs.OpenGroup.{group_in, IsKeptOpen}
use Rattle.meta_file_declare.specs.AllItems.{AllRight}
use Rattle.meta_file_declare.specs.SoFar.{HoldsSet}
use Rattle.meta_file_declare.proofs.Growing.{AreGroupsSoFar}
use Rattle.meta_file_declare.proofs.declaring.declare.Given as goal

-- what the items above declare
abbrev pub ghost-add : goal.ghost-add
ghost-add a = said (take a.place a.items.now)

-- what the items so far declare
abbrev pub invariant-loop-place : goal.invariant-loop-place
invariant-loop-place l = record {
  right : AllRight l.items l.place;
  set : HoldsSet l.declaring.types l.declaring.insts (said (take l.place l.items));
  groups : AreGroupsSoFar l.items l.place l.declaring.groups.done.items (group_in l.declaring.groups.current);
  kept : IsKeptOpen l.declaring.groups.current;
}
