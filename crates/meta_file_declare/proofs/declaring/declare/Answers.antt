use Rattle.std.proofs.Common.{◌≡◌, ℕ, None, below_more, take}
use Rattle.meta_lists.proofs.Places.{get_there}
use Rattle.meta_file_declare.specs.OpenGroup.{group_in, groups_so_far}
use Rattle.meta_file_declare.specs.AllItems.{wrong_in}
use Rattle.meta_file_declare.proofs.Growing.{one_more}
use Rattle.meta_file_declare.proofs.Closing.{declares_all}
use Rattle.meta_file_declare.proofs.declaring.declare.Goals as goal

pub loop-place-preserved : goal.loop-place-preserved
loop-place-preserved c =
    let items = c.args.items.now in
    let there = get_there items c.loop-place.place c.loop-place-test.true in
    let old = c.loop-place.declaring.groups in
    let new = c.add.new.self.groups in
    record {
      right = below_more (λ (k : ℕ). wrong_in items k ≡ None) c.loop-place.place c.loop-place.invariant.right c.in_ok-add.ensures.right;
      set = c.in_ok-add.ensures.set;
      groups = one_more items c.loop-place.place old.done.items (group_in old.current) there.0
          (groups_so_far new.done.items (group_in new.current)) c.loop-place.invariant.groups there.1
          (c.in_ok-add.ensures.groups there.0 there.1);
      kept = c.in_ok-add.ensures.kept;
    }

pub returns-clause-said : goal.returns-clause-said
returns-clause-said c =
    let closed = c.in_ok-close.ensures in
    let so_far = c.loop-place.invariant in
    declares_all c.args.items.now c.loop-place.place c.loop-place.declaring.types c.loop-place.declaring.insts
    c.loop-place.declaring.groups.done.items (group_in c.loop-place.declaring.groups.current) c.in_ok-close.field-0 c.loop-place-test.false
    so_far.right so_far.set so_far.groups closed.vars closed.formats closed.instructions closed.groups

pub close-requires : goal.close-requires
close-requires c = (take c.loop-place.place c.args.items.now, c.loop-place.invariant.set)
