use Rattle.std.proofs.Common.{◌<◌, ◌^◌, length, sym, ◌∙◌, rules, arith}
use Rattle.meta_unique.proofs.Walks.{walk_next, walk_read, walk_end, taken_read, vacant_read, slot_inside}
use Rattle.meta_unique.proofs.constant_hash.first_vacant.Goals as goal

pub walk-preserved : goal.walk-preserved
walk-preserved g c =
    let read = walk_read _ _ _ _ _ _ c.index-slots-slot.result c.walk.invariant (sym c.index-slots-slot.is) in
    walk_next _ _ _ _ c.requires.vacant.0 _ c.requires.power c.requires.vacant.1 (λ s t. t) c.walk.invariant
    (taken_read c.args.slots.now c.walk.slot _ read (sym c.is_some.ensures ∙ c.walk-test.true))

pub returns-clause-vacant : goal.returns-clause-vacant
returns-clause-vacant g c =
    let read = walk_read _ _ _ _ _ _ c.index-slots-slot.result c.walk.invariant (sym c.index-slots-slot.is) in
    vacant_read c.args.slots.now c.walk.slot _ read (sym c.is_some.ensures ∙ c.walk-test.false)

pub returns-clause-first : goal.returns-clause-first
returns-clause-first g c = walk_end _ _ _ _ c.walk.invariant (returns-clause-vacant g c)

pub nonzero_rem-slot : goal.nonzero_rem-slot
nonzero_rem-slot g c = search rules

pub walk-init : goal.walk-init
walk-init g c = search rules

pub offset_bounds-slots-slot : goal.offset_bounds-slots-slot
offset_bounds-slots-slot g c = search rules

pub bounds-slots-slot : goal.bounds-slots-slot
bounds-slots-slot g c = search rules

pub overflow_add-passed : goal.overflow_add-passed
overflow_add-passed g c = search rules

pub nonzero_rem-slot-in-walk : goal.nonzero_rem-slot-in-walk
nonzero_rem-slot-in-walk g c = search rules

pub walk-smaller : goal.walk-smaller
walk-smaller g c = search rules

pub overflow_add-slot : goal.overflow_add-slot
overflow_add-slot g c =
    let few : length c.args.slots.now < 2 ^ 63 = search rules in
    omega (arith, few, slot_inside c.args.slots.now c.args.start c.walk.slot c.walk.passed _ c.walk.invariant, c.walk.invariant.inside)
