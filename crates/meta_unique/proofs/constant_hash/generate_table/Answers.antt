use Rattle.std.proofs.Common.{◌<◌, length, refl, sym, subst, ap, ◌∙◌, None, arith, rules, map}
use Rattle.std.proofs.lemmas.List.{length-map}
use Rattle.std.proofs.lemmas.Option.{slice_get_within}
use Rattle.std.specs.Int.{IsPowerOfTwo}
use Rattle.std.specs.Option.{option_copied}
use Rattle.meta_unique.specs.Probing.{IsVacant, IsTaken}
use Rattle.meta_unique.specs.Slots.{IsFirstFree}
use Rattle.meta_unique.proofs.Filling.{filling_start, filling_next, filling_end, filling_vacant, vacant_after, vacant_shown, first_shown}
use Rattle.meta_unique.proofs.Filling.{vacant_contained}
use Rattle.meta_unique.proofs.constant_hash.generate_table.Goals as goal

pub loop-item-init : goal.loop-item-init
loop-item-init g c =
    filling_start _ c.args.items.now c.table_size.result c.in_ok-table.table.items c.table_size.ensures c.in_ok-table.ensures

pub first_vacant-slot-requires-clause-power : goal.first_vacant-slot-requires-clause-power
first_vacant-slot-requires-clause-power g c =
    subst IsPowerOfTwo (length-map c.loop-item.table.items option_copied
    ∙ sym (ap length c.as_slice.ensures.value)) c.loop-item.invariant.size.power

pub first_vacant-slot-requires-clause-vacant : goal.first_vacant-slot-requires-clause-vacant
first_vacant-slot-requires-clause-vacant g c =
    let left = filling_vacant _ c.args.items.now c.loop-item.item-index (map option_copied c.loop-item.table.items) c.loop-item.invariant
    (omega arith) in
    (left.0, subst (λ slots. IsVacant slots left.0) (sym c.as_slice.ensures.value) (vacant_after c.loop-item.table.items left.0 left.1))

pub place-requires : goal.place-requires
place-requires g c =
    let slot = c.first_vacant-slot.result in
    subst (λ slots. slot < length slots) c.as_slice.ensures.value (slice_get_within _ slot None c.first_vacant-slot.ensures.vacant)

pub loop-item-preserved : goal.loop-item-preserved
loop-item-preserved g c =
    let slot = c.first_vacant-slot.result in
    let vacant = subst (λ slots. IsVacant slots slot) c.as_slice.ensures.value c.first_vacant-slot.ensures.vacant in
    let first = subst (λ slots. IsFirstFree (length slots) c.hash_function.result (IsTaken slots) slot) c.as_slice.ensures.value
    c.first_vacant-slot.ensures.first in
    rw c.place.ensures (filling_next _ c.args.items.now c.loop-item.item-index
    (map option_copied c.loop-item.table.items) c.item-item.result c.hash_function.result slot c.loop-item.invariant (omega arith)
    (sym c.item-item.is)
    (record { shown = _; shows = refl; says = record { met = c.hash_function.ensures } }) (vacant_shown _ slot vacant)
    (first_shown _ _ slot vacant first))

pub returns-clause-slots : goal.returns-clause-slots
returns-clause-slots g c =
    filling_end _ c.args.items.now c.loop-item.item-index (map option_copied c.loop-item.table.items) c.loop-item.invariant (omega arith)

pub returns-clause-vacant : goal.returns-clause-vacant
returns-clause-vacant g c =
    let left = filling_vacant _ c.args.items.now c.loop-item.item-index (map option_copied c.loop-item.table.items) c.loop-item.invariant
    (omega arith) in
    vacant_contained _ left.0 left.1

pub table_size-requires : goal.table_size-requires
table_size-requires g c = search rules

pub returns-in_err-table-clause-slots : goal.returns-in_err-table-clause-slots
returns-in_err-table-clause-slots g c = search rules

pub returns-in_err-table-clause-vacant : goal.returns-in_err-table-clause-vacant
returns-in_err-table-clause-vacant g c = search rules

pub hash_function-requires : goal.hash_function-requires
hash_function-requires g c = search rules

pub offset_bounds-items-item-index : goal.offset_bounds-items-item-index
offset_bounds-items-item-index g c = search rules
