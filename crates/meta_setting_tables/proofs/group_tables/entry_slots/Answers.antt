use Rattle.std.proofs.Common.{◌≡◌, ◌∙◌, sym, ap, subst, arith, [], ◌∷◌, ◌++◌, Some, length, take}
use Rattle.std.specs.Prelude.{slice_get}
use Rattle.std.specs.Result.{IfOk}
use Rattle.std.proofs.lemmas.List.{length-map, length-take, map-append, take_all}
use Rattle.std.proofs.lemmas.Option.{slice_get-get_or}
use Rattle.std.proofs.lemmas.Result.{IfOk-from_err}
use Rattle.meta_lists.proofs.Places.{take_next}
use Rattle.meta_unique.specs.Interning.{pointed_to}
use Rattle.meta_unique.specs.NameSlots.{AreNameSlots}
use Rattle.meta_setting_tables.specs.declared.descriptor.Descriptor.{Descriptor}
use Rattle.meta_setting_tables.specs.GroupTables.{names_in}
use Rattle.meta_setting_tables.proofs.group_tables.entry_slots.Goals as goal

pub loop-descriptor-init : goal.loop-descriptor-init
loop-descriptor-init c = ap pointed_to c.in_ok-names.ensures.items

pub loop-descriptor-preserved : goal.loop-descriptor-preserved
loop-descriptor-preserved c =
    let k = c.loop-descriptor.descriptor-index in
    let item = c.descriptor-item.result in
    let front = take k c.args.descriptors.now in
    let at : slice_get c.args.descriptors.now k ≡ Some item = slice_get-get_or c.args.descriptors.now k item c.loop-descriptor-test.true
    ∙ ap Some (sym c.descriptor-item.is) in
    ap pointed_to c.in_ok-push.ensures.items ∙ map-append (λ r. r.now) c.loop-descriptor.names.items (c.as_bytes.result ∷ [])
    ∙ ap (λ w. w ++ c.as_bytes.result.now ∷ []) c.loop-descriptor.invariant
    ∙ ap (λ n. names_in front ++ n ∷ []) c.as_bytes.ensures
    ∙ sym (ap names_in (take_next c.args.descriptors.now k item at) ∙ map-append (λ (d : Descriptor). d.name) front (item ∷ []))

pub name_slots-requires : goal.name_slots-requires
name_slots-requires c =
    let front = take c.loop-descriptor.descriptor-index c.args.descriptors.now in
    let count : length c.as_slice.result.now ≡ length front = ap length c.as_slice.ensures.value
    ∙ sym (length-map c.loop-descriptor.names.items (λ r. r.now)) ∙ ap length c.loop-descriptor.invariant
    ∙ length-map front (λ (d : Descriptor). d.name) in
    let all = length-take c.loop-descriptor.descriptor-index c.args.descriptors.now in
    let few = c.requires in
    record { few = omega arith; numbered = omega arith }

pub returns-clause-slots : goal.returns-clause-slots
returns-clause-slots c =
    subst (λ w. IfOk c.name_slots.result (λ v. AreNameSlots 0 w v.items)) (ap pointed_to c.as_slice.ensures.value
    ∙ c.loop-descriptor.invariant ∙ ap names_in
    (take_all c.loop-descriptor.descriptor-index c.args.descriptors.now c.loop-descriptor-test.false)) c.name_slots.ensures.slots

pub returns-clause-vacant : goal.returns-clause-vacant
returns-clause-vacant c = c.name_slots.ensures.vacant

pub returns-in_err-names-clause-slots : goal.returns-in_err-names-clause-slots
returns-in_err-names-clause-slots c = IfOk-from_err c.from_residual.result _ c.from_residual.ensures.0

pub returns-in_err-names-clause-vacant : goal.returns-in_err-names-clause-vacant
returns-in_err-names-clause-vacant c = IfOk-from_err c.from_residual.result _ c.from_residual.ensures.0

pub returns-in_err-push-clause-slots : goal.returns-in_err-push-clause-slots
returns-in_err-push-clause-slots c = IfOk-from_err c.from_residual-in_err-push.result _ c.from_residual-in_err-push.ensures.0

pub returns-in_err-push-clause-vacant : goal.returns-in_err-push-clause-vacant
returns-in_err-push-clause-vacant c = IfOk-from_err c.from_residual-in_err-push.result _ c.from_residual-in_err-push.ensures.0
