use Rattle.std.proofs.Common.{◌≡◌, ◌∙◌, sym, ap, subst, arith, [], ◌∷◌, ◌++◌, Some, length, take}
use Rattle.std.specs.Prelude.{slice_get}
use Rattle.std.specs.Result.{IfOk}
use Rattle.std.proofs.lemmas.List.{length-map, length-take, map-append, take_all}
use Rattle.std.proofs.lemmas.Option.{slice_get-get_or}
use Rattle.std.proofs.lemmas.Result.{IfOk-from_err}
use Rattle.meta_lists.proofs.Places.{take_next}
use Rattle.meta_unique.specs.Interning.{pointed_to}
use Rattle.meta_unique.specs.NameSlots.{AreNameSlots}
use Rattle.meta_gen.proofs.opcode_tables.opcode_slots.Goals as goal

pub loop-name-init : goal.loop-name-init
loop-name-init c = ap pointed_to c.in_ok-borrowed.ensures.items

pub loop-name-preserved : goal.loop-name-preserved
loop-name-preserved c =
    let k = c.loop-name.name-index in
    let item = c.name-item.result in
    let front = take k c.args.names.now in
    let at : slice_get c.args.names.now k ≡ Some item = slice_get-get_or c.args.names.now k item c.loop-name-test.true
    ∙ ap Some (sym c.name-item.is) in
    ap pointed_to c.in_ok-push.ensures.items ∙ map-append (λ r. r.now) c.loop-name.borrowed.items (c.as_bytes.result ∷ [])
    ∙ ap (λ w. w ++ c.as_bytes.result.now ∷ []) c.loop-name.invariant
    ∙ ap (λ n. front ++ n ∷ []) c.as_bytes.ensures
    ∙ sym (take_next c.args.names.now k item at)

pub name_slots-requires : goal.name_slots-requires
name_slots-requires c =
    let count : length c.deref.result.now ≡ length (take c.loop-name.name-index c.args.names.now) =
    ap length c.deref.ensures.value ∙ sym (length-map c.loop-name.borrowed.items (λ r. r.now)) ∙ ap length c.loop-name.invariant in
    let all = length-take c.loop-name.name-index c.args.names.now in
    let few = c.requires in
    record { few = omega arith; numbered = omega arith }

pub returns-clause-slots : goal.returns-clause-slots
returns-clause-slots c =
    subst (λ w. IfOk c.name_slots.result (λ v. AreNameSlots 1 w v.items)) (ap pointed_to c.deref.ensures.value
    ∙ c.loop-name.invariant ∙ take_all c.loop-name.name-index c.args.names.now c.loop-name-test.false) c.name_slots.ensures.slots

pub returns-clause-vacant : goal.returns-clause-vacant
returns-clause-vacant c = c.name_slots.ensures.vacant

pub returns-in_err-borrowed-clause-slots : goal.returns-in_err-borrowed-clause-slots
returns-in_err-borrowed-clause-slots c = IfOk-from_err c.from_residual.result _ c.from_residual.ensures.0

pub returns-in_err-borrowed-clause-vacant : goal.returns-in_err-borrowed-clause-vacant
returns-in_err-borrowed-clause-vacant c = IfOk-from_err c.from_residual.result _ c.from_residual.ensures.0

pub returns-in_err-push-clause-slots : goal.returns-in_err-push-clause-slots
returns-in_err-push-clause-slots c = IfOk-from_err c.from_residual-in_err-push.result _ c.from_residual-in_err-push.ensures.0

pub returns-in_err-push-clause-vacant : goal.returns-in_err-push-clause-vacant
returns-in_err-push-clause-vacant c = IfOk-from_err c.from_residual-in_err-push.result _ c.from_residual-in_err-push.ensures.0
