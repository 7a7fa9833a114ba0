use Rattle.std.proofs.Common.{◌∙◌, ap, refl, length}
use Rattle.std.proofs.lemmas.Option.{slice_get_read}
use Rattle.std.proofs.lemmas.Result.{err_from_is_err_and, IfOk-from_err}
use Rattle.meta_operands.specs.declared.format.InstructionFormat.{InstructionFormat}
use Rattle.meta_file_types.specs.Held.{registered}
use Rattle.meta_file_declare.specs.Formats.{slot_at}
use Rattle.meta_file_declare.proofs.Each.{begun, goes_on, fails_here, ended}
use Rattle.meta_file_declare.proofs.Stores.{IsOpen, opened, slot_more}
use Rattle.meta_file_declare.proofs.formats.with_slots.Goals as goal

pub loop-place-init : goal.loop-place-init
loop-place-init g c =
    rw c.new-builder.ensures (begun (slot_at g.said.words c.args.slots.now) c.args.slots.now
    (IsOpen (registered c.args.types.now g.said) c.args.name _) (opened (registered c.args.types.now g.said) c.args.name))

pub loop-place-preserved : goal.loop-place-preserved
loop-place-preserved g c =
    let at = slice_get_read c.args.slots.now (length c.args.slots.now) c.loop-place.place c.index-slots-place.result refl
    c.loop-place-test.true c.index-slots-place.is in
    goes_on (slot_at g.said.words c.args.slots.now) c.args.slots.now c.loop-place.place c.index-slots-place.result
    c.in_ok-builder.ensures.meaning _ _ at c.in_ok-builder.ensures.is
    (slot_more (registered c.args.types.now g.said) _ c.in_ok-builder.ensures.meaning _ _ c.in_ok-builder.ensures.by) c.loop-place.invariant

pub returns-in_err-builder-clause-slots : goal.returns-in_err-builder-clause-slots
returns-in_err-builder-clause-slots g c =
    let p = err_from_is_err_and c.from_residual.result c.from_residual.ensures.1 in
    let at = slice_get_read c.args.slots.now (length c.args.slots.now) c.loop-place.place c.index-slots-place.result refl
    c.loop-place-test.true c.index-slots-place.is in
    rw (p.1, p.2) (fails_here (slot_at g.said.words c.args.slots.now) c.args.slots.now c.loop-place.place c.index-slots-place.result _
    c.in_err-builder.field-0.0 at c.in_err-builder.ensures c.loop-place.invariant)

pub returns-in_err-builder-clause-name : goal.returns-in_err-builder-clause-name
returns-in_err-builder-clause-name g c = IfOk-from_err c.from_residual.result _ c.from_residual.ensures.0

pub returns-in_err-builder-clause-designated : goal.returns-in_err-builder-clause-designated
returns-in_err-builder-clause-designated g c = IfOk-from_err c.from_residual.result _ c.from_residual.ensures.0

pub returns-clause-slots : goal.returns-clause-slots
returns-clause-slots g c = record {
  meaning = c.loop-place.invariant.made;
  is = ended (slot_at g.said.words c.args.slots.now) c.args.slots.now c.loop-place.place _ c.loop-place-test.false c.loop-place.invariant;
  by = c.loop-place.invariant.are.stores;
}

pub returns-clause-name : goal.returns-clause-name
returns-clause-name g c = c.loop-place.invariant.are.named ∙ ap (λ (f : InstructionFormat). f.name) c.new-builder.ensures

pub returns-clause-designated : goal.returns-clause-designated
returns-clause-designated g c = c.loop-place.invariant.are.undesignated
