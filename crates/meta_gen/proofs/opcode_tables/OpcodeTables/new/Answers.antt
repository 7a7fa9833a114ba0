use Rattle.std.proofs.Common.{refl, subst, List, ℕ}
use Rattle.std.proofs.lemmas.Result.{IfOk-from_err}
use Rattle.meta_unique.specs.NameSlots.{AreNameSlots}
use Rattle.meta_gen.proofs.opcode_tables.OpcodeTables.new.Goals as goal

pub returns-clause-slots : goal.returns-clause-slots
returns-clause-slots c =
    subst (λ (names : List
    (List ℕ)). AreNameSlots 1 names c.in_ok-opcode_slots.opcode_slots.items) c.deref.ensures.value
    c.in_ok-opcode_slots.ensures.slots

pub returns-clause-well_formed : goal.returns-clause-well_formed
returns-clause-well_formed c = record {
  parts = c.requires;
  slots = subst (λ (names : List
      (List ℕ)). AreNameSlots 1 names c.in_ok-opcode_slots.opcode_slots.items) c.deref.ensures.value
      c.in_ok-opcode_slots.ensures.slots;
}

pub invariant_of-result : goal.invariant_of-result
invariant_of-result c = record {
  well_formed = record {
    parts = c.requires;
    slots = subst (λ (names : List
        (List ℕ)). AreNameSlots 1 names c.in_ok-opcode_slots.opcode_slots.items) c.deref.ensures.value
        c.in_ok-opcode_slots.ensures.slots;
  };
  vacant = c.in_ok-opcode_slots.ensures.vacant;
}

pub returns-clause-parts : goal.returns-clause-parts
returns-clause-parts c = refl

pub returns-in_err-opcode_slots-clause-parts : goal.returns-in_err-opcode_slots-clause-parts
returns-in_err-opcode_slots-clause-parts c = IfOk-from_err c.from_residual.result _ c.from_residual.ensures.0

pub returns-in_err-opcode_slots-clause-slots : goal.returns-in_err-opcode_slots-clause-slots
returns-in_err-opcode_slots-clause-slots c = IfOk-from_err c.from_residual.result _ c.from_residual.ensures.0

pub returns-in_err-opcode_slots-clause-well_formed : goal.returns-in_err-opcode_slots-clause-well_formed
returns-in_err-opcode_slots-clause-well_formed c = IfOk-from_err c.from_residual.result _ c.from_residual.ensures.0
