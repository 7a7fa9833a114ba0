use Rattle.std.proofs.Common.{ℕ, ◌<◌, ◌≤◌, ◌+◌, ◌*◌, ◌≡◌, arith, refl, sym, ap, ◌∙◌, subst, length, slice_get, [], ◌∷◌, ◌++◌, List, Some}
use Rattle.std.proofs.lemmas.Option.{slice_get_read, slice_get_within}
use Rattle.std.proofs.lemmas.Result.{IfOk-from_err}
use Rattle.meta_lists.proofs.Pushed.{one_longer}
use Rattle.meta_inst.specs.Built.{BuiltInstruction}
use Rattle.meta_inst.specs.Instruction.{Instruction}
use Rattle.meta_inst.specs.InstructionSet.{instruction_in_set}
use Rattle.meta_build.specs.BuiltInstructions.{IsBuiltAt}
use Rattle.meta_build.proofs.BuiltOperands.{meaning}
use Rattle.meta_gen.specs.Entries.{EntryHolds, IsAdded}
use Rattle.meta_gen.proofs.Held.{one_more_held, none_added, one_more_added}
use Rattle.meta_build.proofs.FirstFault.{few_opcodes}
use Rattle.meta_gen.proofs.Entering.{can_enter}
use Rattle.meta_gen.specs.declared.constraint.Constraint.{Constraint}
use Rattle.meta_gen.proofs.entries.entries.Goals as goal
use Rattle.meta_gen.proofs.entries.entries.Goals.{After-constraints-in-loop-k-1}

-- the room after one more entry
next_room : (few more k : ℕ) → more ≤ few + 14 → few ≤ 3 + 14 * k → more ≤ 3 + 14 * (k + 1)
next_room few more k grown room = omega arith

-- the instruction that was read is built of the declared one
read : (c : After-constraints-in-loop-k-1) → IsBuiltAt c.args.built.now.declared.set c.loop-k.k c.index-instructions-k.result
read c =
    c.instructions-instructions.ensures.built.each c.loop-k.k c.index-instructions-k.result
    (ap (λ (xs : List BuiltInstruction). slice_get xs c.loop-k.k) (sym c.instructions-instructions.ensures.instructions)
    ∙ slice_get_read c.instructions-instructions.result.now _ _ _ refl c.loop-k-test.true c.index-instructions-k.is)

pub loop-k-init : goal.loop-k-init
loop-k-init c =
    let three = c.in_ok-constraints.ensures in
    let d = c.args.built.now.declared.set in
    record {
      room = omega (arith, ap (length {A = Constraint}) three);
      count = ap length c.in_ok-entries.ensures.items;
      holds = λ k b l at. absurd (omega arith);
      added = ([], rw (three, c.in_ok-entries.ensures.items) (none_added d.vars d.formats c.args.built.now.type_sets d.instructions));
    }

pub entry_of-requires-clause-room : goal.entry_of-requires-clause-room
entry_of-requires-clause-room c =
    let room = c.loop-k.invariant.room in
    let few = few_opcodes c.args.built.now.declared.set c.requires.valid in
    let count = c.instructions-instructions.ensures.built.count in
    let same = ap (length {A = BuiltInstruction}) c.instructions-instructions.ensures.instructions in
    let inside = c.loop-k-test.true in
    omega arith

pub entry_of-requires-clause-few : goal.entry_of-requires-clause-few
entry_of-requires-clause-few c = rw c.type_sets-type_sets.ensures.type_sets c.type_sets-type_sets.ensures.few

pub entry_of-requires-clause-fits : goal.entry_of-requires-clause-fits
entry_of-requires-clause-fits c =
    rw (c.requires.variables, c.type_sets-type_sets.ensures.type_sets)
    (can_enter c.args.built.now.declared.set c.requires.valid c.requires.fits c.args.built.now.type_sets
    c.type_sets-type_sets.ensures.needed c.loop-k.k c.index-instructions-k.result (read c))

pub loop-k-preserved : goal.loop-k-preserved
loop-k-preserved c =
    let d = c.args.built.now.declared.set in
    let sets = c.args.built.now.type_sets in
    let x = c.index-instructions-k.result in
    let at_built : slice_get c.args.built.now.instructions c.loop-k.k ≡ Some x =
    ap (λ (xs : List BuiltInstruction). slice_get xs c.loop-k.k) (sym c.instructions-instructions.ensures.instructions)
    ∙ slice_get_read c.instructions-instructions.result.now _ _ _ refl c.loop-k-test.true c.index-instructions-k.is in
    let h : IsBuiltAt d c.loop-k.k x = c.instructions-instructions.ensures.built.each c.loop-k.k x at_built in
    let pushed = c.in_ok-push.ensures.items in
    let count = c.loop-k.invariant.count in
    let holds : EntryHolds d.vars (instruction_in_set d h.builder) sets c.entry_of.new.constraints c.in_ok-entry_of.field-0 =
    subst (λ (i : Instruction). EntryHolds d.vars i sets c.entry_of.new.constraints c.in_ok-entry_of.field-0)
    (meaning d h.builder x h.is) (rw (c.requires.variables, c.type_sets-type_sets.ensures.type_sets) at c.in_ok-entry_of.ensures.holds)
    in
    let added : IsAdded d.vars (instruction_in_set d h.builder) sets c.loop-k.constraints c.entry_of.new.constraints
    c.in_ok-entry_of.field-0 = subst
    (λ (i : Instruction). IsAdded d.vars i sets c.loop-k.constraints c.entry_of.new.constraints c.in_ok-entry_of.field-0)
    (meaning d h.builder x h.is) (rw (c.requires.variables, c.type_sets-type_sets.ensures.type_sets) at c.in_ok-entry_of.ensures.added)
    in
    let (lists, so_far) = c.loop-k.invariant.added in
    record {
      room = next_room (length c.loop-k.constraints) (length c.entry_of.new.constraints) c.loop-k.k c.in_ok-entry_of.ensures.count
          c.loop-k.invariant.room;
      count = one_longer _ _ _ pushed ∙ ap (λ n. n + 1) count;
      holds = one_more_held d.vars d.formats sets d.instructions c.loop-k.constraints c.entry_of.new.constraints c.loop-k.entries.items
          c.push.new.self.items c.in_ok-entry_of.field-0 h.builder c.loop-k.k pushed count h.at c.in_ok-entry_of.ensures.stays holds
          c.loop-k.invariant.holds;
      added = (
        lists ++ added.list ∷ [],
        one_more_added d.vars d.formats sets d.instructions c.loop-k.constraints c.entry_of.new.constraints c.loop-k.entries.items
            c.push.new.self.items c.in_ok-entry_of.field-0 h.builder lists pushed (ap (slice_get d.instructions) count ∙ h.at) added so_far,
      );
    }

pub returns-clause-holds : goal.returns-clause-holds
returns-clause-holds c =
    let d = c.args.built.now.declared.set in
    let past = c.loop-k-test.false in
    let built = c.instructions-instructions.ensures.built.count in
    let same = ap (length {A = BuiltInstruction}) c.instructions-instructions.ensures.instructions in
    rw c.in_ok-constraints-2.ensures (λ k b at. let inside = slice_get_within d.instructions k b at
    in c.loop-k.invariant.holds k b (omega arith) at)

pub returns-clause-added : goal.returns-clause-added
returns-clause-added c = rw c.in_ok-constraints-2.ensures c.loop-k.invariant.added

pub returns-clause-count : goal.returns-clause-count
returns-clause-count c =
    let past = c.loop-k-test.false in
    let most = c.loop-k.auto.k-end in
    let count = c.loop-k.invariant.count in
    let built = c.instructions-instructions.ensures.built.count in
    let same = ap (length {A = BuiltInstruction}) c.instructions-instructions.ensures.instructions in
    omega arith

pub returns-in_err-constraints-clause-count : goal.returns-in_err-constraints-clause-count
returns-in_err-constraints-clause-count c = IfOk-from_err c.from_residual.result _ c.from_residual.ensures.0

pub returns-in_err-constraints-clause-holds : goal.returns-in_err-constraints-clause-holds
returns-in_err-constraints-clause-holds c = IfOk-from_err c.from_residual.result _ c.from_residual.ensures.0

pub returns-in_err-constraints-clause-added : goal.returns-in_err-constraints-clause-added
returns-in_err-constraints-clause-added c = IfOk-from_err c.from_residual.result _ c.from_residual.ensures.0

pub returns-in_err-entries-clause-count : goal.returns-in_err-entries-clause-count
returns-in_err-entries-clause-count c = IfOk-from_err c.from_residual-in_err-entries.result _ c.from_residual-in_err-entries.ensures.0

pub returns-in_err-entries-clause-holds : goal.returns-in_err-entries-clause-holds
returns-in_err-entries-clause-holds c = IfOk-from_err c.from_residual-in_err-entries.result _ c.from_residual-in_err-entries.ensures.0

pub returns-in_err-entries-clause-added : goal.returns-in_err-entries-clause-added
returns-in_err-entries-clause-added c = IfOk-from_err c.from_residual-in_err-entries.result _ c.from_residual-in_err-entries.ensures.0

pub returns-in_err-entry_of-clause-count : goal.returns-in_err-entry_of-clause-count
returns-in_err-entry_of-clause-count c = IfOk-from_err c.from_residual-in_err-entry_of.result _ c.from_residual-in_err-entry_of.ensures.0

pub returns-in_err-entry_of-clause-holds : goal.returns-in_err-entry_of-clause-holds
returns-in_err-entry_of-clause-holds c = IfOk-from_err c.from_residual-in_err-entry_of.result _ c.from_residual-in_err-entry_of.ensures.0

pub returns-in_err-entry_of-clause-added : goal.returns-in_err-entry_of-clause-added
returns-in_err-entry_of-clause-added c = IfOk-from_err c.from_residual-in_err-entry_of.result _ c.from_residual-in_err-entry_of.ensures.0

pub returns-in_err-push-clause-count : goal.returns-in_err-push-clause-count
returns-in_err-push-clause-count c = IfOk-from_err c.from_residual-in_err-push.result _ c.from_residual-in_err-push.ensures.0

pub returns-in_err-push-clause-holds : goal.returns-in_err-push-clause-holds
returns-in_err-push-clause-holds c = IfOk-from_err c.from_residual-in_err-push.result _ c.from_residual-in_err-push.ensures.0

pub returns-in_err-push-clause-added : goal.returns-in_err-push-clause-added
returns-in_err-push-clause-added c = IfOk-from_err c.from_residual-in_err-push.result _ c.from_residual-in_err-push.ensures.0

pub returns-in_err-constraints-2-clause-count : goal.returns-in_err-constraints-2-clause-count
returns-in_err-constraints-2-clause-count c =
    IfOk-from_err c.from_residual-in_err-constraints-2.result _ c.from_residual-in_err-constraints-2.ensures.0

pub returns-in_err-constraints-2-clause-holds : goal.returns-in_err-constraints-2-clause-holds
returns-in_err-constraints-2-clause-holds c =
    IfOk-from_err c.from_residual-in_err-constraints-2.result _ c.from_residual-in_err-constraints-2.ensures.0

pub returns-in_err-constraints-2-clause-added : goal.returns-in_err-constraints-2-clause-added
returns-in_err-constraints-2-clause-added c =
    IfOk-from_err c.from_residual-in_err-constraints-2.result _ c.from_residual-in_err-constraints-2.ensures.0
