use Rattle.std.proofs.Common.{◌≡◌, length, subst, sym, ap, ◌∙◌, arith, slice_get, Some, ⊎_elim}
use Rattle.meta_lists.proofs.Pushed.{get_pushed, one_longer}
use Rattle.meta_inst.specs.Built.{BuiltInstruction}
use Rattle.meta_inst.specs.Faults.{IsFirstFault}
use Rattle.meta_inst.proofs.OnlyMemory.{only_memory}
use Rattle.meta_build.specs.BuiltInstructions.{IsBuiltAt}
use Rattle.std.proofs.lemmas.Result.{IfOk-from_err}
use Rattle.meta_build.proofs.Refusals.{handed_on}
use Rattle.meta_build.proofs.instructions.built_instructions.Goals as goal

pub loop-place-preserved : goal.loop-place-preserved
loop-place-preserved c =
    let pushed = c.in_ok-push.ensures.items in
    let longer = one_longer _ _ _ pushed in
    let count = c.loop-place.invariant.count in
    record {
      kept = c.in_ok-built_instruction.ensures.kept;
      clean = c.in_ok-built_instruction.ensures.clean;
      count = omega arith;
      built = λ k x at. ⊎_elim (λ (h : slice_get c.loop-place.built.items k ≡ Some x). c.loop-place.invariant.built k x h)
          (λ (h : (k ≡ length c.loop-place.built.items) × (c.in_ok-built_instruction.field-0 ≡ x)). subst
          (λ n. IsBuiltAt c.args.set.now n x) (sym (h.0 ∙ count))
          (subst (λ (y : BuiltInstruction). IsBuiltAt c.args.set.now c.loop-place.place y) h.1 c.in_ok-built_instruction.ensures.built))
          (get_pushed c.loop-place.built.items c.in_ok-built_instruction.field-0 k x (ap (λ xs. slice_get xs k) (sym pushed) ∙ at));
    }

pub returns-clause-built : goal.returns-clause-built
returns-clause-built c = record {
  each = c.loop-place.invariant.built;
  count =
      let so_far = c.loop-place.invariant.count in
      let past = c.loop-place-test.false in
      let most = c.loop-place.auto.place-end in
      let declared = ap length c.instructions-2.ensures.instructions in
      omega (arith, declared);
}

pub returns-in_err-built-clause-clean : goal.returns-in_err-built-clause-clean
returns-in_err-built-clause-clean c = IfOk-from_err c.from_residual.result _ c.from_residual.ensures.0

pub returns-in_err-built-clause-built : goal.returns-in_err-built-clause-built
returns-in_err-built-clause-built c = IfOk-from_err c.from_residual.result _ c.from_residual.ensures.0

pub returns-in_err-built-clause-refused : goal.returns-in_err-built-clause-refused
returns-in_err-built-clause-refused c = only_memory c.from_residual.result _ c.from_residual.ensures.1

pub returns-in_err-built_instruction-clause-clean : goal.returns-in_err-built_instruction-clause-clean
returns-in_err-built_instruction-clause-clean c =
    IfOk-from_err c.from_residual-in_err-built_instruction.result _ c.from_residual-in_err-built_instruction.ensures.0

pub returns-in_err-built_instruction-clause-built : goal.returns-in_err-built_instruction-clause-built
returns-in_err-built_instruction-clause-built c =
    IfOk-from_err c.from_residual-in_err-built_instruction.result _ c.from_residual-in_err-built_instruction.ensures.0

pub returns-in_err-built_instruction-clause-refused : goal.returns-in_err-built_instruction-clause-refused
returns-in_err-built_instruction-clause-refused c = handed_on _ c.from_residual-in_err-built_instruction.result
    (IsFirstFault c.args.set.now) c.from_residual-in_err-built_instruction.ensures.1 c.in_err-built_instruction.ensures.refused

pub returns-in_err-push-clause-clean : goal.returns-in_err-push-clause-clean
returns-in_err-push-clause-clean c = IfOk-from_err c.from_residual-in_err-push.result _ c.from_residual-in_err-push.ensures.0

pub returns-in_err-push-clause-built : goal.returns-in_err-push-clause-built
returns-in_err-push-clause-built c = IfOk-from_err c.from_residual-in_err-push.result _ c.from_residual-in_err-push.ensures.0

pub returns-in_err-push-clause-refused : goal.returns-in_err-push-clause-refused
returns-in_err-push-clause-refused c = only_memory c.from_residual-in_err-push.result _ c.from_residual-in_err-push.ensures.1
