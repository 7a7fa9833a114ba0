use Rattle.std.proofs.Common.{◌∙◌, ◌+◌, List, [], ◌∷◌, ◌++◌, sym, ap, subst}
use Rattle.std.proofs.lemmas.Result.{err_from_is_err_and, IfOk-from_err}
use Rattle.meta_lists.proofs.Places.{get_there}
use Rattle.meta_file_syntax.specs.declared.insts.Operand.{Operand as OperandItem}
use Rattle.meta_file_types.specs.Said.{Said}
use Rattle.meta_file_types.specs.Registered.{Extends}
use Rattle.meta_file_types.specs.Held.{registered, Holds}
use Rattle.meta_file_types.proofs.Staying.{extends_same, extends_more}
use Rattle.meta_file_types.specs.Telling.{Fails}
use Rattle.meta_file_declare.specs.Insts.{operand_at, operands_of}
use Rattle.meta_file_declare.specs.Mentioned.{after_operands}
use Rattle.meta_file_declare.specs.Registered.{AreOperandsIn}
use Rattle.meta_file_declare.proofs.Each.{begun, ended}
use Rattle.meta_file_declare.proofs.MadeOperands.{AreSoFar, one_more, not_one_more}
use Rattle.meta_file_declare.proofs.Mentioning.{operands_more, operands_all}
use Rattle.meta_file_declare.proofs.operands.operands_in.Goals as goal

pub loop-place-init : goal.loop-place-init
loop-place-init g c = record {
  holds = c.requires.0;
  extends = extends_same (registered c.args.types.now g.said);
  so_far = rw c.new-operands.ensures.items (begun (λ k o. operand_at g.said.words o) c.operands-items.result.now _ tt);
}

pub loop-place-preserved : goal.loop-place-preserved
loop-place-preserved g c =
    let items = c.operands-items.result.now in
    let k = c.loop-place.place in
    let there = get_there items k c.loop-place-test.true in
    let o = there.0 in
    let more = operands_more g.said items k o there.1 in
    record {
      holds = subst (Holds c.operand_in.new.types) more (c.in_ok-operand.ensures.holds o there.1);
      extends = subst (λ (s : Said). Extends (registered c.args.types.now g.said) (registered c.operand_in.new.types s)) more
          (extends_more _ _ _ c.loop-place.invariant.extends (c.in_ok-operand.ensures.extends o there.1));
      so_far = rw c.in_ok-push.ensures.items (subst
          (λ (s : Said). AreSoFar (registered c.operand_in.new.types s) g.said.words items (k + 1)
          (c.loop-place.operands.items ++ c.in_ok-operand.operand ∷ [])) more
          (one_more _ _ g.said.words items k o c.loop-place.operands.items c.in_ok-operand.operand
          (c.in_ok-operand.ensures.extends o there.1) there.1 (c.in_ok-operand.ensures.means o there.1) c.loop-place.invariant.so_far));
    }

pub returns-in_err-operand-clause-means : goal.returns-in_err-operand-clause-means
returns-in_err-operand-clause-means g c =
    let p = err_from_is_err_and c.from_residual.result c.from_residual.ensures.1 in
    let there = get_there c.operands-items.result.now c.loop-place.place c.loop-place-test.true in
    rw (p.1, p.2) (subst (λ (os : List OperandItem). Fails c.in_err-operand.field-0.0 (operands_of g.said.words os))
    c.operands-items.ensures
    (not_one_more _ g.said.words c.operands-items.result.now c.loop-place.place there.0
    c.loop-place.operands.items c.in_err-operand.field-0.0 there.1 (c.in_err-operand.ensures.means there.0 there.1)
    c.loop-place.invariant.so_far))

pub returns-in_err-operand-clause-holds : goal.returns-in_err-operand-clause-holds
returns-in_err-operand-clause-holds g c = IfOk-from_err c.from_residual.result _ c.from_residual.ensures.0

pub returns-in_err-operand-clause-extends : goal.returns-in_err-operand-clause-extends
returns-in_err-operand-clause-extends g c = IfOk-from_err c.from_residual.result _ c.from_residual.ensures.0

pub returns-clause-means : goal.returns-clause-means
returns-clause-means g c =
    let items = c.operands-items.result.now in
    let all = operands_all g.said items c.loop-place.place c.loop-place-test.false ∙ ap (after_operands g.said) c.operands-items.ensures in
    record {
      meaning = c.loop-place.invariant.so_far.made;
      is = ap (operands_of g.said.words) (sym c.operands-items.ensures)
          ∙ ended (λ k o. operand_at g.said.words o) items c.loop-place.place _ c.loop-place-test.false
          c.loop-place.invariant.so_far;
      by = subst (λ (s : Said). AreOperandsIn (registered c.loop-place.types s) c.loop-place.invariant.so_far.made
          c.loop-place.operands.items) all c.loop-place.invariant.so_far.are;
    }

pub returns-clause-holds : goal.returns-clause-holds
returns-clause-holds g c =
    subst (Holds c.loop-place.types)
    (operands_all g.said c.operands-items.result.now c.loop-place.place c.loop-place-test.false
    ∙ ap (after_operands g.said) c.operands-items.ensures) c.loop-place.invariant.holds

pub returns-clause-extends : goal.returns-clause-extends
returns-clause-extends g c =
    subst (λ (s : Said). Extends (registered c.args.types.now g.said) (registered c.loop-place.types s))
    (operands_all g.said c.operands-items.result.now c.loop-place.place c.loop-place-test.false
    ∙ ap (after_operands g.said) c.operands-items.ensures) c.loop-place.invariant.extends
