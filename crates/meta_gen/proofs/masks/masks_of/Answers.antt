use Rattle.std.proofs.Common.{sym, ap, ◌∙◌, [], ◌∷◌, ◌++◌, subst}
use Rattle.std.specs.Slice.Iter.{iter_rest}
use Rattle.std.proofs.lemmas.Result.{IfOk-from_err}
use Rattle.meta_unique.specs.Interning.{pointed_to}
use Rattle.meta_build.specs.Needed.{StandForSets}
use Rattle.meta_gen.proofs.Masked.{none_stand, one_stands, moved, all_stand}
use Rattle.meta_gen.proofs.masks.masks_of.Goals as goal

pub loop-set-init : goal.loop-set-init
loop-set-init c = (
  [],
  subst (λ xs. StandForSets xs []) (sym c.new-masks.ensures.items) none_stand,
  sym c.iter-set-items.ensures ∙ ap (λ s. pointed_to (iter_rest s)) (sym c.into_iter-set-iterator.ensures.into_iter_gives),
)

pub loop-set-preserved : goal.loop-set-preserved
loop-set-preserved c =
    let (front, stand, whole) = c.loop-set.invariant in (
      front ++ c.in-Some.set.now.now ∷ [],
      one_stands _ _ _ _ _ c.in_ok-push.ensures.items c.masks.ensures.sums stand,
      whole ∙ ap (λ r. front ++ pointed_to r) c.in-Some.ensures.steps
          ∙ moved front c.in-Some.set.now.now (pointed_to (iter_rest c.next.new.self)),
    )

pub returns : goal.returns
returns c = let (front, stand, whole) = c.loop-set.invariant in all_stand _ front _ _ stand whole c.in-None.ensures.steps.0

pub returns-in_err-push : goal.returns-in_err-push
returns-in_err-push c = IfOk-from_err c.from_residual.result _ c.from_residual.ensures.0
