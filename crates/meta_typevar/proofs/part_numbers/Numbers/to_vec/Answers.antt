use Rattle.std.proofs.Common.{◌∙◌, ◌++◌, ◌∷◌, ap, sym, List, [], ℕ, slice_index_or}
use Rattle.std.specs.List.{filter}
use Rattle.std.proofs.lemmas.List.{take_all}
use Rattle.meta_typevar.specs.MaskSets.{holds}
use Rattle.meta_typevar.proofs.Held.{held_more, held_same}
use Rattle.meta_typevar.proofs.part_numbers.Numbers.to_vec.Goals.{then-self-n+in_ok-push, else-self-n}
use Rattle.meta_typevar.proofs.part_numbers.Numbers.to_vec.Goals as goal

pub loop-n-init : goal.loop-n-init
loop-n-init c = c.new-numbers.ensures.items

pub loop-n-preserved : goal.loop-n-preserved
loop-n-preserved c = elim c.if-self-n.branch [
  | then-self-n+in_ok-push w ↦
      let x = slice_index_or c.self.inside.all.now c.loop-n.n-index 0 in
      rw w.numbers-is (w.in_ok-push.ensures.items ∙ ap (λ (l : List ℕ). l ++ x ∷ []) c.loop-n.invariant
      ∙ sym (held_more c.self.inside.mask c.self.inside.all.now c.loop-n.n-index c.loop-n-test.true w.if-self-n.true))
  | else-self-n w ↦ rw w.numbers-is
      (c.loop-n.invariant ∙ sym (held_same c.self.inside.mask c.self.inside.all.now c.loop-n.n-index c.loop-n-test.true w.if-self-n.false))
]

pub returns : goal.returns
returns c = c.loop-n.invariant ∙ ap (λ (l : List ℕ). filter (holds c.self.inside.mask) l)
    (take_all c.loop-n.n-index c.self.inside.all.now c.loop-n-test.false) ∙ c.self.view_is
