use Rattle.std.proofs.Common.{◌∙◌, ◌++◌, ap, sym, refl, List, ℕ, codes, slice_index_or}
use Rattle.std.specs.List.{filter, join_by}
use Rattle.std.specs.Fmt.{decimal}
use Rattle.std.proofs.Output.{has_written_append, has_written_of_eq}
use Rattle.std.proofs.lemmas.List.{take_all}
use Rattle.meta_typevar.specs.Image.{has_some}
use Rattle.meta_typevar.specs.MaskSets.{holds}
use Rattle.meta_typevar.proofs.Held.{held_more, held_same, some_pushed}
use Rattle.meta_typevar.proofs.SetText.{number_more}
use Rattle.meta_typevar.proofs.part_numbers.NumbersDisplay.fmt.Goals.{then-self-n+in_ok-write_number, else-self-n}
use Rattle.meta_typevar.proofs.part_numbers.NumbersDisplay.fmt.Goals as goal

pub loop-n-init : goal.loop-n-init
loop-n-init g c = (refl, λ plain. c.in_ok-write_str.ensures.writes plain refl)

pub loop-n-preserved : goal.loop-n-preserved
loop-n-preserved g c = elim c.if-self-n.branch [
  | then-self-n+in_ok-write_number w ↦
      let mask = c.self.inside.mask in
      let all = c.self.inside.all.now in
      let more = held_more mask all c.loop-n.n-index c.loop-n-test.true w.if-self-n.true in
      let x = slice_index_or all c.loop-n.n-index 0 in
      let text = ap (λ (l : List ℕ). codes "{" ++ l) (sym (ap (join_by decimal (codes ", ")) more
      ∙ number_more _ x c.loop-n.follows c.loop-n.invariant.0)) in (
        rw w.follows-is (sym (ap has_some more ∙ some_pushed _ x)),
        λ plain.
            let so_far = c.loop-n.invariant.1 plain in
            let step = w.in_ok-write_number.ensures so_far.plain refl in
            rw w.f-is (has_written_of_eq _ _ _ _ _ text (has_written_append _ _ _ _ _ _ so_far step)),
      )
  | else-self-n w ↦
      let same = held_same c.self.inside.mask c.self.inside.all.now c.loop-n.n-index c.loop-n-test.true w.if-self-n.false in (
        rw w.follows-is (c.loop-n.invariant.0 ∙ ap has_some (sym same)),
        λ plain. rw w.f-is (has_written_of_eq _ _ _ _ _ (ap (λ (l : List ℕ). codes "{" ++ join_by decimal (codes ", ") l) (sym same))
            (c.loop-n.invariant.1 plain)),
      )
]

pub returns-clause-writes : goal.returns-clause-writes
returns-clause-writes g c plain ok =
    let so_far = c.loop-n.invariant.1 plain in
    let step = c.write_str-2.ensures.writes so_far.plain ok in
    let all = ap (λ (l : List ℕ). filter (holds c.self.inside.mask) l)
    (take_all c.loop-n.n-index c.self.inside.all.now c.loop-n-test.false) ∙ c.self.view_is in
    has_written_of_eq _ _ _ _ _ (ap (λ (l : List ℕ). codes "{" ++ (join_by decimal (codes ", ") l ++ codes "}")) all)
    (has_written_append _ _ _ _ _ _ so_far step)
