use Rattle.std.proofs.Common.{◌≡◌, ◌<◌, ◌==◌, ℕ, List, length, get_or, Bool, false, slice_get, Some, refl, sym, ap, ◌∙◌, arith, below_more}
use Rattle.std.proofs.lemmas.Bool.{false≢true}
use Rattle.std.proofs.lemmas.Bool.Decides.{Decides-eqb}
use Rattle.std.proofs.lemmas.Option.{slice_get_read, slice_get_within}
use Rattle.meta_inst.proofs.operands.stands_alone.Goals as goal
use Rattle.meta_inst.proofs.operands.stands_alone.Goals.{else-j-place-via-then-j-place+else-eq, else-j-place-via-else-j-place}

-- elements that a test tells apart aren't the same
apart : (xs : List ℕ) (i k x y n : ℕ) (b : Bool) → i < length xs → x ≡ get_or xs i x → k < length xs → y ≡ get_or xs k y → b ≡ (x == y)
    → b ≡ false → slice_get xs i ≡ Some n → slice_get xs k ≡ Some n → ⊥
apart xs i k x y n b within is in_range other test differ at at' =
    let here = slice_get_read xs _ i x refl within is in
    let there = slice_get_read xs _ k y refl in_range other in
    let same : x ≡ y = cc in
    false≢true (sym differ ∙ test ∙ (Decides-eqb x y).1 same)

pub returns-then-eq : goal.returns-then-eq
returns-then-eq c =
    let here = slice_get_read c.args.variables.now _ c.loop-j.j c.index-variables-j.result refl c.loop-j-test.true c.index-variables-j.is in
    let there = slice_get_read c.args.variables.now _ c.args.place c.index-variables-place.result refl c.requires.within
    c.index-variables-place.is in
    let same = (Decides-eqb c.index-variables-j.result c.index-variables-place.result).0 (sym c.eq.ensures ∙ c.if-eq.true) in (
      (λ e. absurd (false≢true e)),
      (λ h. absurd (c.if-j-place.true (h.alone c.loop-j.j c.index-variables-j.result c.loop-j.auto.j here (there ∙ ap Some (sym same))))),
    )

pub loop-j-preserved : goal.loop-j-preserved
loop-j-preserved c =
    below_more _ _ c.loop-j.invariant
    (λ n from at same. elim c.else-j-place.branch [
      | else-j-place-via-then-j-place+else-eq w ↦
          absurd (apart c.args.variables.now _ _ _ _ n w.eq.result c.loop-j-test.true w.index-variables-j.is c.requires.within
          w.index-variables-place.is w.eq.ensures w.if-eq.false at same)
      | else-j-place-via-else-j-place w ↦ w.if-j-place.false
    ])

pub returns : goal.returns
returns c = (
  λ e. record {
    is_input = c.requires.input;
    alone = λ j n from at same. let l = slice_get_within c.args.variables.now j n at in let past = c.loop-j-test.false
        in c.loop-j.invariant j (omega arith) n from at same;
  },
  λ h. refl,
)
