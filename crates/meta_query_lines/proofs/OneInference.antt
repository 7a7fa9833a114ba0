-- What a valid instruction infers is one list of numbers.
use Rattle.std.proofs.Common.{◌≡◌, ℕ, List, Option, Some, slice_get, sym, ap, ◌∙◌, inl, inr}
use Rattle.meta_lists.proofs.Places.{get_there, get_beside, same_places}
use Rattle.meta_types.specs.TypeParts.{TypeParts, number_of}
use Rattle.meta_typevar.specs.Variable.{Variable, Sets}
use Rattle.meta_inst.specs.Which.{both}
use Rattle.meta_inst.specs.Instruction.{Instruction, controls_of}
use Rattle.meta_inst.specs.Control.{IsControl, HasBadSecond, HasBadDerivation}
use Rattle.meta_inst.specs.Inference.{IsResultNumber, Infers}
use Rattle.meta_inst.proofs.Inferring.{only_inferred}

module _ (sets : Sets) (i : Instruction) (control : Option Variable) (c d : Option TypeParts)
    (is : IsControl sets i control) (good : HasBadSecond sets i → ⊥) (none : (k : ℕ) → HasBadDerivation sets i control k → ⊥) where
  -- a result has one number
  one : (k : ℕ) (w : Variable) (n m : ℕ) → slice_get i.results k ≡ Some w
      → IsResultNumber sets (controls_of i control) (both c d) w n → IsResultNumber sets (controls_of i control) (both c d) w m → n ≡ m
  one k w n m at (inl (ends, zero)) (inl (end, nought)) = zero ∙ sym nought
  one k w n m at (inl (ends, zero)) (inr (not_ending, rest)) = absurd (not_ending ends)
  one k w n m at (inr (not_ending, rest)) (inl (ends, zero)) = absurd (not_ending ends)
  one k w n m at (inr (not_ending, (t, a, number))) (inr (neither, (u, b, numbered))) =
      number ∙ ap number_of (only_inferred sets i control c d is good none k w at not_ending t u a b) ∙ sym numbered

  pub same_inferred : (numbers others : List ℕ) → Infers sets i control c d numbers → Infers sets i control c d others → numbers ≡ others
  same_inferred numbers others h g = same_places numbers others (h.count ∙ sym g.count) (λ j l.
      let (n, n_at) = get_there numbers j l in
      let (w, w_at) = get_beside numbers i.results j n h.count n_at in
      let (m, m_at) = get_beside numbers others j n (h.count ∙ sym g.count) n_at in
      n_at ∙ ap Some (one j w n m w_at (h.each j w n w_at n_at) (g.each j w m w_at m_at)) ∙ sym m_at)
