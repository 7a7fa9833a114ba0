-- What stands after the last `::` of a text.
use Rattle.std.proofs.Common.{◌≡◌, ℕ, zero, suc, ◌<◌, ◌≤◌, Bool, true, false, cond, List, [], ◌∷◌, ◌++◌, length, take, drop, codes, ap, sym}
use Rattle.std.proofs.Common.{◌∙◌, refl, arith}
use Rattle.std.specs.Str.Pattern.{LacksTextAt}
use Rattle.std.proofs.lemmas.List.{take-append-drop}
use Rattle.meta_operands.specs.Laws.{texts_Decides}
use Rattle.meta_rust_insts.specs.EntityWord.{begins_with_mark, after_last}

abbrev mark : List ℕ
mark = codes "::"

-- the test of the first bytes
begins : (s rest : List ℕ) → s ≡ mark ++ rest → begins_with_mark s ≡ true
begins s rest e = (texts_Decides (take 2 s) mark).1 (ap (take 2) e)

begins_not : (s : List ℕ) → LacksTextAt mark s 0 → begins_with_mark s ≡ false
begins_not s lacks = go (begins_with_mark s) (texts_Decides (take 2 s) mark).0
  where
    go : (b : Bool) → (b ≡ true → take 2 s ≡ mark) → b ≡ false
    go false f = refl
    go true f = absurd (lacks (drop 2 s) (sym (take-append-drop 2 s) ∙ ap (λ front. front ++ drop 2 s) (f refl)))

-- where no `::` stands, the other part stays
pub lacking : (s other : List ℕ) → ((i : ℕ) → i ≤ length s → LacksTextAt mark s i) → after_last other s ≡ other
lacking [] other lacks = refl
lacking (c ∷ cs) other lacks =
    ap (λ b. after_last (cond b (drop 2 (c ∷ cs)) other) cs) (begins_not (c ∷ cs) (lacks 0 (omega arith)))
    ∙ lacking cs other (λ i within. lacks (suc i) (omega (arith, within)))

-- what stands after the last `::`, by its place
pub found : (i : ℕ) (s back other : List ℕ) → drop i s ≡ mark ++ back → ((k : ℕ) → i < k → k ≤ length s → LacksTextAt mark s k)
    → after_last other s ≡ back
found zero [] back other at beyond = let bad : ⊥ = omega (arith, ap length at) in absurd bad
found zero (c ∷ cs) back other at beyond =
    ap (λ b. after_last (cond b (drop 2 (c ∷ cs)) other) cs) (begins (c ∷ cs) back at)
    ∙ (lacking cs (drop 2 (c ∷ cs)) (λ k within. beyond (suc k) (omega arith) (omega (arith, within)))
    ∙ ap (drop 2) at)
found (suc i) [] back other at beyond = let bad : ⊥ = omega (arith, ap length at) in absurd bad
found (suc i) (c ∷ cs) back other at beyond =
    found i cs back _ at (λ k past within. beyond (suc k) (omega (arith, past)) (omega (arith, within)))
