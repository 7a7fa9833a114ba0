-- The first places of names that grow.
use Rattle.std.proofs.Common.{◌≡◌, ℕ, ◌+◌, Bool, true, false, cond, eqb, List, [], ◌∷◌, ◌++◌, length, refl, sym, ap, ◌∙◌, subst, arith}
use Rattle.std.proofs.Common.{add-zero}
use Rattle.std.specs.Prelude.{Option, Some, None, is_some}
use Rattle.std.specs.List.{position_from}
use Rattle.std.specs.Option.{option_or}
use Rattle.std.specs.Ordering.{nat_cmp, is_eq}
use Rattle.std.specs.Cmp.{eq_by_cmp_equiv}
use Rattle.std.specs.Cmp.Lexicographic.{slice_cmp, bytes_decides, nat_list_cmp_total, nat_list_eq_equiv}
use Rattle.std.specs.Global.{Vec}
use Rattle.std.specs.Map.{lookup, IsKeyTest, AreApart, KeepsOthers}
use Rattle.std.specs.BTreeMap.{BTreeMap, Updates}
use Rattle.std.proofs.lemmas.Iterator.Adapters.{position_from-zero}
use Rattle.std.proofs.lemmas.Map.Text.{is_eq-slice_cmp}
use lib.Pointwise.{pointwise}
use Rattle.meta_file_declare.specs.Named.{first_place}
use Rattle.meta_file_declare.specs.FirstNumbers.{number_in, or_of, LeadsTo}

-- ---- the first place that passes, with one more after it

from_more : {X : Type 0} (t : X → Bool) (i : ℕ) (xs : List X) (y : X)
    → position_from t i (xs ++ y ∷ []) ≡ option_or (position_from t i xs) (cond (t y) (Some (i + length xs)) None)
from_more t i [] y = rw add-zero refl
from_more t i (x ∷ xs) y =
    elim (t x) as (λ b. cond b (Some i) (position_from t (i + 1) (xs ++ y ∷ []))
    ≡ option_or (cond b (Some i) (position_from t (i + 1) xs)) (cond (t y) (Some (i + length (x ∷ xs))) None)) [
      | true ↦ refl
      | false ↦
          let s : (i + 1) + length xs ≡ i + length (x ∷ xs) = omega arith in
          from_more t (i + 1) xs y
          ∙ ap (λ (n : ℕ). option_or (position_from t (i + 1) xs) (cond (t y) (Some n) None)) s
    ]

place_more : (names : List (List ℕ)) (a q : List ℕ)
    → first_place (names ++ a ∷ []) q ≡ option_or (first_place names q) (cond (pointwise eqb a q) (Some (length names)) None)
place_more names a q =
    let t : List ℕ → Bool = λ n. pointwise eqb n q in
    let s : 0 + length names ≡ length names = omega arith in
    position_from-zero t (names ++ a ∷ []) ∙ from_more t 0 names a
    ∙ ap (λ (n : ℕ). option_or (position_from t 0 names) (cond (t a) (Some n) None)) s
    ∙ ap (λ (o : Option ℕ). option_or o (cond (t a) (Some (length names)) None)) (sym (position_from-zero t names))

-- the map with the number of one more name
pub leads_more : (old new : BTreeMap (Vec ℕ) ℕ) (names : List (List ℕ)) (a : List ℕ) (number : ℕ) → LeadsTo old names
    → number ≡ length names
    → ((q : List ℕ) → number_in new q ≡ or_of (number_in old q) q a number) → LeadsTo new (names ++ a ∷ [])
leads_more old new names a number h is added q =
    added q ∙ ap (λ (o : Option ℕ). or_of o q a number) (h q)
    ∙ ap (λ (n : ℕ). option_or (first_place names q) (cond (pointwise eqb a q) (Some n) None)) is ∙ sym (place_more names a q)

pub leads_none : (names : BTreeMap (Vec ℕ) ℕ) → ((q : List ℕ) → number_in names q ≡ None) → LeadsTo names []
leads_none names h q = h q

-- ---- what an insertion leaves at other names

-- a key that one name finds isn't found by another
apart : (a q k : List ℕ) → pointwise eqb a q ≡ false → is_eq (slice_cmp nat_cmp a k) ≡ true → is_eq (slice_cmp nat_cmp q k) ≡ false
apart a q k n y =
    is_eq-slice_cmp q k
    ∙ (nat_list_eq_equiv.symm q k ∙ sym (nat_list_eq_equiv.congr a k q (sym (is_eq-slice_cmp a k) ∙ y)) ∙ n)

others_kept : {K X : Type 0} (eq : K → K → Bool) (test : K → Bool) (old new : List (K × X)) → KeepsOthers eq test old new
    → (other : K → Bool) → IsKeyTest eq other → AreApart test other → lookup other new ≡ lookup other old
unfolding KeepsOthers
others_kept eq test old new h = h

some_or : {N : Type 0} (o : Option N) (n : N) → is_some o ≡ true → o ≡ option_or o (Some n)
some_or None n e = cc
some_or (Some m) n e = refl

none_or : {N : Type 0} (o : Option N) → o ≡ option_or o None
none_or None = refl
none_or (Some n) = refl

module _ {N : Type 0} (old new : BTreeMap (Vec ℕ) N) (a : List ℕ) (number : N) where
  -- a name that has a number already
  pub had_one : is_some (number_in old a) ≡ true → (q : List ℕ) → number_in old q ≡ or_of (number_in old q) q a number
  had_one h q =
      elim (pointwise eqb a q) as (λ b. pointwise eqb a q ≡ b → number_in old q
      ≡ option_or (number_in old q) (cond b (Some number) None)) [
        | true ↦ λ t.
            let same : a ≡ q = (bytes_decides a q).0 t in
            some_or (number_in old q) number (subst (λ (z : List ℕ). is_some (number_in old z) ≡ true) same h)
        | false ↦ λ t. none_or (number_in old q)
      ] refl

  -- a name that had none
  pub had_none : (key : Vec ℕ) → key.items ≡ a → is_some (number_in old a) ≡ false
      → Updates (λ x y. slice_cmp nat_cmp x.items y.items) old new key (Some number) → (q : List ℕ)
      → number_in new q ≡ or_of (number_in old q) q a number
  had_none key is h up q =
      elim (pointwise eqb a q) as (λ b. pointwise eqb a q ≡ b → number_in new q
      ≡ option_or (number_in old q) (cond b (Some number) None)) [
        | true ↦ λ t.
            let same : a ≡ q = (bytes_decides a q).0 t in
            subst (λ (z : List ℕ). number_in new z ≡ Some number) (is ∙ same) up.1
            ∙ none_then (number_in old q) (subst (λ (z : List ℕ). is_some (number_in old z) ≡ false) same h)
        | false ↦ λ t.
            others_kept _ _ old.entries new.entries up.3 (λ k. is_eq (slice_cmp nat_cmp q k.items))
            (λ x y. (eq_by_cmp_equiv nat_list_cmp_total).congr q x.items y.items)
            (λ k. apart key.items q k.items (ap (λ (z : List ℕ). pointwise eqb z q) is ∙ t))
            ∙ none_or (number_in old q)
      ] refl
    where
      none_then : (o : Option N) → is_some o ≡ false → Some number ≡ option_or o (Some number)
      none_then None e = refl
      none_then (Some m) e = cc
