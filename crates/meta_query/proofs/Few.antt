-- Type sets of root variables that are all different are few.
use Rattle.std.proofs.Common.{◌≡◌, ◌≢◌, ◌<◌, ◌≤◌, ◌+◌, ◌*◌, ◌%◌, ◌==◌, ◌||◌, ℕ, suc, Bool, true, false, cond, eqb, nat_lt, List, [], ◌∷◌}
use Rattle.std.proofs.Common.{length, map, slice_get, Some, refl, sym, ap, ◌∙◌, arith}
use Rattle.std.specs.List.{AllByRecursion, IsDistinct, list_any}
use Rattle.std.proofs.lemmas.Bool.{false≢true, ne_eqb, eqb-true}
use Rattle.std.proofs.lemmas.List.{length-map}
use Rattle.std.proofs.lemmas.Map.Steps.{length-le_from_distinct_below}
use Rattle.meta_typevar.specs.TypeSetParts.{TypeSetParts}
use Rattle.meta_query.specs.Seeds.{has_vectors, ints_from, set_of_seed}
use Rattle.meta_query.proofs.Choosing.{for_each_width}

-- a number by which such a set is known, and the set of a number
abbrev mark_of : TypeSetParts → ℕ
mark_of s = length s.ints + 8 * length s.lanes

abbrev least_by : ℕ → ℕ
least_by mark = cond (mark % 8 == 5) 8 (cond (mark % 8 == 4) 16 32)

abbrev set_by : ℕ → TypeSetParts
set_by mark = ints_from (least_by mark) (nat_lt 20 mark)

-- a set that is known by its mark
pub record IsKnown (s : TypeSetParts) : Type 0 where
  pub back : set_by (mark_of s) ≡ s
  pub small : mark_of s < 80

known_8 : (v : Bool) → IsKnown (ints_from 8 v)
known_8 true = record { back = refl; small = omega arith }
known_8 false = record { back = refl; small = omega arith }

known_16 : (v : Bool) → IsKnown (ints_from 16 v)
known_16 true = record { back = refl; small = omega arith }
known_16 false = record { back = refl; small = omega arith }

known_32 : (v : Bool) → IsKnown (ints_from 32 v)
known_32 true = record { back = refl; small = omega arith }
known_32 false = record { back = refl; small = omega arith }

pub is_known : (seed : ℕ) → IsKnown (set_of_seed seed)
is_known seed = for_each_width (λ least. (v : Bool) → IsKnown (ints_from least v)) known_8 known_16 known_32 seed (has_vectors seed)

abbrev AreKnownSets : List TypeSetParts → Type 0
AreKnownSets sets = (k : ℕ) (s : TypeSetParts) → slice_get sets k ≡ Some s → IsKnown s

abbrev AreOnce : List TypeSetParts → Type 0
AreOnce sets = (j k : ℕ) (s : TypeSetParts) → slice_get sets j ≡ Some s → slice_get sets k ≡ Some s → j ≡ k

apart : (s : TypeSetParts) (sets : List TypeSetParts) → ((k : ℕ) (t : TypeSetParts) → slice_get sets k ≡ Some t → mark_of s ≢ mark_of t)
    → AllByRecursion (λ m. eqb (mark_of s) m ≡ false) (map mark_of sets)
apart s [] h = tt
apart s (t ∷ sets) h = (ne_eqb (mark_of s) (mark_of t) (h 0 t refl), apart s sets (λ k u at. h (suc k) u at))

distinct : (sets : List TypeSetParts) → AreKnownSets sets → AreOnce sets → IsDistinct eqb (map mark_of sets)
unfolding IsDistinct
distinct [] known once = tt
distinct (s ∷ sets) known once = (
  apart s sets (λ k t at e.
      let same : t ≡ s = sym (known (suc k) t at).back ∙ ap set_by (sym e) ∙ (known 0 s refl).back in
      let twice : 0 ≡ suc k = once 0 (suc k) s refl (at ∙ ap Some same) in
      omega (arith, twice)),
  distinct sets (λ k t at. known (suc k) t at) (λ j k t a b. let e : suc j ≡ suc k = once (suc j) (suc k) t a b in omega (arith, e)),
)

below : (sets : List TypeSetParts) → AreKnownSets sets → (q : ℕ) → list_any (eqb q) (map mark_of sets) ≡ true → q < 80
below [] known q e = absurd (false≢true e)
below (s ∷ sets) known q e = here (eqb q (mark_of s)) refl (λ h. below sets (λ k t at. known (suc k) t at) q h)
  where
    here : (b : Bool) → eqb q (mark_of s) ≡ b → (list_any (eqb q) (map mark_of sets) ≡ true → q < 80) → q < 80
    here true at rest =
        let same : q ≡ mark_of s = eqb-true q (mark_of s) at in
        let small : mark_of s < 80 = (known 0 s refl).small in
        omega (arith, same, small)
    here false at rest = rest (sym (ap (λ b. b || list_any (eqb q) (map mark_of sets)) at) ∙ e)

pub few_sets : (sets : List TypeSetParts) → AreKnownSets sets → AreOnce sets → length sets ≤ 80
few_sets sets known once =
    let few : length (map mark_of sets) ≤ 80 =
    length-le_from_distinct_below (map mark_of sets) 80 (distinct sets known once) (below sets known) in
    omega (arith, few, length-map sets mark_of)
