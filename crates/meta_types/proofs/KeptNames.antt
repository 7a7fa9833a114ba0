-- The names so far, by their camel cases.
use Rattle.std.proofs.Common.{Bor, map, ◌≡◌, ℕ, ◌+◌, ◌<◌, Bool, true, false, cond, eqb, zero, suc, List, [], ◌∷◌, ◌++◌, length, ap, ◌∙◌}
use Rattle.std.proofs.Common.{sym, refl, subst, arith, inl, inr, add-zero}
use Rattle.std.specs.Prelude.{Some, None}
use Rattle.std.specs.List.{slice_get, position, position_from}
use Rattle.std.specs.Ordering.{nat_cmp}
use Rattle.std.specs.Cmp.Lexicographic.{slice_cmp, bytes_decides}
use Rattle.std.specs.BTreeMap.{BTreeMap, get, Updates}
use Rattle.std.proofs.lemmas.Bool.{false≢true}
use Rattle.std.proofs.lemmas.List.{map-append, length-map}
use Rattle.std.proofs.lemmas.Map.Text.{is_eq-slice_cmp}
use Rattle.std.proofs.lemmas.Iterator.Adapters.{position_from-zero}
use Rattle.std.proofs.lemmas.Option.{slice_get_within, same_Some}
use Rattle.meta_lists.proofs.Pushed.{get_end, get_before}
use lib.Pointwise.{pointwise}
use Rattle.meta_types.specs.CamelCase.{camel_case_of}
use Rattle.meta_types.specs.SharedNames.{IsDuplicate, SharesName, Keeps, place_of}

-- ---- the first place that passes

position_is : {X : Type 0} (t : X → Bool) (xs : List X) → position t xs ≡ position_from t 0 xs
position_is t xs = position_from-zero t xs

from_push_other : {X : Type 0} (t : X → Bool) (i : ℕ) (xs : List X) (y : X) → t y ≡ false
    → position_from t i (xs ++ y ∷ []) ≡ position_from t i xs
from_push_other t i [] y e = rw e refl
from_push_other t i (x ∷ xs) y e = ap (cond (t x) (Some i)) (from_push_other t (i + 1) xs y e)

from_push_new : {X : Type 0} (t : X → Bool) (i : ℕ) (xs : List X) (y : X) → position_from t i xs ≡ None → t y ≡ true
    → position_from t i (xs ++ y ∷ []) ≡ Some (i + length xs)
from_push_new t i [] y n e = rw (e, add-zero) refl
from_push_new t i (x ∷ xs) y n e =
    elim (t x) as (λ b. cond b (Some i) (position_from t (i + 1) xs) ≡ None
    → cond b (Some i) (position_from t (i + 1) (xs ++ y ∷ [])) ≡ Some (i + length (x ∷ xs))) [
      | true ↦ λ n. absurd (cc)
      | false ↦ λ n. let s : (i + 1) + length xs ≡ i + length (x ∷ xs) = omega arith in from_push_new t (i + 1) xs y n e ∙ ap Some s
    ] n

-- none passes where there is no first
from_none : {X : Type 0} (t : X → Bool) (i : ℕ) (xs : List X) → position_from t i xs ≡ None → (k : ℕ) (x : X) → slice_get xs k ≡ Some x
    → t x ≡ false
from_none t i [] n k x at = absurd (cc)
from_none t i (y ∷ ys) n zero x at =
    let s : y ≡ x = cc in
    ap t (sym s) ∙ elim (t y) as (λ b. cond b (Some i) (position_from t (i + 1) ys) ≡ None → b ≡ false) [
      | true ↦ λ n. absurd (cc)
      | false ↦
          λ n. refl
    ] n
from_none t i (y ∷ ys) n (suc k) x at =
    elim (t y) as (λ b. cond b (Some i) (position_from t (i + 1) ys) ≡ None → t x ≡ false) [
      | true ↦ λ n. absurd (cc)
      | false ↦
          λ n. from_none t (i + 1) ys n k x at
    ] n

-- the first place that passes, and what stands there
record FirstAt {X : Type 0} (t : X → Bool) (xs : List X) (j : ℕ) : Type 0 where
  element : X
  at : slice_get xs j ≡ Some element
  passes : t element ≡ true
  first : (i : ℕ) (other : X) → i < j → slice_get xs i ≡ Some other → t other ≡ false

before_first : {X : Type 0} (t : X → Bool) (y : X) (ys : List X) (k : ℕ) → t y ≡ false → FirstAt t ys k → (i : ℕ) (other : X) → i < suc k
    → slice_get (y ∷ ys) i ≡ Some other → t other ≡ false
before_first t y ys k e f zero other l at = let s : y ≡ other = cc in ap t (sym s) ∙ e
before_first t y ys k e f (suc i) other l at = f.first i other (omega arith) at

-- the place among all, where the first is i
from_some : {X : Type 0} (t : X → Bool) (i : ℕ) (xs : List X) (j : ℕ) → position_from t i xs ≡ Some j
    → (k : ℕ) × (j ≡ i + k) × FirstAt t xs k
from_some {X} t i [] j s = absurd (cc)
from_some {X} t i (y ∷ ys) j s =
    elim (t y) as (λ b. t y ≡ b → cond b (Some i) (position_from t (i + 1) ys) ≡ Some j → (k : ℕ) × (j ≡ i + k) × FirstAt t (y ∷ ys) k) [
      | true ↦ λ e s. let same : i ≡ j = cc
          in (0, omega arith, record { element = y; at = refl; passes = e; first = λ i other l at. absurd (omega arith) })
      | false ↦ λ e s. let (k, is, f) = from_some t (i + 1) ys j s
          in (suc k, omega arith, record { element = f.element; at = f.at; passes = f.passes; first = before_first t y ys k e f })
    ] refl s

-- ---- names

-- whether the name has the camel case
abbrev has : List ℕ → List ℕ → Bool
has camel name = pointwise eqb (camel_case_of name) camel

has_own : (camel name : List ℕ) → camel ≡ camel_case_of name → has camel name ≡ true
has_own camel name e = (bytes_decides (camel_case_of name) camel).1 (sym e)

-- names that share one have the same camel case
camel_shared : (a b : List ℕ) → SharesName a b → camel_case_of a ≡ camel_case_of b
camel_shared a b (inl e) = ap camel_case_of e
camel_shared a b (inr e) = e

has_shared : (camel name other : List ℕ) → camel ≡ camel_case_of name → SharesName other name → has camel other ≡ true
has_shared camel name other e h = (bytes_decides (camel_case_of other) camel).1 (camel_shared other name h ∙ sym e)

-- a camel case that no name has isn't kept
none_has : (m : BTreeMap (List ℕ) ℕ) (camel : List ℕ) (names : List (List ℕ)) → Keeps m names → get (slice_cmp nat_cmp) m camel ≡ None
    → position_from (has camel) 0 names ≡ None
none_has m camel names keeps none = sym (position_is (has camel) names) ∙ sym (keeps camel) ∙ none

-- the map with the new name
pub added_name : (m n : BTreeMap (List ℕ) ℕ) (camel name : List ℕ) (place : ℕ) (names : List (List ℕ))
    → Updates (slice_cmp nat_cmp) m n camel (Some place) → get (slice_cmp nat_cmp) m camel ≡ None → camel ≡ camel_case_of name
    → Keeps m names → place ≡ length names → Keeps n (names ++ name ∷ [])
added_name m n camel name place names up none e keeps is q =
    up.0 q ∙ rw (is_eq-slice_cmp camel q)
    (elim (pointwise eqb camel q) as (λ b. pointwise eqb camel q ≡ b
    → cond b (Some place) (get (slice_cmp nat_cmp) m q) ≡ place_of q (names ++ name ∷ [])) [
      | true ↦ λ t.
          let s : camel ≡ q = (bytes_decides camel q).0 t in
          let none_q : position_from (has q) 0 names ≡ None =
          subst (λ (z : List ℕ). position_from (has z) 0 names ≡ None) s (none_has m camel names keeps none) in
          ap Some is ∙ sym (position_is (has q) (names ++ name ∷ [])
          ∙ from_push_new (has q) 0 names name none_q (has_own q name (sym s ∙ e)) ∙ ap Some (omega arith))
      | false ↦ λ t.
          let not_q : has q name ≡ false = ap (λ (z : List ℕ). pointwise eqb z q) (sym e) ∙ t in
          keeps q ∙ position_is (has q) names ∙ sym (from_push_other (has q) 0 names name not_q)
          ∙ sym (position_is (has q) (names ++ name ∷ []))
    ] refl)

-- a name whose camel case isn't kept shares none
pub unshared_name : (m : BTreeMap (List ℕ) ℕ) (camel name : List ℕ) (place : ℕ) (names : List (List ℕ))
    → get (slice_cmp nat_cmp) m camel ≡ None → camel ≡ camel_case_of name → Keeps m names → place ≡ length names → (j : ℕ)
    → IsDuplicate (names ++ name ∷ []) place j → ⊥
unshared_name m camel name place names none e keeps is j d =
    let last : name ≡ d.name = same_Some name d.name (sym (get_end names name) ∙ ap (slice_get (names ++ name ∷ [])) (sym is) ∙ d.is_name)
    in
    let l : j < length names = omega (arith, d.before) in
    let at : slice_get names j ≡ Some d.earlier = sym (get_before names name j l) ∙ d.is_earlier in
    let is_false = from_none (has camel) 0 names (none_has m camel names keeps none) j d.earlier at in
    false≢true (sym is_false ∙ has_shared camel d.name d.earlier (e ∙ ap camel_case_of last) d.shares)

-- the place that is kept for a name's camel case is that of the first that it shares one with
pub shared_name : (m : BTreeMap (List ℕ) ℕ) (camel name : List ℕ) (place j : ℕ) (names : List (List ℕ))
    → get (slice_cmp nat_cmp) m camel ≡ Some j → camel ≡ camel_case_of name → Keeps m names → place ≡ length names
    → IsDuplicate (names ++ name ∷ []) place j
shared_name m camel name place j names found e keeps is =
    let (k, same, f) = from_some (has camel) 0 names j (sym (position_is (has camel) names) ∙ sym (keeps camel) ∙ found) in
    let s : k ≡ j = omega arith in
    let l : k < length names = slice_get_within names k f.element f.at in
    subst (λ (z : ℕ). IsDuplicate (names ++ name ∷ []) place z) s (record {
      name = name;
      earlier = f.element;
      is_name = ap (slice_get (names ++ name ∷ [])) is ∙ get_end names name;
      is_earlier = get_before names name k l ∙ f.at;
      before = omega arith;
      shares = inr ((bytes_decides (camel_case_of f.element) camel).0 f.passes ∙ e);
      first = λ i other below at shares.
          let at_names : slice_get names i ≡ Some other = sym (get_before names name i (omega arith)) ∙ at in
          false≢true (sym (f.first i other below at_names) ∙ has_shared camel name other e shares);
    })

-- the map with the name that a reference points to, after those that others point to
pub added_reference : (m n : BTreeMap (List ℕ) ℕ) (camel : List ℕ) (place : ℕ) (old new : List (Bor (List ℕ))) (r : Bor (List ℕ))
    → new ≡ old ++ r ∷ [] → place ≡ length old → Updates (slice_cmp nat_cmp) m n camel (Some place)
    → get (slice_cmp nat_cmp) m camel ≡ None → camel ≡ camel_case_of r.now → Keeps m (map (λ q. q.now) old) → Keeps n (map (λ q. q.now) new)
added_reference m n camel place old new r pushed is up none e keeps =
    subst (Keeps n) (sym (ap (map (λ q. q.now)) pushed ∙ map-append (λ q. q.now) old (r ∷ [])))
    (added_name m n camel r.now place (map (λ q. q.now) old) up none e keeps (is ∙ sym (length-map old (λ q. q.now))))

-- the names that references point to, with one more
pub added_view : (old new : List (Bor (List ℕ))) (names : List (List ℕ)) (r : Bor (List ℕ)) → new ≡ old ++ r ∷ []
    → map (λ q. q.now) old ≡ names → map (λ q. q.now) new ≡ names ++ r.now ∷ []
added_view old new names r pushed are = ap (map (λ q. q.now)) pushed ∙ map-append (λ q. q.now) old (r ∷ [])
    ∙ ap (λ xs. xs ++ r.now ∷ []) are
