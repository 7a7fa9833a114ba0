-- Numbers from one on, and the slots of names that have them.
use Rattle.std.proofs.Common.{◌≡◌, ℕ, ◌+◌, ◌<◌, ◌≤◌, zero, suc, List, [], ◌∷◌, ◌++◌, length, slice_get, Some, Option, refl, sym, ap, ◌∙◌}
use Rattle.std.proofs.Common.{subst, add-one, arith}
use Rattle.std.specs.Prelude.{Contains, get_or}
use Rattle.std.proofs.lemmas.Option.{slice_get_within, slice_get-get_or, same_Some}
use Rattle.std.specs.Borrow.{Bor}
use Rattle.meta_unique.specs.Interning.{pointed_to}
use Rattle.meta_unique.specs.Slots.{IsSlots}
use Rattle.meta_unique.specs.SimpleHash.{simple_hash_of}
use Rattle.meta_unique.specs.NameSlots.{HashesTo, numbers_from}

numbers_next : (first count : ℕ) → numbers_from first (suc count) ≡ numbers_from first count ++ (first + count) ∷ []
numbers_next first zero = ap (λ n. n ∷ []) (omega arith)
numbers_next first (suc count) = ap (λ ns. first ∷ ns) (numbers_next (first + 1) count
    ∙ ap (λ n. numbers_from (first + 1) count ++ n ∷ []) (omega arith))

pub numbers_more : (first count : ℕ) (old new : List ℕ) → old ≡ numbers_from first count → new ≡ old ++ (first + count) ∷ []
    → new ≡ numbers_from first (count + 1)
numbers_more first count old new e f = f ∙ ap (λ w. w ++ (first + count) ∷ []) e ∙ sym (numbers_next first count)
    ∙ ap (numbers_from first) (sym (add-one count))

pub count_of_numbers : (first count : ℕ) → length (numbers_from first count) ≡ count
count_of_numbers first zero = refl
count_of_numbers first (suc count) = ap suc (count_of_numbers (first + 1) count)

-- the number at a place
pub number_at : (first count place : ℕ) → place < count → slice_get (numbers_from first count) place ≡ Some (first + place)
number_at first zero place l = absurd (omega arith)
number_at first (suc count) zero l = ap Some (omega arith)
number_at first (suc count) (suc place) l = number_at (first + 1) count place (omega arith) ∙ ap Some (omega arith)

pub place_numbered : (first count place number : ℕ) → slice_get (numbers_from first count) place ≡ Some number
    → (place < count) × (number ≡ first + place)
place_numbered first count place number e =
    let l : place < count =
    subst (λ n. place < n) (count_of_numbers first count) (slice_get_within (numbers_from first count) place number e) in
    (l, same_Some number (first + place) (sym e ∙ number_at first count place l))

-- numbers that stand among them are in their range
pub number_inside : (numbers : List ℕ) (first count number : ℕ) → numbers ≡ numbers_from first count → Contains numbers number
    → (first ≤ number) × (number < first + count)
number_inside numbers first count number e c =
    let f = place_numbered first count c.0 number (sym (ap (λ w. slice_get w c.0) e) ∙ slice_get-get_or numbers c.0 number c.1
    ∙ ap Some c.2) in
    (omega (arith, f.0, f.1), omega (arith, f.0, f.1))

-- slots by one hash are slots by another, if it says so of the items
pub slots_by : {X : Type 0} (hashes other : X → ℕ → Type 0) (items : List X) (slots : List (Option X))
    → ((x : X) (h : ℕ) → hashes x h → other x h) → IsSlots hashes items slots → IsSlots other items slots
slots_by hashes other items slots so s = record {
  size = s.size;
  filled = record {
    place = s.filled.place;
    holds = s.filled.holds;
    only = s.filled.only;
    first = λ i x e. let f = s.filled.first i x e in (f.0, so x f.0 f.1, f.2);
  };
}

pub count_of_names : (names : List (Bor (List ℕ))) → length (pointed_to names) ≡ length names
count_of_names [] = refl
count_of_names (r ∷ names) = ap suc (count_of_names names)

pub name_pointed : (names : List (Bor (List ℕ))) (k : ℕ) (r : Bor (List ℕ)) → slice_get names k ≡ Some r
    → slice_get (pointed_to names) k ≡ Some r.now
name_pointed [] k r e = absurd (cc)
name_pointed (x ∷ names) zero r e = let same : x ≡ r = same_Some x r e in ap (λ (w : Bor (List ℕ)). Some w.now) same
name_pointed (x ∷ names) (suc k) r e = name_pointed names k r e

-- the hash of the name that is read at a place
pub hashes_at : (first : ℕ) (names : List (Bor (List ℕ))) (number h k : ℕ) (d : Bor (List ℕ)) → number ≡ first + k → k < length names
    → h ≡ simple_hash_of (get_or names k d).now → HashesTo first (pointed_to names) number h
hashes_at first names number h k d is inside hash = record {
  name = (get_or names k d).now;
  is_number = record { place = k; number_is = is; there = name_pointed names k (get_or names k d) (slice_get-get_or names k d inside) };
  hash = hash;
}
