-- The value that is marked is one of those that are stored.
use Rattle.std.proofs.Common.{◌≡◌, ◌∙◌, ◌<◌, ◌+◌, ℕ, Bool, true, false, cond, List, [], ◌∷◌, sym, ap, refl, arith}
use Rattle.std.specs.Prelude.{Some, Result, Ok, Err, count_by, take}
use Rattle.std.specs.List.{list_any}
use Rattle.std.proofs.lemmas.List.Sums.{sum_by-cons}
use Rattle.std.proofs.lemmas.Option.{same_Some}
use Rattle.meta_file_syntax.specs.declared.formats.Slot.{Slot}
use Rattle.meta_file_syntax.specs.declared.formats.Slot.TheVariants as slots
use Rattle.meta_file_types.specs.declared.refused.Reason.{Reason}
use Rattle.meta_file_types.specs.declared.refused.Reason.TheVariants.{TwoDesignated}
use Rattle.meta_file_types.specs.Telling.{◌>>=◌}
use Rattle.meta_file_types.specs.Words.{Entry}
use Rattle.meta_file_declare.specs.Telling.{each_from}
use Rattle.meta_file_declare.specs.Formats.{MeantSlot, Value, is_value, is_marked, slot_named, slot_at, slots_of, marked_from}

-- ---- what is made of a list is made of its first element and of the others

record IsSplit {B : Type 0} (one : Result B Reason) (rest : Result (List B) Reason) (all : List B) : Type 0 where
  pub first : B
  pub more : List B
  pub one_is : one ≡ Ok first
  pub rest_is : rest ≡ Ok more
  pub all_is : all ≡ first ∷ more

abbrev ok_of : {A : Type 0} → A → Result A Reason
ok_of x = Ok x

same_made : {A : Type 0} (x y : A) → ok_of x ≡ ok_of y → y ≡ x
same_made x y is = let same : x ≡ y = cc in sym same

split : {B : Type 0} (one : Result B Reason) (rest : Result (List B) Reason) (all : List B)
    → (one >>= λ y. rest >>= λ ys. Ok (y ∷ ys)) ≡ Ok all → IsSplit one rest all
split (Ok y) (Ok ys) all is = record { first = y; more = ys; one_is = refl; rest_is = refl; all_is = same_made (y ∷ ys) all is }
split (Ok y) (Err reason) all is = absurd (cc)
split (Err reason) rest all is = absurd (cc)

-- ---- the values among them

counted : (s : MeantSlot) (more : List MeantSlot) (b : Bool) → is_value s ≡ b
    → count_by is_value (s ∷ more) ≡ cond b 1 0 + count_by is_value more
counted s more b is = sum_by-cons (λ x. cond (is_value x) 1 0) s more ∙ ap (λ c. cond c 1 0 + count_by is_value more) is

is_one : (s : MeantSlot) → ok_of Value ≡ ok_of s → is_value s ≡ true
is_one s is = ap is_value (same_made Value s is)

is_taken : (b : Bool) (k : ℕ) (s : MeantSlot) → cond b (Err (TwoDesignated k)) (ok_of Value) ≡ ok_of s → is_value s ≡ true
is_taken true k s is = absurd (cc)
is_taken false k s is = is_one s is

-- where n values stand before these slots, one of theirs is the marked one
marked_below : (words : List Entry) (all : List Slot) (k n : ℕ) (left : List Slot) (made : List MeantSlot) (place : ℕ)
    → each_from (slot_at words all) k left ≡ Ok made → marked_from n left ≡ Some place → place < n + count_by is_value made
marked_below words all k n [] made place is at = absurd (cc)
marked_below words all k n (slots.Value ∷ left) made place is at =
    let s = split (Ok Value) (each_from (slot_at words all) (k + 1) left) made is in
    let below = marked_below words all (k + 1) (n + 1) left s.more place s.rest_is at in
    let count : count_by is_value made ≡ 1 + count_by is_value s.more =
    ap (count_by is_value) s.all_is ∙ counted s.first s.more true (is_one s.first s.one_is) in
    omega (arith, below, count)
marked_below words all k n (slots.Designated ∷ left) made place is at =
    let s = split (slot_at words all k slots.Designated) (each_from (slot_at words all) (k + 1) left) made is in
    let here : n ≡ place = same_Some n place at in
    let count : count_by is_value made ≡ 1 + count_by is_value s.more =
    ap (count_by is_value) s.all_is ∙ counted s.first s.more true (is_taken (list_any is_marked (take k all)) k s.first s.one_is) in
    omega (arith, here, count)
marked_below words all k n (slots.Kind w ∷ left) made place is at =
    let s = split (slot_named words w) (each_from (slot_at words all) (k + 1) left) made is in
    let below = marked_below words all (k + 1) n left s.more place s.rest_is at in
    let count : count_by is_value made ≡ cond (is_value s.first) 1 0 + count_by is_value s.more =
    ap (count_by is_value) s.all_is ∙ counted s.first s.more (is_value s.first) refl in
    omega (arith, below, count)

pub marked_within : (words : List Entry) (all : List Slot) (made : List MeantSlot) (count place : ℕ) → slots_of words all ≡ Ok made
    → count ≡ count_by is_value made → marked_from 0 all ≡ Some place → place < count
marked_within words all made count place is values at =
    omega (arith, values, marked_below words all 0 0 all made place is at)
