-- A word among the words of a list.
use Rattle.std.proofs.Common.{◌≡◌, ◌∙◌, ℕ, ◌+◌, ◌<◌, ◌≤◌, Bool, true, false, cond, eqb, List, length, drop, get_or, ap, sym}
use Rattle.std.specs.Prelude.{Option, Some, None}
use Rattle.std.specs.Cmp.Lexicographic.{pointwise}
use Rattle.std.proofs.lemmas.List.{at_drop_more, drop_all}
use Rattle.meta_file_syntax.specs.Words.{written_so}

-- the one at a place, and those after it, by whether the word is its own
at_place : {A : Type 0} (text : A → List ℕ) (xs : List A) (i : ℕ) (d : A) (w t : List ℕ) (b c : Bool) → i < length xs
    → t ≡ text (get_or xs i d) → c ≡ pointwise eqb w t → c ≡ b
    → written_so text (drop i xs) w ≡ cond b (Some (get_or xs i d)) (written_so text (drop (i + 1) xs) w)
at_place {A} text xs i d w t b c within is tested so =
    at_drop_more (λ (ys : List A). written_so text ys w) xs i d within
    ∙ ap (λ (e : Bool). cond e (Some (get_or xs i d)) (written_so text (drop (i + 1) xs) w))
    (sym (ap (pointwise eqb w) is) ∙ sym tested ∙ so)

pub this_one : {A : Type 0} (text : A → List ℕ) (xs : List A) (i : ℕ) (d : A) (w t : List ℕ) (c : Bool) (all : Option A) → i < length xs
    → t ≡ text (get_or xs i d) → c ≡ pointwise eqb w t → c ≡ true → written_so text (drop i xs) w ≡ all → Some (get_or xs i d) ≡ all
this_one text xs i d w t c all within is tested so so_far = sym (at_place text xs i d w t true c within is tested so) ∙ so_far

pub not_this_one : {A : Type 0} (text : A → List ℕ) (xs : List A) (i : ℕ) (d : A) (w t : List ℕ) (c : Bool) (all : Option A)
    → i < length xs → t ≡ text (get_or xs i d) → c ≡ pointwise eqb w t → c ≡ false → written_so text (drop i xs) w ≡ all
    → written_so text (drop (i + 1) xs) w ≡ all
not_this_one text xs i d w t c all within is tested so so_far = sym (at_place text xs i d w t false c within is tested so) ∙ so_far

pub none_of_them : {A : Type 0} (text : A → List ℕ) (xs : List A) (i : ℕ) (w : List ℕ) (all : Option A) → length xs ≤ i
    → written_so text (drop i xs) w ≡ all → None ≡ all
none_of_them {A} text xs i w all past so_far = sym (ap (λ (ys : List A). written_so text ys w) (drop_all i xs past)) ∙ so_far
