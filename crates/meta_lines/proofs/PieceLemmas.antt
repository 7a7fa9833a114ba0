-- The pieces of a text between the bytes of one value.
use Rattle.std.proofs.Common.{◌≡◌, ℕ, ◌+◌, ◌-◌, ◌<◌, ◌==◌, ◌≢◌, not, Bool, true, false, cond, nat_lt, Option, None, Some, unwrap_or, inl, inr}
use Rattle.std.proofs.Common.{List, [], ◌∷◌, ◌++◌, All, length, take, drop, refl, sym, ap, ◌∙◌, arith, rules, tests, eq-eqb}
use Rattle.std.specs.List.{slice_split, onto_first, position, position_or_len, join_with_byte}
use Rattle.std.proofs.lemmas.List.Splits.{slice_split_first, slice_split_none, slice_split_at, slice_split-cons_yes, slice_split-cons_no}
use Rattle.std.proofs.lemmas.List.Splits.{join_with_byte-slice_split}
use Rattle.std.proofs.lemmas.List.{take_rest}
use Rattle.std.proofs.lemmas.List.Sums.{prefix_len-le-length, fails_before_first}
use Rattle.std.proofs.lemmas.List.Elements.{All-nil, All-cons, All-head, All-tail, All-same, All-weaker}
use Rattle.std.proofs.lemmas.Bool.{cases_Bool, ltb-false}
use Rattle.meta_lines.specs.Words.{pieces_of}

-- the first piece ends at the first element that passes
pub slice_split_found : (p : ℕ → Bool) (xs : List ℕ) (i : ℕ) → i < length xs → position_or_len p xs ≡ i
    → slice_split p xs ≡ take i xs ∷ slice_split p (take (length xs - (i + 1)) (drop (i + 1) xs))
slice_split_found p xs i l e =
    let first : slice_split p xs ≡ take (position_or_len p xs) xs ∷ slice_split p (drop (position_or_len p xs + 1) xs) =
    slice_split_first p xs 0 (omega arith) in
    first ∙ ap (λ n. take n xs ∷ slice_split p (drop (n + 1) xs)) e ∙ ap (λ ys. take i xs ∷ slice_split p ys) (sym (take_rest xs (i + 1)))

-- there is a first piece
pub record HasFirst (pieces : List (List ℕ)) : Type 0 where
  pub first : List ℕ
  pub others : List (List ℕ)
  pub is : pieces ≡ first ∷ others

pub slice_split_cons : (p : ℕ → Bool) (xs : List ℕ) → HasFirst (slice_split p xs)
slice_split_cons p [] = record { first = []; others = []; is = refl }
slice_split_cons p (x ∷ xs) =
    let more = slice_split_cons p xs in
    elim (cases_Bool (p x)) [
      | inl passes ↦ record { first = []; others = slice_split p xs; is = slice_split-cons_yes p x xs passes }
      | inr fails ↦ record {
        first = x ∷ more.first;
        others = more.others;
        is = slice_split-cons_no p x xs fails
            ∙ ap (onto_first x) more.is;
      }
    ]

-- a text of one piece is that piece
pub only_piece : (byte : ℕ) (text piece : List ℕ) → pieces_of byte text ≡ piece ∷ [] → piece ≡ text
only_piece byte text piece e = sym (ap (join_with_byte byte) e) ∙ join_with_byte-slice_split byte text

-- no piece has an element that passes
pub All-slice_split : (p : ℕ → Bool) (xs : List ℕ) → All (λ piece. All (λ x. p x ≡ false) piece) (slice_split p xs)
All-slice_split p [] = All-cons (λ piece. All (λ x. p x ≡ false) piece) [] [] (All-nil (λ x. p x ≡ false))
    (All-nil (λ piece. All (λ x. p x ≡ false) piece))
All-slice_split p (x ∷ xs) =
    let P : List ℕ → Type 0 = λ piece. All (λ y. p y ≡ false) piece in
    let more = slice_split_cons p xs in
    let held : All P (more.first ∷ more.others) = All-same P (more.first ∷ more.others) (slice_split p xs)
    (sym more.is) (All-slice_split p xs) in
    elim (cases_Bool (p x)) [
      | inl passes ↦ All-same P (slice_split p (x ∷ xs)) ([] ∷ slice_split p xs) (slice_split-cons_yes p x xs passes)
          (All-cons P [] (slice_split p xs) (All-nil (λ y. p y ≡ false)) (All-slice_split p xs))
      | inr fails ↦
          let made : slice_split p (x ∷ xs) ≡ (x ∷ more.first) ∷ more.others = slice_split-cons_no p x xs fails
          ∙ ap (onto_first x) more.is in
          All-same P (slice_split p (x ∷ xs)) ((x ∷ more.first) ∷ more.others) made
          (All-cons P (x ∷ more.first) more.others
          (All-cons (λ y. p y ≡ false) x more.first fails (All-head P more.first more.others held))
          (All-tail P more.first more.others held))
    ]

untested : (byte : ℕ) (xs : List ℕ) → All (λ b. b ≢ byte) xs → All (λ b. (b == byte) ≡ false) xs
untested byte xs h = All-weaker (λ b. b ≢ byte) (λ b. (b == byte) ≡ false) (λ b ne. search (rules, tests)) xs h

-- a text without the byte is one piece
pub whole_piece : (byte : ℕ) (text : List ℕ) → All (λ b. b ≢ byte) text → pieces_of byte text ≡ text ∷ []
whole_piece byte text h = slice_split_none (λ b. b == byte) text (untested byte text h)

-- what stands before the first such byte is the first piece
pub first_piece : (byte : ℕ) (text rest : List ℕ) → All (λ b. b ≢ byte) text
    → pieces_of byte (text ++ byte ∷ rest) ≡ text ∷ pieces_of byte rest
first_piece byte text rest h = slice_split_at (λ b. b == byte) text byte rest (untested byte text h) (eq-eqb byte byte refl)

-- pieces without the byte, joined by it, are the pieces of the whole
pub pieces_of-join : (byte : ℕ) (piece : List ℕ) (pieces : List (List ℕ))
    → All (λ x. All (λ b. b ≢ byte) x) (piece ∷ pieces) → pieces_of byte (join_with_byte byte (piece ∷ pieces)) ≡ piece ∷ pieces
pieces_of-join byte piece [] h = whole_piece byte piece (All-head (λ x. All (λ b. b ≢ byte) x) piece [] h)
pieces_of-join byte piece (next ∷ more) h =
    first_piece byte piece (join_with_byte byte (next ∷ more)) (All-head (λ x. All (λ b. b ≢ byte) x) piece (next ∷ more) h)
    ∙ ap (λ ps. piece ∷ ps) (pieces_of-join byte next more (All-tail (λ x. All (λ b. b ≢ byte) x) piece (next ∷ more) h))

-- the first place of a byte, and the length if there is no such byte
pub place_or_len : (stop : ℕ) (xs : List ℕ) (r : Option ℕ) → r ≡ position (λ b. b == stop) xs
    → unwrap_or r (length xs) ≡ position_or_len (λ b. b == stop) xs
place_or_len stop xs r e = ap (λ o. unwrap_or o (length xs)) e ∙ by_test (nat_lt n (length xs)) refl
  where
    n : ℕ
    n = position_or_len (λ b. b == stop) xs

    by_test : (b : Bool) → nat_lt n (length xs) ≡ b → unwrap_or (cond b (Some n) None) (length xs) ≡ n
    by_test true low = refl
    by_test false high =
        let most = prefix_len-le-length (λ b. not (b == stop)) xs in
        let least = ltb-false n (length xs) high in
        omega (arith, most, least)

-- where the first place is the length, the text is one piece
pub no_place : (byte : ℕ) (text : List ℕ) (end : ℕ) → end ≡ position_or_len (λ b. b == byte) text → end ≡ length text
    → pieces_of byte text ≡ text ∷ []
no_place byte text end is whole = slice_split_none (λ b. b == byte) text
    (λ k d l. fails_before_first (λ b. b == byte) text k d (omega (arith, l, is, whole)))

-- and elsewhere the first piece ends there
pub ends_within : (byte : ℕ) (text : List ℕ) (end : ℕ) → end ≡ position_or_len (λ b. b == byte) text
    → (end ≡ length text → ⊥) → end < length text
ends_within byte text end is other = let most = prefix_len-le-length (λ b. not (b == byte)) text in omega (arith, most, is, other)
