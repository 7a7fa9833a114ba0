-- The first line of an input, and the lines after it.
use Rattle.std.proofs.Common.{◌≡◌, ℕ, ◌<◌, ◌≤◌, ◌==◌, Bool, true, false, List, [], ◌∷◌, length, refl, sym, ap, ap₂, ◌∙◌, subst, arith}
use Rattle.std.proofs.Common.{rules, tests, Option, Some, None, unwrap_or}
use Rattle.std.specs.List.{slice_split, onto_first}
use Rattle.std.proofs.lemmas.List.Splits.{slice_split-cons_yes, slice_split-cons_no}
use Rattle.std.specs.Borrow.{Bor}
use Rattle.std.specs.Option.{option_map_or}
use Rattle.std.specs.Str.Lines.{strip_carriage_return}
use Rattle.meta_lines.specs.Lines.{lines_of, lines_of_pieces}
use Rattle.meta_lines.specs.Words.{pieces_of}
use Rattle.meta_lines.proofs.PieceLemmas.{HasFirst, slice_split_cons, only_piece}

last_line : (line : List ℕ) → 0 < length line → lines_of_pieces (line ∷ []) ≡ strip_carriage_return line ∷ []
last_line [] l = absurd (omega arith)
last_line (x ∷ xs) l = search (rules, tests)

-- after the first piece comes what a text has after its first LF, or nothing
after : (input line : List ℕ) (rest : Option (Bor (List ℕ))) (end : Bor (List ℕ)) → 0 < length input → end.now ≡ []
    → pieces_of 10 input ≡ line ∷ option_map_or (λ r. pieces_of 10 r.now) rest []
    → lines_of input ≡ strip_carriage_return line ∷ lines_of (unwrap_or rest end).now
after input line None end l e h =
    let same = only_piece 10 input line h in
    ap lines_of_pieces h ∙ last_line line (omega (arith, ap length same)) ∙ ap (λ ys. strip_carriage_return line ∷ lines_of ys) (sym e)
after input line (Some r) end l e h =
    let more = slice_split_cons (λ b. b == 10) r.now in
    ap lines_of_pieces (h ∙ ap (λ ps. line ∷ ps) more.is) ∙ ap (λ ps. strip_carriage_return line ∷ lines_of_pieces ps) (sym more.is)

-- the first piece, without its CR, is the first line
pub next_line : (input piece line : List ℕ) (rest : Option (Bor (List ℕ))) (end left : Bor (List ℕ))
    → 0 < length input → pieces_of 10 input ≡ piece ∷ option_map_or (λ r. pieces_of 10 r.now) rest []
    → line ≡ strip_carriage_return piece → left ≡ unwrap_or rest end → end.now ≡ [] → lines_of input ≡ line ∷ lines_of left.now
next_line input piece line rest end left l h f u e = after input piece rest end l e h
    ∙ ap₂ (λ x (y : Bor (List ℕ)). x ∷ lines_of y.now) (sym f) (sym u)

-- an input has no more lines than bytes
one_byte_more : (x : ℕ) (xs : List ℕ) → length (lines_of xs) ≤ length xs → length (lines_of (x ∷ xs)) ≤ length (x ∷ xs)
one_byte_more x xs below = by_test (x == 10) refl
  where
    more : HasFirst (slice_split (λ b. b == 10) xs)
    more = slice_split_cons (λ b. b == 10) xs

    few : length (lines_of_pieces (more.first ∷ more.others)) ≤ length xs
    few = subst (λ ps. length (lines_of_pieces ps) ≤ length xs) more.is below

    held : (others : List (List ℕ)) → length (lines_of_pieces (more.first ∷ others)) ≤ length xs
        → length (lines_of_pieces ((x ∷ more.first) ∷ others)) ≤ length (x ∷ xs)
    held [] h = let e = ap length (last_line (x ∷ more.first) (omega arith)) in omega (arith, e)
    held (o ∷ os) h = omega (arith, h)

    by_test : (b : Bool) → (x == 10) ≡ b → length (lines_of (x ∷ xs)) ≤ length (x ∷ xs)
    by_test true is = subst (λ ps. length (lines_of_pieces ps) ≤ length (x ∷ xs))
        (sym (slice_split-cons_yes (λ b. b == 10) x xs is ∙ ap (λ ps. [] ∷ ps) more.is)) (let h = few in omega (arith, h))
    by_test false is = subst (λ ps. length (lines_of_pieces ps) ≤ length (x ∷ xs))
        (sym (slice_split-cons_no (λ b. b == 10) x xs is ∙ ap (onto_first x) more.is)) (held more.others few)

pub few_lines : (input : List ℕ) → length (lines_of input) ≤ length input
few_lines [] = omega arith
few_lines (x ∷ xs) = one_byte_more x xs (few_lines xs)
