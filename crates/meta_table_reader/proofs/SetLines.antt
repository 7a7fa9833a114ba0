-- The lines that show type sets.
use Rattle.std.proofs.Common.{◌≡◌, ℕ, ◌<◌, ◌^◌, ◌==◌, cond, ltb, Bool, true, false, IsTrue, List, [], ◌∷◌, ◌++◌, All, map, Option, None}
use Rattle.std.proofs.Common.{Some, codes, bit_and, refl}
use Rattle.std.specs.List.{list_all}
use Rattle.std.specs.Fmt.{decimal}
use Rattle.std.proofs.lemmas.Bool.{and_parts, and_from, ltb-true}
use Rattle.std.proofs.lemmas.List.Elements.{All-nil, All-cons, All-map, All-filter, All-weaker}
use Rattle.meta_typevar.specs.declared.masks.Masks.{Masks}
use Rattle.meta_table_text.specs.TypeSetText.{parted_after, powers, held, members, part_of, masks_text, set_or_nothing, set_comment}
use Rattle.meta_table_reader.specs.Spans.{lacks, is_line}
use Rattle.meta_table_reader.proofs.Ends.{number_lacks}
use Rattle.meta_table_reader.proofs.Lacking.{both_lack, line_after}
use Rattle.meta_table_reader.proofs.ItemsRead.{all_first, all_after}

-- no LF stands in the text
abbrev pub HasNoEnd : List ℕ → Type 0
HasNoEnd text = lacks 10 text ≡ true

-- texts that are parted by commas have no LF where none of them has
pub parted_lacks : (before : List ℕ) (texts : List (List ℕ)) → HasNoEnd before → All HasNoEnd texts → HasNoEnd (parted_after before texts)
parted_lacks before [] free all = refl
parted_lacks before (text ∷ texts) free all =
    both_lack 10 before (text ++ parted_after (codes ", ") texts) free
    (both_lack 10 text (parted_after (codes ", ") texts) (all_first HasNoEnd text texts all)
    (parted_lacks (codes ", ") texts refl (all_after HasNoEnd text texts all)))

-- numbers that pass their test are small
all_small : (ns : List ℕ) → list_all (λ n. ltb n (2 ^ 64)) ns ≡ true → All (λ n. n < 2 ^ 64) ns
all_small [] e = All-nil (λ n. n < 2 ^ 64)
all_small (n ∷ ns) e =
    let (here, after) = and_parts (ltb n (2 ^ 64)) (list_all (λ n. ltb n (2 ^ 64)) ns) e in
    All-cons (λ n. n < 2 ^ 64) n ns (ltb-true n (2 ^ 64) here) (all_small ns after)

members_lack : (mask : ℕ) → HasNoEnd (members mask)
unfolding members
members_lack mask =
    parted_lacks [] (map decimal (held mask powers)) refl
    (All-map HasNoEnd decimal (held mask powers) (All-filter (λ n. bit_and mask n == n) (λ n. HasNoEnd (decimal n)) powers
    (All-weaker (λ n. n < 2 ^ 64) (λ n. HasNoEnd (decimal n)) (number_lacks 10 refl) powers (all_small powers refl))))

part_lacks : (before : List ℕ) (mask : ℕ) → HasNoEnd before → HasNoEnd (part_of before mask)
unfolding part_of
part_lacks before mask free = by_test (mask == 0)
  where
    by_test : (b : Bool) → HasNoEnd (cond b [] (before ++ (members mask ++ codes "}")))
    by_test true = refl
    by_test false = both_lack 10 before (members mask ++ codes "}") free (both_lack 10 (members mask) (codes "}") (members_lack mask) refl)

-- the text of a set has no LF
pub set_text_lacks : (m : Masks) → HasNoEnd (masks_text m)
unfolding masks_text
set_text_lacks m =
    both_lack 10 (members m.lanes) (codes "}" ++ (part_of (codes ", ints={") m.ints
    ++ (part_of (codes ", floats={") m.floats ++ codes ")"))) (members_lack m.lanes)
    (both_lack 10 (part_of (codes ", ints={") m.ints) (part_of (codes ", floats={") m.floats ++ codes ")")
    (part_lacks (codes ", ints={") m.ints refl)
    (both_lack 10 (part_of (codes ", floats={") m.floats) (codes ")") (part_lacks (codes ", floats={") m.floats refl) refl))

pub set_or_nothing_lacks : (m : Option Masks) → HasNoEnd (set_or_nothing m)
set_or_nothing_lacks None = refl
set_or_nothing_lacks (Some m) = set_text_lacks m

-- a comment on a set is a line
pub set_comment_line : (about set : List ℕ) → HasNoEnd about → HasNoEnd set → is_line (set_comment about set) ≡ true
unfolding set_comment
set_comment_line about set free_about free_set = line_after about (set ++ 10 ∷ []) free_about (line_after set (10 ∷ []) free_set refl)

-- lines that pass their test
pub are_lines : (lines : List (List ℕ)) → list_all is_line lines ≡ true → All (λ line. IsTrue (is_line line)) lines
are_lines [] e = All-nil (λ line. IsTrue (is_line line))
are_lines (line ∷ lines) e =
    let (here, after) = and_parts (is_line line) (list_all is_line lines) e in
    All-cons (λ line. IsTrue (is_line line)) line lines here (are_lines lines after)

-- the lines at the end of the block of a set
pub set_lines : (m : Masks) → All (λ line. IsTrue (is_line line))
    (set_comment [] (masks_text m) ∷ codes "    }\n" ∷ codes "    ,\n" ∷ [])
set_lines m = are_lines (set_comment [] (masks_text m) ∷ codes "    }\n" ∷ codes "    ,\n" ∷ [])
    (and_from (is_line (set_comment [] (masks_text m))) true (set_comment_line [] (masks_text m) refl (set_text_lacks m)) refl)
