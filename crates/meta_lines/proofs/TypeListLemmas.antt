-- The word for a list of types.
use Rattle.std.proofs.Common.{◌≡◌, ◌≢◌, ℕ, ◌<◌, ◌==◌, List, [], ◌∷◌, ◌++◌, map, length, take, slice_get, Some, All, codes, refl, sym, ap}
use Rattle.std.proofs.Common.{ap₂, ◌∙◌, arith, append-nil}
use Rattle.std.specs.List.{join_with_byte}
use Rattle.std.proofs.lemmas.List.Elements.{All-nil, All-cons, All-head, All-tail, All-weaker, All-map}
use Rattle.std.proofs.lemmas.List.Splits.{join_with_byte-slice_split}
use Rattle.meta_types.specs.TypeParts.{TypeParts, IsType, name_of, number_of}
use Rattle.meta_types.specs.TypeNumber.{type_with, IsTypeNumber}
use Rattle.meta_types.proofs.Names.{one_name}
use Rattle.meta_lines.specs.Words.{pieces_of}
use Rattle.meta_lines.specs.TypeList.{types_text, AreFirstNamed, NamesNoneAt}
use Rattle.meta_lines.proofs.PieceLemmas.{slice_split_cons, pieces_of-join}
use Rattle.meta_lines.proofs.NameLemmas.{has_no_comma, no_dash}

-- the texts that commas part in a list are the names
pub names_parted : (t : TypeParts) (ts : List TypeParts) → All IsType (t ∷ ts) → pieces_of 44 (types_text (t ∷ ts)) ≡ map name_of (t ∷ ts)
names_parted t ts h =
    pieces_of-join 44 (name_of t) (map name_of ts)
    (All-map (λ w. All (λ b. b ≢ 44) w) name_of (t ∷ ts) (All-weaker IsType (λ u. All (λ b. b ≢ 44) (name_of u)) has_no_comma (t ∷ ts) h))

same_names : (ts us : List TypeParts) → All IsType ts → All IsType us → map name_of ts ≡ map name_of us → ts ≡ us
same_names [] [] h k e = refl
same_names [] (u ∷ us) h k e = absurd (cc)
same_names (t ∷ ts) [] h k e = absurd (cc)
same_names (t ∷ ts) (u ∷ us) h k e =
    let first : name_of t ≡ name_of u = cc in
    let others : map name_of ts ≡ map name_of us = cc in
    ap₂ ◌∷◌ (one_name t u (All-head IsType t ts h) (All-head IsType u us k) first)
    (same_names ts us (All-tail IsType t ts h) (All-tail IsType u us k) others)

-- a list of types begins with the first one's name
begins : (t : TypeParts) (ts : List TypeParts) → codes "-" ≡ types_text (t ∷ ts) → ⊥
begins t [] e = no_dash t [] (e ∙ sym (append-nil (name_of t)))
begins t (u ∷ us) e = no_dash t (44 ∷ join_with_byte 44 (map name_of (u ∷ us))) e

-- a word lists one list of types at most
pub same_types : (ts us : List TypeParts) → All IsType ts → All IsType us → types_text ts ≡ types_text us → ts ≡ us
same_types [] [] h k e = refl
same_types [] (u ∷ us) h k e = absurd (begins u us e)
same_types (t ∷ ts) [] h k e = absurd (begins t ts (sym e))
same_types (t ∷ ts) (u ∷ us) h k e = same_names (t ∷ ts) (u ∷ us) h k (sym (names_parted t ts h) ∙ ap (pieces_of 44) e
    ∙ names_parted u us k)

-- numbers of types name types
pub all_are_types : (ns : List ℕ) → All IsTypeNumber ns → All IsType (map type_with ns)
all_are_types [] h = All-nil IsType
all_are_types (n ∷ ns) h = All-cons IsType (type_with n) (map type_with ns) (All-head IsTypeNumber n ns h).is_type
    (all_are_types ns (All-tail IsTypeNumber n ns h))

-- and are those of the types
pub numbers_back : (ns : List ℕ) → All IsTypeNumber ns → map number_of (map type_with ns) ≡ ns
numbers_back [] h = refl
numbers_back (n ∷ ns) h = ap₂ ◌∷◌ (All-head IsTypeNumber n ns h).numbered (numbers_back ns (All-tail IsTypeNumber n ns h))

-- names that stand in a list are those of types
refused_names : (xs ts : List TypeParts) (name : List ℕ) (rest : List (List ℕ)) → All IsType ts
    → map name_of xs ++ name ∷ rest ≡ map name_of ts → ((u : TypeParts) → IsType u → name_of u ≢ name) → ⊥
refused_names [] [] name rest h e none = absurd (cc)
refused_names [] (t ∷ ts) name rest h e none = none t (All-head IsType t ts h) (cc)
refused_names (x ∷ xs) [] name rest h e none = absurd (cc)
refused_names (x ∷ xs) (t ∷ ts) name rest h e none = refused_names xs ts name rest (All-tail IsType t ts h) (cc) none

-- a word with a piece that names no type lists no types
pub lists_no_types : (xs ts : List TypeParts) (name word : List ℕ) (left rest : List (List ℕ)) → word ≢ codes "-"
    → map name_of xs ++ left ≡ pieces_of 44 word → left ≡ name ∷ rest
    → ((u : TypeParts) → IsType u → name_of u ≢ name) → All IsType ts → types_text ts ≢ word
lists_no_types xs [] name word left rest dash h l none named e = dash (sym e)
lists_no_types xs (t ∷ ts) name word left rest dash h l none named e =
    refused_names xs (t ∷ ts) name rest named (ap (λ ns. map name_of xs ++ ns) (sym l) ∙ h ∙ ap (pieces_of 44) (sym e)
    ∙ names_parted t ts named) none

-- a word whose pieces are the names lists these types
pub lists_types : (ts : List TypeParts) (word : List ℕ) (left : List (List ℕ))
    → map name_of ts ++ left ≡ pieces_of 44 word → left ≡ [] → types_text ts ≡ word
lists_types [] word left h l =
    let more = slice_split_cons (λ b. b == 44) word in
    let none : [] ≡ more.first ∷ more.others = sym l ∙ h ∙ more.is in
    absurd (cc)
lists_types (t ∷ ts) word left h l =
    let names : map name_of (t ∷ ts) ≡ pieces_of 44 word = sym (append-nil (map name_of (t ∷ ts)))
    ∙ ap (λ ns. map name_of (t ∷ ts) ++ ns) (sym l) ∙ h in
    ap (join_with_byte 44) names ∙ join_with_byte-slice_split 44 word

-- one more name is the number's
pub one_more : (ns : List ℕ) (n : ℕ) (name : List ℕ) (left rest all : List (List ℕ))
    → map name_of (map type_with ns) ++ left ≡ all → left ≡ name ∷ rest → name_of (type_with n) ≡ name
    → map name_of (map type_with (ns ++ n ∷ [])) ++ rest ≡ all
one_more [] n name left rest all h l e = ap (λ x. x ∷ rest) e ∙ sym l ∙ h
one_more (m ∷ ns) n name left rest all h l e = ap (λ xs. name_of (type_with m) ∷ xs) (one_more ns n name left rest _ refl l e) ∙ h

-- the names so far are the first
pub first_named : (ns word : List ℕ) (left : List (List ℕ))
    → map name_of (map type_with ns) ++ left ≡ pieces_of 44 word → AreFirstNamed ns word
first_named ns word left h = fronts ns left ∙ ap (take (length ns)) h
  where
    fronts : (ns : List ℕ) (left : List (List ℕ))
        → map name_of (map type_with ns) ≡ take (length ns) (map name_of (map type_with ns) ++ left)
    fronts [] left = refl
    fronts (n ∷ ns) left = ap (λ xs. name_of (type_with n) ∷ xs) (fronts ns left)

-- and the name after them is the next of those that are left
pub next_named : (ns word name : List ℕ) (left rest : List (List ℕ))
    → map name_of (map type_with ns) ++ left ≡ pieces_of 44 word → left ≡ name ∷ rest
    → ((t : TypeParts) → IsType t → name_of t ≢ name) → NamesNoneAt (length ns) word
next_named ns word name left rest h l none =
    (name, ap (λ xs. slice_get xs (length ns)) (sym h ∙ ap (λ xs. map name_of (map type_with ns) ++ xs) l) ∙ next ns, none)
  where
    next : (ns : List ℕ) → slice_get (map name_of (map type_with ns) ++ name ∷ rest) (length ns) ≡ Some name
    next [] = refl
    next (n ∷ ns) = next ns

-- a word for a list has bytes
pub types_have_bytes : (ts : List TypeParts) → 0 < length (types_text ts)
types_have_bytes [] = omega arith
types_have_bytes (t ∷ []) = omega arith
types_have_bytes (t ∷ u ∷ ts) = omega arith
