-- The word for types that are sought.
use Rattle.std.proofs.Common.{◌≡◌, ◌≢◌, ℕ, ◌<◌, ◌==◌, List, [], ◌∷◌, ◌++◌, map, length, Option, Some, None, IfSome, All, codes, refl, sym}
use Rattle.std.proofs.Common.{ap, ap₂, ◌∙◌, arith, append-nil}
use Rattle.std.specs.List.{join_with_byte}
use Rattle.std.proofs.lemmas.List.Elements.{All-nil, All-cons, All-head, All-tail, All-weaker, All-map}
use Rattle.std.proofs.lemmas.List.Splits.{join_with_byte-slice_split}
use Rattle.meta_types.specs.TypeParts.{NumberKind, IntKind, FloatKind, TypeParts, IsType, letter, name_of, number_of}
use Rattle.meta_types.specs.TypeNumber.{type_with, IsTypeNumber}
use Rattle.meta_types.proofs.Names.{one_name}
use Rattle.meta_lines.specs.Words.{pieces_of}
use Rattle.meta_lines.proofs.PieceLemmas.{slice_split_cons, pieces_of-join}
use Rattle.meta_lines.proofs.NameLemmas.{has_no_comma, no_dash}
use Rattle.meta_query_lines.specs.Request.{sought_name, sought_text, AreSought}

-- the first byte of a word
abbrev pub byte_in : List ℕ → ℕ
byte_in [] = 0
byte_in (b ∷ bs) = b

-- ---- a word is of one list

letter_other : (k : NumberKind) → 63 ≡ letter k → ⊥
letter_other IntKind e = omega (arith, e)
letter_other FloatKind e = omega (arith, e)

-- `?` is no type's name
pub not_any : (t : TypeParts) → codes "?" ≡ name_of t → ⊥
not_any t e = let first : 63 ≡ letter t.kind = cc in letter_other t.kind first

lacks_comma : (o : Option ℕ) → IfSome o IsTypeNumber → All (λ b. b ≢ 44) (sought_name o)
lacks_comma None h = All-cons (λ b. b ≢ 44) 63 [] (λ e. omega (arith, e)) (All-nil (λ b. b ≢ 44))
lacks_comma (Some n) h = has_no_comma (type_with n) h.is_type

same_name : (o p : Option ℕ) → IfSome o IsTypeNumber → IfSome p IsTypeNumber → sought_name o ≡ sought_name p → o ≡ p
same_name None None h g e = refl
same_name None (Some m) h g e = absurd (not_any (type_with m) e)
same_name (Some n) None h g e = absurd (not_any (type_with n) (sym e))
same_name (Some n) (Some m) h g e =
    ap Some (sym h.numbered ∙ ap number_of (one_name (type_with n) (type_with m) h.is_type g.is_type e) ∙ g.numbered)

same_names : (os ps : List (Option ℕ)) → AreSought os → AreSought ps → map sought_name os ≡ map sought_name ps → os ≡ ps
same_names [] [] h g e = refl
same_names [] (p ∷ ps) h g e = absurd (cc)
same_names (o ∷ os) [] h g e = absurd (cc)
same_names (o ∷ os) (p ∷ ps) h g e =
    let P : Option ℕ → Type 0 = λ o. IfSome o IsTypeNumber in
    let first : sought_name o ≡ sought_name p = cc in
    let others : map sought_name os ≡ map sought_name ps = cc in
    ap₂ ◌∷◌ (same_name o p (All-head P o os h) (All-head P p ps g) first)
    (same_names os ps (All-tail P o os h) (All-tail P p ps g) others)

names_parted : (o : Option ℕ) (os : List (Option ℕ)) → AreSought (o ∷ os)
    → pieces_of 44 (sought_text (o ∷ os)) ≡ map sought_name (o ∷ os)
names_parted o os h =
    pieces_of-join 44 (sought_name o) (map sought_name os)
    (All-map (λ w. All (λ b. b ≢ 44) w) sought_name (o ∷ os)
    (All-weaker (λ (o : Option ℕ). IfSome o IsTypeNumber) (λ o. All (λ b. b ≢ 44) (sought_name o)) lacks_comma (o ∷ os) h))

begins : (o : Option ℕ) (os : List (Option ℕ)) → codes "-" ≡ sought_text (o ∷ os) → ⊥
begins None [] e = let b = ap byte_in e in omega (arith, b)
begins None (p ∷ ps) e = let b = ap byte_in e in omega (arith, b)
begins (Some n) [] e = no_dash (type_with n) [] (e ∙ sym (append-nil (name_of (type_with n))))
begins (Some n) (p ∷ ps) e = no_dash (type_with n) (44 ∷ join_with_byte 44 (map sought_name (p ∷ ps))) e

pub same_sought : (os ps : List (Option ℕ)) → AreSought os → AreSought ps → sought_text os ≡ sought_text ps → os ≡ ps
same_sought [] [] h g e = refl
same_sought [] (p ∷ ps) h g e = absurd (begins p ps e)
same_sought (o ∷ os) [] h g e = absurd (begins o os (sym e))
same_sought (o ∷ os) (p ∷ ps) h g e = same_names (o ∷ os) (p ∷ ps) h g (sym (names_parted o os h) ∙ ap (pieces_of 44) e
    ∙ names_parted p ps g)

-- a word for a list has bytes
pub sought_has_bytes : (os : List (Option ℕ)) → 0 < length (sought_text os)
sought_has_bytes [] = omega arith
sought_has_bytes (None ∷ []) = omega arith
sought_has_bytes (None ∷ p ∷ ps) = omega arith
sought_has_bytes (Some n ∷ []) = omega arith
sought_has_bytes (Some n ∷ p ∷ ps) = omega arith

-- ---- reading the names of a word

refused_names : (xs os : List (Option ℕ)) (name : List ℕ) (rest : List (List ℕ)) → AreSought os
    → map sought_name xs ++ name ∷ rest ≡ map sought_name os → ((o : Option ℕ) → IfSome o IsTypeNumber → sought_name o ≢ name) → ⊥
refused_names [] [] name rest h e none = absurd (cc)
refused_names [] (o ∷ os) name rest h e none = none o (All-head (λ (o : Option ℕ). IfSome o IsTypeNumber) o os h) (cc)
refused_names (x ∷ xs) [] name rest h e none = absurd (cc)
refused_names (x ∷ xs) (o ∷ os) name rest h e none =
    refused_names xs os name rest (All-tail (λ (o : Option ℕ). IfSome o IsTypeNumber) o os h) (cc) none

-- a word with a piece that names nothing that can be sought lists nothing
pub lists_nothing : (xs os : List (Option ℕ)) (name word : List ℕ) (left rest : List (List ℕ)) → word ≢ codes "-"
    → map sought_name xs ++ left ≡ pieces_of 44 word → left ≡ name ∷ rest
    → ((o : Option ℕ) → IfSome o IsTypeNumber → sought_name o ≢ name) → AreSought os → sought_text os ≢ word
lists_nothing xs [] name word left rest dash h l none sought e = dash (sym e)
lists_nothing xs (o ∷ os) name word left rest dash h l none sought e =
    refused_names xs (o ∷ os) name rest sought (ap (λ ns. map sought_name xs ++ ns) (sym l) ∙ h ∙ ap (pieces_of 44) (sym e)
    ∙ names_parted o os sought) none

-- a word whose pieces are the names lists these
pub lists_sought : (os : List (Option ℕ)) (word : List ℕ) (left : List (List ℕ))
    → map sought_name os ++ left ≡ pieces_of 44 word → left ≡ [] → sought_text os ≡ word
lists_sought [] word left h l =
    let more = slice_split_cons (λ b. b == 44) word in
    let none : [] ≡ more.first ∷ more.others = sym l ∙ h ∙ more.is in
    absurd (cc)
lists_sought (o ∷ os) word left h l =
    let names : map sought_name (o ∷ os) ≡ pieces_of 44 word = sym (append-nil (map sought_name (o ∷ os)))
    ∙ ap (λ ns. map sought_name (o ∷ os) ++ ns) (sym l) ∙ h in
    ap (join_with_byte 44) names ∙ join_with_byte-slice_split 44 word

-- one more name is read
pub one_more_sought : (os : List (Option ℕ)) (o : Option ℕ) (name : List ℕ) (left rest all : List (List ℕ))
    → map sought_name os ++ left ≡ all → left ≡ name ∷ rest → sought_name o ≡ name → map sought_name (os ++ o ∷ []) ++ rest ≡ all
one_more_sought [] o name left rest all h l e = ap (λ x. x ∷ rest) e ∙ sym l ∙ h
one_more_sought (p ∷ os) o name left rest all h l e = ap (λ xs. sought_name p ∷ xs) (one_more_sought os o name left rest _ refl l e) ∙ h

-- a name that is neither `?` nor a type's asks for nothing
pub names_nothing : (name : List ℕ) → name ≢ codes "?" → ((t : TypeParts) → IsType t → name_of t ≢ name)
    → (o : Option ℕ) → IfSome o IsTypeNumber → sought_name o ≢ name
names_nothing name other none None h e = other (sym e)
names_nothing name other none (Some n) h e = none (type_with n) h.is_type e
