-- The parts of a line: its spaces, the fields of an arm, a head without its blanks.
use Rattle.std.proofs.Common.{◌≡◌, ◌≢◌, ℕ, ◌+◌, ◌-◌, ◌<◌, ◌≤◌, ◌==◌, suc, zero, List, [], ◌∷◌, ◌++◌, length, get_or, take, drop, refl, ap}
use Rattle.std.proofs.Common.{sym, ◌∙◌, append_assoc, add-one, drop-cons, arith}
use Rattle.std.proofs.lemmas.Bool.{ne_eqb}
use Rattle.std.proofs.lemmas.List.{drop_all, take_all}
use Rattle.std.proofs.lemmas.List.Concat.{flat_map-cons}
use Rattle.std.proofs.lemmas.List.Sums.{suffix_len_is}
use Rattle.std.specs.List.{flat_map, suffix_len}
use Rattle.std.specs.Prelude.{codes}
use Rattle.meta_text.specs.Lines.{indented}
use Rattle.meta_text.specs.LineWriter.{without_blanks, after_comma, arm_mark, arm_text}

-- level 0 has no spaces
pub no_level : (level : ℕ) → level ≤ 0 → indented level [] ≡ []
no_level zero h = refl
no_level (suc level) h = let bad : ⊥ = omega arith in absurd bad

-- the spaces of a level above 0 are four, and those of the level below
pub one_level : (level : ℕ) → 0 < level → indented level [] ≡ codes "    " ++ indented (level - 1) []
one_level zero h = let bad : ⊥ = omega arith in absurd bad
one_level (suc level) h = let e : suc level - 1 ≡ level = omega arith in rw e refl

-- spaces before two texts are spaces before the first, and then the second
pub indented-append : (level : ℕ) (a b : List ℕ) → indented level (a ++ b) ≡ indented level a ++ b
indented-append zero a b = refl
indented-append (suc level) a b = ap (λ (xs : List ℕ). codes "    " ++ xs) (indented-append level a b)

-- the fields from place i on, each after a comma, are the field at place i after its comma, and then the later ones
pub next_field : (fields : List (List ℕ)) (i : ℕ) (field shown : List ℕ) → i < length fields → field ≡ get_or fields i field → shown ≡ field
    → flat_map after_comma (drop i fields) ≡ after_comma shown ++ flat_map after_comma (drop (i + 1) fields)
next_field fields i field shown h is same =
    ap (flat_map after_comma) (drop-cons fields i field h)
    ∙ (flat_map-cons after_comma (get_or fields i field) (drop (suc i) fields)
    ∙ (ap (λ (x : List ℕ). after_comma x ++ flat_map after_comma (drop (suc i) fields)) (sym (same ∙ is))
    ∙ ap (λ (n : ℕ). after_comma shown ++ flat_map after_comma (drop n fields)) (sym (add-one i))))

-- no field is left
pub no_field : (fields : List (List ℕ)) (i : ℕ) → length fields ≤ i → flat_map after_comma (drop i fields) ≡ []
no_field fields i h = ap (flat_map after_comma) (drop_all i fields h)

-- the head of an arm with fields is its parts
pub head_parts : (level : ℕ) (name : List ℕ) (fields : List (List ℕ)) (first shown : List ℕ) → 1 ≤ length fields
    → first ≡ get_or fields 0 first → shown ≡ first
    → indented level (name ++ arm_mark fields) ≡ indented level (name ++ codes " { ")
    ++ (shown ++ (flat_map after_comma (take (length fields - 1) (drop 1 fields)) ++ codes " } => "))
head_parts level name [] first shown some is same = let bad : ⊥ = omega arith in absurd bad
head_parts level name (field ∷ fields) first shown some is same =
    let rest : List ℕ = flat_map after_comma fields ++ codes " } => " in
    let count : suc (length fields) - 1 ≡ length fields = omega arith in
    let others : take (suc (length fields) - 1) fields ≡ fields = ap (λ (n : ℕ). take n fields) count
    ∙ take_all (length fields) fields (omega arith) in
    ap (indented level) (sym (append_assoc name (codes " { ") (field ++ rest)))
    ∙ (indented-append level (name ++ codes " { ") (field ++ rest)
    ∙ (ap (λ (xs : List ℕ). indented level (name ++ codes " { ") ++ (xs ++ rest)) (sym (same ∙ is))
    ∙ ap (λ (xs : List (List ℕ)). indented level (name ++ codes " { ") ++ (shown ++ (flat_map after_comma xs ++ codes " } => ")))
    (sym others)))

-- an arm is its head and its body
pub arm_parts : (level : ℕ) (name : List ℕ) (fields : List (List ℕ)) (body : List ℕ)
    → arm_text level name fields body ≡ indented level (name ++ arm_mark fields) ++ (body ++ codes ",\n")
arm_parts level name fields body =
    ap (indented level) (sym (append_assoc name (arm_mark fields) (body ++ codes ",\n")))
    ∙ indented-append level (name ++ arm_mark fields) (body ++ codes ",\n")

-- n is where the blanks at the end begin
pub blanks_begin : (bytes : List ℕ) (n : ℕ) → n ≤ length bytes → ((k : ℕ) → n ≤ k → k < length bytes → get_or bytes k 0 ≡ 32)
    → (0 < n → get_or bytes (n - 1) 0 ≢ 32) → take n bytes ≡ without_blanks bytes
blanks_begin bytes n h blanks stop =
    let s : suffix_len (λ (byte : ℕ). byte == 32) bytes ≡ length bytes - n =
    suffix_len_is (λ (byte : ℕ). byte == 32) bytes n 0 h (λ k a b. ap (λ (byte : ℕ). byte == 32) (blanks k a b))
    (λ some. ne_eqb (get_or bytes (n - 1) 0) 32 (stop some)) in
    let e : n ≡ length bytes - suffix_len (λ (byte : ℕ). byte == 32) bytes = rw s (omega arith) in
    ap (λ (m : ℕ). take m bytes) e
