-- The text of a set, part by part.
use Rattle.std.proofs.Common.{◌≡◌, ℕ, ◌||◌, Bool, true, false, List, [], ◌∷◌, ◌++◌, ap, ◌∙◌, sym, refl, codes, append_assoc}
use Rattle.std.specs.Prelude.{if◌then◌else◌}
use Rattle.std.specs.List.{join_by}
use Rattle.std.specs.Fmt.{decimal}
use Rattle.std.proofs.lemmas.Bool.{false≢true}
use Rattle.std.proofs.lemmas.List.{append-nil, flat_map_more}
use Rattle.meta_typevar.specs.Image.{has_some}
use Rattle.meta_typevar.specs.TypeSetParts.{TypeSetParts}
use Rattle.meta_typevar.specs.Concrete.{braced, part_texts, part_text, set_text}

-- one more number
pub number_more : (xs : List ℕ) (x : ℕ) (follows : Bool) → follows ≡ has_some xs
    → join_by decimal (codes ", ") (xs ++ x ∷ []) ≡ join_by decimal (codes ", ") xs ++ ((if follows then codes ", " else []) ++ decimal x)
number_more [] x false e = append-nil (decimal x)
number_more [] x true e = absurd (false≢true (sym e))
number_more (y ∷ ys) x true e = sym (flat_map_more (λ (z : ℕ). codes ", " ++ decimal z) (decimal y) ys x)
number_more (y ∷ ys) x false e = absurd (false≢true e)

-- what is shown of a part
pub part_hidden : (name xs : List ℕ) (follows : Bool) → has_some xs ≡ false → part_text name xs follows ≡ []
part_hidden name [] follows e = refl
part_hidden name (x ∷ xs) follows e = absurd (false≢true (sym e))

pub part_shown : (name xs : List ℕ) (follows : Bool) → has_some xs ≡ true
    → part_text name xs follows ≡ (if follows then codes ", " else []) ++ (name ++ (codes "=" ++ braced xs))
part_shown name [] follows e = absurd (false≢true e)
part_shown name (x ∷ xs) follows e = refl

-- one more part
abbrev has_parts : List (List ℕ) → Bool
has_parts [] = false
has_parts (p ∷ ps) = true

abbrev joined : List (List ℕ) → List ℕ
joined ps = join_by (λ p. p) (codes ", ") ps

part_more : (ps : List (List ℕ)) (name xs : List ℕ) → joined (ps ++ part_texts name xs) ≡ joined ps ++ part_text name xs (has_parts ps)
part_more ps name [] = ap joined (append-nil ps) ∙ sym (append-nil (joined ps))
part_more [] name (x ∷ xs) = append-nil _
part_more (p ∷ ps) name (x ∷ xs) = sym (flat_map_more (λ (q : List ℕ). codes ", " ++ q) p ps (name ++ (codes "=" ++ braced (x ∷ xs))))

has_more : (ps : List (List ℕ)) (name xs : List ℕ) → has_parts (ps ++ part_texts name xs) ≡ (has_parts ps || has_some xs)
has_more [] name [] = refl
has_more [] name (x ∷ xs) = refl
has_more (p ∷ ps) name xs = refl

-- the four parts, each with a comma where one before it is shown
four_parts : (s : TypeSetParts)
    → joined (((part_texts (codes "lanes") s.lanes ++ part_texts (codes "dynamic_lanes") s.dynamic_lanes)
    ++ part_texts (codes "ints") s.ints) ++ part_texts (codes "floats") s.floats)
    ≡ ((part_text (codes "lanes") s.lanes false ++ part_text (codes "dynamic_lanes") s.dynamic_lanes (has_some s.lanes))
    ++ part_text (codes "ints") s.ints (has_some s.lanes || has_some s.dynamic_lanes))
    ++ part_text (codes "floats") s.floats ((has_some s.lanes || has_some s.dynamic_lanes) || has_some s.ints)
four_parts s =
    let a = part_texts (codes "lanes") s.lanes in
    let b = a ++ part_texts (codes "dynamic_lanes") s.dynamic_lanes in
    let c = b ++ part_texts (codes "ints") s.ints in
    let has_a : has_parts a ≡ has_some s.lanes = has_more [] (codes "lanes") s.lanes in
    let has_b : has_parts b ≡ (has_some s.lanes || has_some s.dynamic_lanes) = has_more a (codes "dynamic_lanes") s.dynamic_lanes
    ∙ ap (λ h. h || has_some s.dynamic_lanes) has_a in
    let has_c : has_parts c ≡ ((has_some s.lanes || has_some s.dynamic_lanes) || has_some s.ints) = has_more b (codes "ints") s.ints
    ∙ ap (λ h. h || has_some s.ints) has_b in
    let to_a : joined a ≡ part_text (codes "lanes") s.lanes false = part_more [] (codes "lanes") s.lanes in
    let to_b = part_more a (codes "dynamic_lanes") s.dynamic_lanes
    ∙ (λ i. to_a i ++ part_text (codes "dynamic_lanes") s.dynamic_lanes (has_a i)) in
    let to_c = part_more b (codes "ints") s.ints ∙ (λ i. to_b i ++ part_text (codes "ints") s.ints (has_b i)) in
    part_more c (codes "floats") s.floats ∙ (λ i. to_c i ++ part_text (codes "floats") s.floats (has_c i))

from_left : (t a b c d e : List ℕ) → t ++ (a ++ (b ++ (c ++ (d ++ e)))) ≡ t ++ ((((a ++ b) ++ c) ++ d) ++ e)
from_left t a b c d e = ap (λ (l : List ℕ). t ++ l) (simp append_assoc refl)

-- what is written of four parts of these numbers is the text of the set
pub set_shown : (s : TypeSetParts) (l m n l' m' n' o : List ℕ) (a b c : Bool) → l ≡ s.lanes → m ≡ s.dynamic_lanes → n ≡ s.ints
    → a ≡ has_some l → b ≡ has_some m → c ≡ has_some n → l' ≡ s.lanes → m' ≡ s.dynamic_lanes → n' ≡ s.ints → o ≡ s.floats
    → codes "TypeSet(" ++ (part_text (codes "lanes") l' false ++ (part_text (codes "dynamic_lanes") m' a
    ++ (part_text (codes "ints") n' (a || b) ++ (part_text (codes "floats") o ((a || b) || c) ++ codes ")")))) ≡ set_text s
set_shown s l m n l' m' n' o a b c has_l has_m has_n is_a is_b is_c el em en eo =
    let to_a : a ≡ has_some s.lanes = is_a ∙ ap has_some has_l in
    let to_b : b ≡ has_some s.dynamic_lanes = is_b ∙ ap has_some has_m in
    let to_c : c ≡ has_some s.ints = is_c ∙ ap has_some has_n in
    from_left (codes "TypeSet(") (part_text (codes "lanes") l' false) (part_text (codes "dynamic_lanes") m' a)
    (part_text (codes "ints") n' (a || b)) (part_text (codes "floats") o ((a || b) || c)) (codes ")")
    ∙ (λ i. codes "TypeSet(" ++ ((((part_text (codes "lanes") (el i) false ++ part_text (codes "dynamic_lanes") (em i) (to_a i))
    ++ part_text (codes "ints") (en i) (to_a i || to_b i)) ++ part_text (codes "floats") (eo i) ((to_a i || to_b i) || to_c i))
    ++ codes ")"))
    ∙ ap (λ (t : List ℕ). codes "TypeSet(" ++ (t ++ codes ")")) (sym (four_parts s))
