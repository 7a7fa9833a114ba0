-- The texts of types that are added one after the other, by lane types and by sizes.
use Rattle.std.proofs.Common.{◌≡◌, ℕ, ◌+◌, ◌/◌, ◌<◌, ◌≤◌, nat_lt, cond, Bool, true, false, suc, List, [], ◌∷◌, ◌++◌, length, map, get_or}
use Rattle.std.proofs.Common.{drop, refl, ap, sym, ◌∙◌, append_assoc, add-one, drop-cons}
use Rattle.std.proofs.lemmas.Grind.{flat_map-append}
use Rattle.std.proofs.lemmas.List.{drop_all}
use Rattle.std.proofs.lemmas.List.Concat.{flat_map-cons}
use Rattle.std.specs.List.{filter, flat_map}
use Rattle.meta_types.specs.TypeParts.{TypeParts}
use Rattle.meta_types.specs.Lane.{lane_parts}
use Rattle.meta_types.specs.LaneTypes.{lane_types}
use Rattle.meta_types.specs.AllTypes.{scalars}
use Rattle.meta_types.specs.declared.lane.LaneType.{LaneType}
use Rattle.meta_text.proofs.Pieces.{moved, ended}
use Rattle.meta_rust_text.specs.TypesText.{type_constant, sized_text, vectors_of, dynamic_vectors_of, vector_sizes, types_text}

-- the texts of the lane types that are left, and what was added before
pub at_first : (f : TypeParts → List ℕ) (out : List ℕ) (left : List LaneType) → left ≡ lane_types
    → out ++ flat_map f (map lane_parts left) ≡ out ++ flat_map f scalars
at_first f out left e = ap (λ (xs : List LaneType). out ++ flat_map f (map lane_parts xs)) e

pub one_more : (f : TypeParts → List ℕ) (out more whole : List ℕ) (left rest : List LaneType) (lane : LaneType) → left ≡ lane ∷ rest
    → more ≡ out ++ f (lane_parts lane) → out ++ flat_map f (map lane_parts left) ≡ whole → more ++ flat_map f (map lane_parts rest) ≡ whole
one_more f out more whole left rest lane e added so =
    moved out (f (lane_parts lane)) (flat_map f (map lane_parts rest)) more (flat_map f (map lane_parts left)) whole added
    (ap (λ (xs : List LaneType). flat_map f (map lane_parts xs)) e) so

pub at_last : (f : TypeParts → List ℕ) (out whole : List ℕ) (left : List LaneType) → left ≡ []
    → out ++ flat_map f (map lane_parts left) ≡ whole → out ≡ whole
at_last f out whole left e so =
    ended out (flat_map f (map lane_parts left)) whole (ap (λ (xs : List LaneType). flat_map f (map lane_parts xs)) e) so

-- the smaller lane types are taken out one by one
module _ (made : TypeParts → ℕ → TypeParts) (bits : ℕ) where
  by_test : (b : Bool) (lane : TypeParts) (lanes : List TypeParts)
      → cond b (type_constant (made lane (bits / lane.width))) []
      ++ flat_map type_constant (map (λ (x : TypeParts). made x (bits / x.width)) lanes)
      ≡ flat_map type_constant (map (λ (x : TypeParts). made x (bits / x.width)) (cond b (lane ∷ lanes) lanes))
  by_test true lane lanes = refl
  by_test false lane lanes = refl

  pub sized : (lanes : List TypeParts) → flat_map (sized_text made bits) lanes
      ≡ flat_map type_constant (map (λ (x : TypeParts). made x (bits / x.width)) (filter (λ (x : TypeParts). nat_lt x.width bits) lanes))
  sized [] = refl
  sized (lane ∷ lanes) =
      ap (λ (xs : List ℕ). sized_text made bits lane ++ xs) (sized lanes)
      ∙ by_test (nat_lt lane.width bits) lane (filter (λ (x : TypeParts). nat_lt x.width bits) lanes)

-- the text of the vectors of a size
abbrev pub size_text : ℕ → List ℕ
size_text bits = flat_map type_constant (vectors_of bits) ++ flat_map type_constant (dynamic_vectors_of bits)

-- the texts of the sizes that are left, and what was added before
pub one_size : (out mid more whole : List ℕ) (i : ℕ) → i < length vector_sizes
    → mid ≡ out ++ flat_map type_constant (vectors_of (get_or vector_sizes i 0))
    → more ≡ mid ++ flat_map type_constant (dynamic_vectors_of (get_or vector_sizes i 0))
    → out ++ flat_map size_text (drop i vector_sizes) ≡ whole → more ++ flat_map size_text (drop (i + 1) vector_sizes) ≡ whole
one_size out mid more whole i h first then so =
    let bits = get_or vector_sizes i 0 in
    let rest : List ℕ = flat_map size_text (drop (suc i) vector_sizes) in
    let added : more ≡ out ++ size_text bits = then ∙ (ap (λ (xs : List ℕ). xs ++ flat_map type_constant (dynamic_vectors_of bits)) first
    ∙ append_assoc out (flat_map type_constant (vectors_of bits)) (flat_map type_constant (dynamic_vectors_of bits))) in
    ap (λ (n : ℕ). more ++ flat_map size_text (drop n vector_sizes)) (add-one i)
    ∙ (ap (λ (xs : List ℕ). xs ++ rest) added
    ∙ (append_assoc out (size_text bits) rest
    ∙ (sym (ap (λ (xs : List ℕ). out ++ xs) (ap (flat_map size_text) (drop-cons vector_sizes i 0 h)
    ∙ flat_map-cons size_text bits (drop (suc i) vector_sizes))) ∙ so)))

pub no_size : (out whole : List ℕ) (i : ℕ) → length vector_sizes ≤ i → out ++ flat_map size_text (drop i vector_sizes) ≡ whole → out ≡ whole
no_size out whole i h so =
    ended out (flat_map size_text (drop i vector_sizes)) whole (ap (flat_map size_text) (drop_all i vector_sizes h)) so

-- the text of the types of all sizes, size by size
by_size : (sizes : List ℕ) → flat_map type_constant (flat_map (λ (bits : ℕ). vectors_of bits ++ dynamic_vectors_of bits) sizes)
    ≡ flat_map size_text sizes
by_size [] = refl
by_size (bits ∷ sizes) =
    flat_map-append type_constant (vectors_of bits ++ dynamic_vectors_of bits)
    (flat_map (λ (n : ℕ). vectors_of n ++ dynamic_vectors_of n) sizes)
    ∙ (ap (λ (xs : List ℕ). xs ++ flat_map type_constant (flat_map (λ (n : ℕ). vectors_of n ++ dynamic_vectors_of n) sizes))
    (flat_map-append type_constant (vectors_of bits) (dynamic_vectors_of bits))
    ∙ ap (λ (xs : List ℕ). size_text bits ++ xs) (by_size sizes))

pub whole_text : (none lanes out : List ℕ) → none ≡ [] → lanes ≡ none ++ flat_map type_constant scalars
    → out ≡ lanes ++ flat_map size_text vector_sizes → out ≡ types_text
unfolding types_text
whole_text none lanes out e first then =
    then
    ∙ (ap (λ (xs : List ℕ). xs ++ flat_map size_text vector_sizes) (first ∙ ap (λ (xs : List ℕ). xs ++ flat_map type_constant scalars) e)
    ∙ (sym (ap (λ (xs : List ℕ). flat_map type_constant scalars ++ xs) (by_size vector_sizes))
    ∙ sym (flat_map-append type_constant scalars (flat_map (λ (bits : ℕ). vectors_of bits ++ dynamic_vectors_of bits) vector_sizes))))
