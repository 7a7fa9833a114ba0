-- Lists of lane types and of types, as loops make them.
use Rattle.std.proofs.Common.{◌≡◌, ℕ, ◌+◌, ◌<◌, ◌⊎◌, inl, inr, ⊎_elim, Bool, true, false, List, [], ◌∷◌, ◌++◌, length, map, take, ap, ◌∙◌}
use Rattle.std.proofs.Common.{sym, subst, slice_index_or, append_assoc, Contains}
use Rattle.std.specs.List.{flat_map}
use Rattle.std.proofs.lemmas.List.{map-append, map_more, take_more, flat_map_more}
use Rattle.std.proofs.lemmas.List.Elements.{Contains-get_or}
use Rattle.std.proofs.lemmas.Simd.{map-map}
use Rattle.meta_lists.proofs.Contained.{contains_cases}
use Rattle.meta_types.specs.TypeParts.{IntKind, FloatKind, TypeParts, scalar, lane_counts}
use Rattle.meta_types.specs.Lane.{lane_parts}
use Rattle.meta_types.specs.declared.lane.LaneType.{LaneType}
use Rattle.meta_types.proofs.Among.{among}
use Rattle.meta_typevar.specs.TypeSetParts.{TypeSetParts, IsPart}
use Rattle.meta_typevar.specs.Concrete.{types_at}
use Rattle.meta_typevar.proofs.Size.{part_contains}

-- what stands at a place of a part is one of all that the part may have
pub one_of_all : (xs all items : List ℕ) (i : ℕ) → IsPart xs all → items ≡ xs → i < length items → Contains all (slice_index_or items i 0)
one_of_all xs all items i h e l =
    part_contains items all (subst (λ (q : List ℕ). IsPart q all) (sym e) h) _ (among items _ (Contains-get_or items i 0 l))

-- one lane, or the lanes of a vector
pub one_or_more : (n : ℕ) → Contains (lane_counts false) n → (n ≡ 1) ⊎ Contains (lane_counts true) n
one_or_more n c = ⊎_elim (λ e. inl (sym e)) (λ h. inr h) (contains_cases 1 n (lane_counts true) c)

-- one more was added
pub pushed_more : {X Y : Type 0} (g : Y → TypeParts) (f : X → TypeParts) (xs : List X) (i : ℕ) (d : X) (t : Y) (old new : List Y)
    (start : List TypeParts) → i < length xs → new ≡ old ++ t ∷ [] → g t ≡ f (slice_index_or xs i d)
    → map g old ≡ start ++ map f (take i xs) → map g new ≡ start ++ map f (take (i + 1) xs)
pushed_more {X = X} {Y = Y} g f xs i d t old new start l n e h =
    ap (map g) n ∙ map-append g old (t ∷ []) ∙ (λ k. h k ++ e k ∷ [])
    ∙ append_assoc start (map f (take i xs)) (f (slice_index_or xs i d) ∷ [])
    ∙ ap (λ (ys : List TypeParts). start ++ ys) (sym (map_more f xs i d l))

-- the type with this count of lanes
abbrev placed : Bool → ℕ → TypeParts → TypeParts
placed b n t = record { kind = t.kind; width = t.width; lanes = n; is_dynamic = b }

types_of_lanes : (s : TypeSetParts) (b : Bool) (n : ℕ) (ls : List LaneType)
    → map lane_parts ls ≡ map (scalar IntKind) s.ints ++ map (scalar FloatKind) s.floats
    → map (λ l. placed b n (lane_parts l)) ls ≡ types_at s b n
types_of_lanes s b n ls e =
    sym (map-map (placed b n) lane_parts ls)
    ∙ ap (map (placed b n)) e
    ∙ map-append (placed b n) (map (scalar IntKind) s.ints) (map (scalar FloatKind) s.floats)
    ∙ (λ i. map-map (placed b n) (scalar IntKind) s.ints i ++ map-map (placed b n) (scalar FloatKind) s.floats i)

-- the types of one more lane count were added
pub types_more : (s : TypeSetParts) (b : Bool) (start : List TypeParts) (xs : List ℕ) (i : ℕ) (old new : List TypeParts)
    (ls got : List LaneType) → i < length xs → map lane_parts ls ≡ map (scalar IntKind) s.ints ++ map (scalar FloatKind) s.floats
    → got ≡ ls → old ≡ start ++ flat_map (types_at s b) (take i xs)
    → new ≡ old ++ map (λ l. placed b (slice_index_or xs i 0) (lane_parts l)) got → new ≡ start ++ flat_map (types_at s b) (take (i + 1) xs)
types_more s b start xs i old new ls got l e same h n =
    let x = slice_index_or xs i 0 in
    let types = ap (λ (q : List LaneType). map (λ l. placed b x (lane_parts l)) q) same ∙ types_of_lanes s b x ls e in
    n ∙ (λ k. h k ++ types k) ∙ flat_map_more (types_at s b) start (take i xs) x
    ∙ ap (λ (ys : List ℕ). start ++ flat_map (types_at s b) ys) (sym (take_more xs i 0 l))
