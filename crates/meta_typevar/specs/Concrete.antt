-- The members of a set in order, and its text.
--     types_in s             the members of s, each once
--     set_text s             s as `{:?}` writes it
use Rattle.std.specs.Prelude.{ℕ, Bool, true, false, List, [], ◌∷◌, ◌++◌, map, codes, if◌then◌else◌}
use Rattle.std.specs.List.{flat_map, join_by}
use Rattle.std.specs.Fmt.{decimal}
use Rattle.meta_types.specs.TypeParts.{NumberKind, IntKind, FloatKind, TypeParts}
use Rattle.meta_typevar.specs.TypeSetParts.{TypeSetParts}

-- the types of a kind with these widths and this count of lanes
abbrev pub types_of : NumberKind → Bool → ℕ → List ℕ → List TypeParts
types_of kind is_dynamic lanes widths = map (λ w. record { kind = kind; width = w; lanes = lanes; is_dynamic = is_dynamic }) widths

-- the types of the set with this count of lanes: the integers in rising width, then the floats
abbrev pub types_at : TypeSetParts → Bool → ℕ → List TypeParts
types_at s is_dynamic lanes = types_of IntKind is_dynamic lanes s.ints ++ types_of FloatKind is_dynamic lanes s.floats

-- the types of the set: those of each lane count in rising order, then those of the dynamic lane counts
abbrev pub types_in : TypeSetParts → List TypeParts
types_in s = flat_map (types_at s false) s.lanes ++ flat_map (types_at s true) s.dynamic_lanes

-- `{8, 16}`
abbrev pub braced : List ℕ → List ℕ
braced xs = codes "{" ++ (join_by decimal (codes ", ") xs ++ codes "}")

-- the text of a part, as `ints={8, 16}`; none where the part has no number
abbrev pub part_texts : List ℕ → List ℕ → List (List ℕ)
part_texts name [] = []
part_texts name (x ∷ xs) = (name ++ (codes "=" ++ braced (x ∷ xs))) ∷ []

-- the same with a comma before it where it follows another part
abbrev pub part_text : List ℕ → List ℕ → Bool → List ℕ
part_text name [] follows = []
part_text name (x ∷ xs) follows = (if follows then codes ", " else []) ++ (name ++ (codes "=" ++ braced (x ∷ xs)))

-- the parts that have a number, as `TypeSet(lanes={1}, ints={8, 16})`
abbrev pub set_text : TypeSetParts → List ℕ
set_text s = codes "TypeSet(" ++ (join_by (λ p. p) (codes ", ")
    (((part_texts (codes "lanes") s.lanes ++ part_texts (codes "dynamic_lanes") s.dynamic_lanes) ++ part_texts (codes "ints") s.ints)
    ++ part_texts (codes "floats") s.floats) ++ codes ")")
