-- The types text: a constant for each type that is most in use.
--     type_constant t            the text of a type
--     common_types           the types, in the order of the text
--     types_text             the text
use Rattle.std.specs.Prelude.{ℕ, ◌/◌, nat_lt, false, List, [], ◌∷◌, ◌++◌, map, codes, if◌then◌else◌}
use Rattle.std.specs.List.{filter, flat_map}
use Rattle.std.specs.Char.{to_ascii_uppercase}
use Rattle.std.specs.Fmt.{digits}
use Rattle.meta_types.specs.TypeParts.{TypeParts, number_of, name_of}
use Rattle.meta_types.specs.TypeText.{type_doc}
use Rattle.meta_types.specs.Vector.{lanes_of, least_lanes_of}
use Rattle.meta_types.specs.AllTypes.{scalars}
use Rattle.meta_text.specs.Lines.{Line, at, empty_line, text_of}

-- the documentation of a constant, the constant by its name and its number in hexadecimal digits, and an empty line
abbrev pub constant_lines : List ℕ → List ℕ → ℕ → List Line
constant_lines doc name number =
    at 0 (codes "/// " ∷ doc ∷ [])
    ∷ at 0 (codes "pub const " ∷ name ∷ codes ": Type = Type(0x" ∷ digits 16 false number ∷ codes ");" ∷ [])
    ∷ empty_line ∷ []

-- these lines as bytes
unfoldable pub constant_text : List ℕ → List ℕ → ℕ → List ℕ
constant_text doc name number = text_of (constant_lines doc name number)

-- the constant of a type, by its name in capitals
unfoldable pub type_constant : TypeParts → List ℕ
type_constant t = constant_text (type_doc t) (map to_ascii_uppercase (name_of t)) (number_of t)

-- the text of the type that is made of a lane type and of the count of its lanes that this many bits hold, if the lane type is smaller
abbrev pub sized_text : (TypeParts → ℕ → TypeParts) → ℕ → TypeParts → List ℕ
sized_text made bits lane = if nat_lt lane.width bits then type_constant (made lane (bits / lane.width)) else []

-- the sizes that have vectors, in bits
abbrev pub vector_sizes : List ℕ
vector_sizes = 16 ∷ 32 ∷ 64 ∷ 128 ∷ 256 ∷ 512 ∷ []

-- the lane types that are smaller than this many bits
abbrev pub lanes_below : ℕ → List TypeParts
lanes_below bits = filter (λ lane. nat_lt lane.width bits) scalars

-- the fixed vectors of this many bits, one of each smaller lane type
abbrev pub vectors_of : ℕ → List TypeParts
vectors_of bits = map (λ lane. lanes_of lane (bits / lane.width)) (lanes_below bits)

-- the dynamic vectors of at least this many bits
abbrev pub dynamic_vectors_of : ℕ → List TypeParts
dynamic_vectors_of bits = map (λ lane. least_lanes_of lane (bits / lane.width)) (lanes_below bits)

-- the nine lane types, and then for each size the fixed and the dynamic vectors
abbrev pub common_types : List TypeParts
common_types = scalars ++ flat_map (λ bits. vectors_of bits ++ dynamic_vectors_of bits) vector_sizes

-- the text of these types, one after the other
unfoldable pub types_text : List ℕ
types_text = flat_map type_constant common_types
