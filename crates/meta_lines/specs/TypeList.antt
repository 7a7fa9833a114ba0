-- The word for a list of types.
--     types_text ts                  the word for these types
--     AreFirstNamed numbers word     the numbers of the types that the first of its names name
--     NamesNoneAt place word         the name at this place names none
use Rattle.std.specs.Prelude.{◌≡◌, ◌≢◌, ℕ, List, [], ◌∷◌, map, codes, length, take, slice_get, Some}
use Rattle.std.specs.List.{join_with_byte}
use Rattle.meta_types.specs.TypeParts.{TypeParts, IsType, name_of}
use Rattle.meta_types.specs.TypeNumber.{type_with}
use Rattle.meta_lines.specs.Words.{pieces_of}

-- the word for a list of types: `-` for none, or their names, parted by commas
abbrev pub types_text : List TypeParts → List ℕ
types_text [] = codes "-"
types_text (t ∷ ts) = join_with_byte 44 (map name_of (t ∷ ts))

-- the numbers are those of the types that as many names name with which the word begins, one each
abbrev pub AreFirstNamed : List ℕ → List ℕ → Type 0
AreFirstNamed numbers word = map name_of (map type_with numbers) ≡ take (length numbers) (pieces_of 44 word)

-- the name at this place of the word, from 0, is that of no type
abbrev pub NamesNoneAt : ℕ → List ℕ → Type 0
NamesNoneAt place word = (name : List ℕ) × (slice_get (pieces_of 44 word) place ≡ Some name)
    × ((t : TypeParts) → IsType t → name_of t ≢ name)
