-- Value types, as contracts see them.
--     TypeParts                  a kind, a width in bits, a count of lanes and a dynamic mark
--     IsType t               t is one of the 153 value types
--     number_of t, name_of t      the number and the name of a type
--     known_lanes t, bits_of t, bytes_of t      how many lanes are known to be there, and how much room these take
use Rattle.std.specs.Prelude.{ℕ, ◌+◌, ◌*◌, ◌/◌, ◌==◌, Bool, true, false, List, [], ◌∷◌, ◌++◌, if◌then◌else◌, Contains}
use Rattle.std.specs.Fmt.{decimal}

-- what a lane holds: an integer or a float
pub data NumberKind : Type 0 where
  IntKind : NumberKind
  FloatKind : NumberKind

-- a type: what a lane holds, how wide a lane is in bits, how many lanes there are, and whether that is only the least count
pub record TypeParts : Type 0 where
  pub kind : NumberKind
  pub width : ℕ
  pub lanes : ℕ
  pub is_dynamic : Bool

-- the widths that a lane of a kind may have, in bits
abbrev pub widths : NumberKind → List ℕ
widths IntKind = 8 ∷ 16 ∷ 32 ∷ 64 ∷ 128 ∷ []
widths FloatKind = 16 ∷ 32 ∷ 64 ∷ 128 ∷ []

-- the lane counts that a type may have: a scalar has one lane, a dynamic vector has at least two
abbrev pub lane_counts : Bool → List ℕ
lane_counts false = 1 ∷ 2 ∷ 4 ∷ 8 ∷ 16 ∷ 32 ∷ 64 ∷ 128 ∷ 256 ∷ []
lane_counts true = 2 ∷ 4 ∷ 8 ∷ 16 ∷ 32 ∷ 64 ∷ 128 ∷ 256 ∷ []

-- t is one of the 153 value types
pub record IsType (t : TypeParts) : Type 0 where
  pub width : Contains (widths t.kind) t.width
  pub lanes : Contains (lane_counts t.is_dynamic) t.lanes

-- the type of one lane of this kind and width
abbrev pub scalar : NumberKind → ℕ → TypeParts
scalar kind width = record { kind = kind; width = width; lanes = 1; is_dynamic = false }

-- the exponent of a power of two, up to 256
abbrev pub log2 : ℕ → ℕ
log2 n =
    if n == 256 then 8
    else (if n == 128 then 7
    else (if n == 64 then 6
    else (if n == 32 then 5
    else (if n == 16 then 4
    else (if n == 8 then 3
    else (if n == 4 then 2
    else (if n == 2 then 1 else 0)))))))

-- the code of a lane: i8 is 4, i16 5, i32 6, i64 7, i128 8, f16 9, f32 10, f64 11, f128 12
abbrev pub lane_code : NumberKind → ℕ → ℕ
lane_code IntKind width = log2 width + 1
lane_code FloatKind width = log2 width + 5

-- the number of a type: from 0x70 on the lane's code, 16 more for each doubling of the lanes, and 0x80 more for a dynamic vector
abbrev pub number_of : TypeParts → ℕ
number_of t = 0x70 + (lane_code t.kind t.width + (16 * log2 t.lanes + (if t.is_dynamic then 0x80 else 0)))

-- `i` or `f`
abbrev pub letter : NumberKind → ℕ
letter IntKind = 105
letter FloatKind = 102

-- the name of a lane: `i32`
abbrev pub lane_name : NumberKind → ℕ → List ℕ
lane_name kind width = letter kind ∷ decimal width

-- what a name has after its lane: nothing, `x4` or `x4xN`
abbrev pub lanes_name : ℕ → Bool → List ℕ
lanes_name lanes is_dynamic =
    if lanes == 1 then []
    else (120 ∷ (decimal lanes ++ (if is_dynamic then 120 ∷ 78 ∷ [] else [])))

-- the name of a type: `i32`, `i32x4`, `i32x4xN`
abbrev pub name_of : TypeParts → List ℕ
name_of t = lane_name t.kind t.width ++ lanes_name t.lanes t.is_dynamic

-- how many lanes are known to be there: of a dynamic vector, whose lanes grow with the machine, one
abbrev pub known_lanes : TypeParts → ℕ
known_lanes t = if t.is_dynamic then 1 else t.lanes

-- the bits, and the bytes in memory, of the lanes that are known to be there
abbrev pub bits_of : TypeParts → ℕ
bits_of t = known_lanes t * t.width

abbrev pub bytes_of : TypeParts → ℕ
bytes_of t = bits_of t / 8
