-- The numbers of types, and how a name gives one.
--     type_with n            the type that has the number
--     IsTypeNumber n         n is the number of a type
--     IsNameOf name n        that type has the name
use Rattle.std.specs.Prelude.{◌≡◌, ℕ, ◌+◌, ◌-◌, ◌*◌, ◌/◌, ◌%◌, ◌^◌, ◌==◌, ◌&&◌, nat_lt, nat_eq, List, [], ◌∷◌, take, drop, Option, Some}
use Rattle.std.specs.Prelude.{None, if◌then◌else◌, codes}
use Rattle.std.specs.Cmp.Lexicographic.{pointwise}
use Rattle.std.specs.Option.{option_map, option_or, option_and_then}
use Rattle.meta_types.specs.TypeParts.{TypeParts, IntKind, FloatKind, IsType, number_of, name_of}

-- the type that has the number
abbrev pub type_with : ℕ → TypeParts
type_with n =
    let above = n - 0x70 in
    let code = above % 16 in
    let row = above / 16 in
    record {
      kind = if nat_lt code 9 then IntKind else FloatKind;
      width = if nat_lt code 9 then 2 ^ (code - 1) else 2 ^ (code - 5);
      lanes = if nat_lt row 9 then 2 ^ row else 2 ^ (row - 8);
      is_dynamic = nat_lt 8 row;
    }

-- n is the number of a type
pub record IsTypeNumber (n : ℕ) : Type 0 where
  pub is_type : IsType (type_with n)
  pub numbered : number_of (type_with n) ≡ n

-- the type with this number has this name
pub record IsNameOf (name : List ℕ) (n : ℕ) : Type 0 where
  pub number : IsTypeNumber n
  pub named : name_of (type_with n) ≡ name

-- ---- the parts of a name

-- the number beside the first text of the rows that is this text
abbrev pub found_in : List (List ℕ × ℕ) → List ℕ → Option ℕ
found_in [] text = None
found_in ((name, n) ∷ rows) text = if pointwise nat_eq text name then Some n else found_in rows text

-- the lanes by their names, and their codes
abbrev pub lane_codes : List (List ℕ × ℕ)
lane_codes =
    (codes "i8", 4) ∷ (codes "i16", 5) ∷ (codes "i32", 6) ∷ (codes "i64", 7) ∷ (codes "i128", 8)
    ∷ (codes "f16", 9) ∷ (codes "f32", 10) ∷ (codes "f64", 11) ∷ (codes "f128", 12) ∷ []

-- what a name has after that of its lane, and the row of its number: of scalars and fixed vectors the exponent of the lanes
abbrev pub fixed_rows : List (List ℕ × ℕ)
fixed_rows =
    ([], 0) ∷ (codes "x2", 1) ∷ (codes "x4", 2) ∷ (codes "x8", 3) ∷ (codes "x16", 4)
    ∷ (codes "x32", 5) ∷ (codes "x64", 6) ∷ (codes "x128", 7) ∷ (codes "x256", 8) ∷ []

-- and 8 more of dynamic vectors
abbrev pub dynamic_rows : List (List ℕ × ℕ)
dynamic_rows =
    (codes "x2xN", 9) ∷ (codes "x4xN", 10) ∷ (codes "x8xN", 11) ∷ (codes "x16xN", 12)
    ∷ (codes "x32xN", 13) ∷ (codes "x64xN", 14) ∷ (codes "x128xN", 15) ∷ (codes "x256xN", 16) ∷ []

-- the row for what a name has after that of its lane
abbrev pub row_of : List ℕ → Option ℕ
row_of lanes = option_or (found_in fixed_rows lanes) (found_in dynamic_rows lanes)

-- how many bytes at the front of a name are that of its lane: two of `i8`, four of `i128` and `f128`, else three
abbrev pub lane_length : List ℕ → ℕ
lane_length [] = 0
lane_length (a ∷ []) = 1
lane_length (a ∷ b ∷ []) = 2
lane_length (a ∷ b ∷ c ∷ []) = if b == 56 then 2 else 3
lane_length (a ∷ b ∷ c ∷ d ∷ more) = if b == 56 then 2 else (if (b == 49) && (c == 50) then 4 else 3)

-- the number of the type whose name is that of a lane and what comes after it, if there is one
abbrev pub number_of_parts : List ℕ → List ℕ → Option ℕ
number_of_parts lane lanes = option_and_then (λ code. option_map (λ row. 0x70 + code + 16 * row) (row_of lanes)) (found_in lane_codes lane)

-- the number of the type that has the name, if one has it
abbrev pub number_named : List ℕ → Option ℕ
number_named name = number_of_parts (take (lane_length name) name) (drop (lane_length name) name)
