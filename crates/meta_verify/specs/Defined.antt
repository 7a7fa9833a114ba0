-- Which values are stored as defined.
--     known_number types v     the number of the type of a value, if it is defined
--     definitions entries      the values that are defined, with their types
use Rattle.std.specs.Prelude.{ℕ, nat_eq, ◌==◌, List, map, slice_index, Option, Some, IfSome, if◌then◌else◌}
use Rattle.std.specs.Ordering.{nat_cmp}
use Rattle.std.specs.Map.{lookup}
use Rattle.std.specs.Option.{option_map}
use Rattle.std.specs.BTreeMap.{get}
use Rattle.meta_types.specs.TypeParts.{TypeParts}
use Rattle.meta_types.specs.TypeNumber.{type_with, IsTypeNumber}
use Rattle.meta_verify.specs.Environment.{Environment}
use Rattle.meta_verify.specs.declared.known.KnownTypes.{KnownTypes}

-- the number of the type of a value: the one at its place in the list, or, if it is missing there, which 0 says, the one in the map
abbrev pub known_number : KnownTypes → ℕ → Option ℕ
known_number types v = if slice_index types.near.items v == 0 then get nat_cmp types.others v else Some (slice_index types.near.items v)

-- the types with these numbers
abbrev pub environment_of : KnownTypes → Environment
environment_of types v = option_map type_with (known_number types v)

-- each number is one of a type
abbrev pub AreTypeNumbers : KnownTypes → Type 0
AreTypeNumbers types = (v : ℕ) → IfSome (known_number types v) IsTypeNumber

-- the numbers of the types of the first values, by value, 0 for one that is missing; and other values with their types, in order
abbrev pub Entries : Type 0
Entries = List ℕ × List (ℕ × TypeParts)

abbrev pub entries_of : KnownTypes → Entries
entries_of types = (types.near.items, map (λ (e : ℕ × ℕ). (e.0, type_with e.1)) types.others.entries)

-- what such entries define
abbrev pub definitions : Entries → Environment
definitions entries v = if slice_index entries.0 v == 0 then lookup (nat_eq v) entries.1 else Some (type_with (slice_index entries.0 v))
