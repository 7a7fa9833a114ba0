-- The values of an enum immediate: a finite map from names to what they stand for.
--     value_of es name           what the name stands for
--     with_value es name value   the same values, where the name stands for this
--     AreInOrder es              the names rise
use Rattle.std.specs.Prelude.{ℕ, List, Option}
use Rattle.std.specs.declared.cmp.Ordering.{Ordering}
use Rattle.std.specs.Cmp.Lexicographic.{slice_cmp}
use Rattle.std.specs.Ordering.{nat_cmp}
use Rattle.std.specs.Map.{keys_of, lookup}
use Rattle.std.specs.BTreeMap.{insert_entry, is_at}
use Rattle.std.specs.List.Sorted.{IsStrictlySortedBy}

-- the names, each with what it stands for
abbrev pub EnumEntries : Type 0
EnumEntries = List (List ℕ × List ℕ)

-- names are ordered by their bytes
abbrev pub by_bytes : List ℕ → List ℕ → Ordering
by_bytes = slice_cmp nat_cmp

-- the names rise, so no two are the same
abbrev pub AreInOrder : EnumEntries → Type 0
AreInOrder es = IsStrictlySortedBy by_bytes (keys_of es)

-- what the name stands for
abbrev pub value_of : EnumEntries → List ℕ → Option (List ℕ)
value_of es name = lookup (is_at (by_bytes name)) es

-- the name stands for this value, and the others for what they did; a new name is put in order
abbrev pub with_value : EnumEntries → List ℕ → List ℕ → EnumEntries
with_value es name value = insert_entry by_bytes es name value
