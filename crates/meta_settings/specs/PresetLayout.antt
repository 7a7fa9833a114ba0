-- What a preset does to the setting bytes of a group.
use Rattle.std.specs.Prelude.{◌≡◌, ◌↔◌, ℕ, ◌+◌, ◌*◌, ◌<◌, ◌/◌, ◌%◌, ◌^◌, List, [], unwrap_or, option_map, slice_get, slice_set}
use Rattle.std.specs.Prelude.{slice_index_or, Some, length, map, All, Contains}
use Rattle.std.specs.Int.{bit_at}
use Rattle.std.specs.Int.RustNames.{bit_or}
use Rattle.meta_settings.specs.Layout.{PlacedSetting, BuiltPreset, Layout, booleans_in}

-- the group has each boolean that the preset turns on
abbrev pub HasAll : Layout → BuiltPreset → Type 0
HasAll g p = All (λ b. b < length (booleans_in g)) p.booleans

-- among the booleans from the byte start on, one of these has this bit of this byte
pub record IsOnAt (start : ℕ) (booleans : List ℕ) (byte bit : ℕ) : Type 0 where
  pub boolean : ℕ
  pub is_on : Contains booleans boolean
  pub byte_is : byte ≡ start + boolean / 8
  pub bit_is : bit ≡ boolean % 8

-- m has exactly the bits, of those of this byte, that the booleans have
pub record HasBitsOf (start : ℕ) (booleans : List ℕ) (byte m : ℕ) : Type 0 where
  pub fits : m < 256
  pub bits : (bit : ℕ) → bit < 8 → ((bit_at m bit ≡ 1) ↔ IsOnAt start booleans byte bit)

-- for each of `size` setting bytes the mask and the value of the booleans
pub record IsLayoutOn (start size : ℕ) (booleans : List ℕ) (layout : List (ℕ × ℕ)) : Type 0 where
  pub size_is : length layout ≡ size
  pub masks : (byte : ℕ) (pair : ℕ × ℕ) → slice_get layout byte ≡ Some pair → HasBitsOf start booleans byte pair.0
  pub values : (byte : ℕ) (pair : ℕ × ℕ) → slice_get layout byte ≡ Some pair → pair.1 ≡ pair.0

-- for each setting byte of the group the mask and the value of what the preset turns on
abbrev pub IsLayoutOf : Layout → BuiltPreset → List (ℕ × ℕ) → Type 0
IsLayoutOf g p layout = IsLayoutOn g.bool_start_byte_offset g.settings_size p.booleans layout

-- the name of a boolean by its number
abbrev pub boolean_name : List PlacedSetting → ℕ → List ℕ
boolean_name booleans b = unwrap_or (option_map (λ s. s.name) (slice_get booleans b)) []

-- the names of the booleans that a preset turns on
abbrev pub names_turned_on : Layout → BuiltPreset → List (List ℕ)
names_turned_on g p = map (boolean_name (booleans_in g)) p.booleans

-- m with this bit, below 8, turned on
abbrev pub with_bit : ℕ → ℕ → ℕ
with_bit m bit = bit_or m (1 * 2 ^ bit % 256)

-- the layout with this bit of this byte turned on, as mask and as value
abbrev pub with_bit_at : List (ℕ × ℕ) → ℕ → ℕ → List (ℕ × ℕ)
with_bit_at layout byte bit =
    let pair = slice_index_or layout byte (0, 0) in slice_set layout byte (with_bit pair.0 bit, with_bit pair.1 bit)
