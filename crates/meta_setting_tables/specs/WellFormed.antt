-- Well-formed tables of a group of settings: all tables of groups are, and those that are built of parts are where they can be.
--     IsWellFormedGroup t      the tables are well-formed
--     IsPlaced ..              an entry stands where the layout rule puts it
--     AreKeptOfGroup t         what the type of tables keeps
use Rattle.std.specs.Prelude.{ℕ, ◌≡◌, ◌+◌, ◌*◌, ◌/◌, ◌%◌, ◌<◌, ◌≤◌, Bool, true, false, List, length, take, drop, filter, slice_get, Some}
use Rattle.std.specs.Prelude.{None, All, Contains, ⊤}
use Rattle.std.specs.Int.{bit_at}
use Rattle.meta_types.specs.Name.{IsName}
use Rattle.meta_types.specs.SharedNames.{AreDistinct}
use Rattle.meta_settings.specs.GroupFaults.{IsPlainByte}
use Rattle.meta_unique.specs.NameSlots.{AreNameSlots}
use Rattle.meta_setting_tables.specs.declared.descriptor.Detail.{Detail}
use Rattle.meta_setting_tables.specs.declared.descriptor.Detail.TheVariants.{Bool as ABool, Enum as AnEnum, Num as ANum, Preset}
use Rattle.meta_setting_tables.specs.declared.descriptor.Descriptor.{Descriptor}
use Rattle.meta_setting_tables.specs.GroupTables.{GroupContents, names_in}

-- ---- counts

-- whether it is an enum or a number, which have a byte of their own
abbrev pub describes_own_byte : Detail → Bool
describes_own_byte (ABool bit) = false
describes_own_byte (AnEnum last enumerators) = true
describes_own_byte ANum = true
describes_own_byte Preset = false

-- whether it is a boolean
abbrev pub is_boolean : Detail → Bool
is_boolean (ABool bit) = true
is_boolean (AnEnum last enumerators) = false
is_boolean ANum = false
is_boolean Preset = false

-- whether it is a preset
abbrev pub is_preset : Detail → Bool
is_preset (ABool bit) = false
is_preset (AnEnum last enumerators) = false
is_preset ANum = false
is_preset Preset = true

-- how many of the entries are enums and numbers, how many are booleans, and how many are presets
abbrev pub own_byte_count : List Descriptor → ℕ
own_byte_count entries = length (filter (λ d. describes_own_byte d.detail) entries)

abbrev pub described_boolean_count : List Descriptor → ℕ
described_boolean_count entries = length (filter (λ d. is_boolean d.detail) entries)

abbrev pub preset_count : List Descriptor → ℕ
preset_count entries = length (filter (λ d. is_preset d.detail) entries)

-- how many setting bytes there are: one for each enum and number, and one for each eight booleans or part of eight
abbrev pub described_byte_count : List Descriptor → ℕ
described_byte_count entries = own_byte_count entries + (described_boolean_count entries + 7) / 8

-- at most 65,535 entries, 248 booleans, 255 setting bytes and 65,535 enumerators
pub record KeepLimits (entries : List Descriptor) (enumerators : List (List ℕ)) : Type 0 where
  pub few_entries : length entries ≤ 65535
  pub few_booleans : described_boolean_count entries ≤ 248
  pub few_bytes : described_byte_count entries ≤ 255
  pub few_enumerators : length enumerators ≤ 65535

-- ---- names

-- The group, the entries and the enumerators have names, also an enumerator that no enum has; no description needs an escape; and
-- no two entries have the same name or the same camel case.
pub record AreWellNamed (name : List ℕ) (entries : List Descriptor) (enumerators : List (List ℕ)) : Type 0 where
  pub group_name : IsName name
  pub entry_names : All (λ (d : Descriptor). IsName d.name) entries
  pub enumerator_names : All IsName enumerators
  pub descriptions : All (λ (d : Descriptor). All IsPlainByte d.description) entries
  pub distinct : AreDistinct (names_in entries)

-- ---- the layout rule

-- entry e is among the first, the enums and numbers, and it has byte e
pub record StandsInByte (own e offset : ℕ) : Type 0 where
  pub first : e < own
  pub byte_is : offset ≡ e

-- the boolean with this number, from 0, has this byte and this bit: eight to a byte from bit 0 on, after the bytes of the enums and numbers
pub record HasPlace (own number byte bit : ℕ) : Type 0 where
  pub byte_is : byte ≡ own + number / 8
  pub bit_is : bit ≡ number % 8

-- entry e is a boolean, which come after the enums and numbers, and it has this byte and this bit
pub record StandsAtBit (own booleans e offset bit : ℕ) : Type 0 where
  pub number : ℕ
  pub within : number < booleans
  pub after : e ≡ own + number
  pub place : HasPlace own number offset bit

-- entry e is a preset, which come after the settings, and its masks begin after those of the presets before it, one for each setting byte
pub record StandsAtMasks (settings size e offset : ℕ) : Type 0 where
  pub number : ℕ
  pub after : e ≡ settings + number
  pub offset_is : offset ≡ number * size

-- Entry e stands where the layout rule puts it, if `own` entries have a byte of their own, `booleans` are booleans, and there are `size`
-- setting bytes.
abbrev pub IsPlaced : ℕ → ℕ → ℕ → ℕ → ℕ → Detail → Type 0
IsPlaced own booleans size e offset (ABool bit) = StandsAtBit own booleans e offset bit
IsPlaced own booleans size e offset (AnEnum last enumerators) = StandsInByte own e offset
IsPlaced own booleans size e offset ANum = StandsInByte own e offset
IsPlaced own booleans size e offset Preset = StandsAtMasks (own + booleans) size e offset

-- each entry stands where the layout rule puts it
abbrev pub ArePlaced : List Descriptor → Type 0
ArePlaced entries = (e : ℕ) (d : Descriptor) → slice_get entries e ≡ Some d
    → IsPlaced (own_byte_count entries) (described_boolean_count entries) (described_byte_count entries) e d.offset d.detail

-- ---- values of enums

-- the values of an enum, at most 256, stand among the enumerators from the place on, and no two of them have the same name or the
-- same camel case, which is the name of a variant
pub record HasValues (enumerators : List (List ℕ)) (last place : ℕ) : Type 0 where
  pub few : last < 256
  pub inside : place + (last + 1) ≤ length enumerators
  pub distinct : AreDistinct (take (last + 1) (drop place enumerators))

-- if it is an enum it has its values
abbrev pub HasItsValues : List (List ℕ) → Detail → Type 0
HasItsValues enumerators (ABool bit) = ⊤
HasItsValues enumerators (AnEnum last place) = HasValues enumerators last place
HasItsValues enumerators ANum = ⊤
HasItsValues enumerators Preset = ⊤

-- ---- bytes

-- one of the booleans has this bit of this byte
pub record IsBooleanBit (own booleans byte bit : ℕ) : Type 0 where
  pub number : ℕ
  pub within : number < booleans
  pub place : HasPlace own number byte bit

-- m is a byte of which only bits of booleans are on
pub record HoldsBooleansAlone (own booleans byte m : ℕ) : Type 0 where
  pub fits : m < 256
  pub bits : (bit : ℕ) → bit < 8 → bit_at m bit ≡ 1 → IsBooleanBit own booleans byte bit

-- if it is an enum its default is its first value
abbrev pub HasFirstValue : List ℕ → ℕ → Detail → Type 0
HasFirstValue defaults offset (ABool bit) = ⊤
HasFirstValue defaults offset (AnEnum last place) = slice_get defaults offset ≡ Some 0
HasFirstValue defaults offset ANum = ⊤
HasFirstValue defaults offset Preset = ⊤

-- There is one default byte a setting byte; that of an enum is 0; and in the bytes of the booleans only their bits are on.
pub record AreGoodDefaults (entries : List Descriptor) (defaults : List ℕ) : Type 0 where
  pub count : length defaults ≡ described_byte_count entries
  pub bytes : All (λ b. b < 256) defaults
  pub enums : All (λ (d : Descriptor). HasFirstValue defaults d.offset d.detail) entries
  pub booleans : (byte b : ℕ) → own_byte_count entries ≤ byte → slice_get defaults byte ≡ Some b
      → HoldsBooleansAlone (own_byte_count entries) (described_boolean_count entries) byte b

-- there is one mask a preset and setting byte, preset after preset, and only bits of booleans are on
pub record AreGoodMasks (entries : List Descriptor) (masks : List ℕ) : Type 0 where
  pub count : length masks ≡ preset_count entries * described_byte_count entries
  pub booleans : (k byte m : ℕ) → byte < described_byte_count entries → slice_get masks (k * described_byte_count entries + byte) ≡ Some m
      → HoldsBooleansAlone (own_byte_count entries) (described_boolean_count entries) byte m

-- ---- all of them

-- the tables of a group are well-formed
pub record IsWellFormedGroup (t : GroupContents) : Type 0 where
  pub limits : KeepLimits t.descriptors t.enumerators
  pub names : AreWellNamed t.name t.descriptors t.enumerators
  pub placed : ArePlaced t.descriptors
  pub values : All (λ (d : Descriptor). HasItsValues t.enumerators d.detail) t.descriptors
  pub defaults : AreGoodDefaults t.descriptors t.defaults
  pub masks : AreGoodMasks t.descriptors t.preset_masks
  pub slots : AreNameSlots 0 (names_in t.descriptors) t.slots

-- what all tables of groups keep: they are well-formed, and there is a vacant slot
pub record AreKeptOfGroup (t : GroupContents) : Type 0 where
  pub well_formed : IsWellFormedGroup t
  pub vacant : Contains t.slots None
