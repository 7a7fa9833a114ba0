-- What tables say of an entry: the values of an enum, and what a preset turns on.
--     values_in enumerators detail      the values of an enum
--     is_on bytes byte detail           whether it is a boolean that is on
--     masks_from size masks offset      the masks of a preset
--     names_on entries bytes            the names of the booleans that are on
--     names_enabled g p                 the names of the booleans that a preset of a group turns on
use Rattle.std.specs.Prelude.{ℕ, ◌+◌, ◌==◌, Bool, false, List, [], map, take, drop, slice_index_or}
use Rattle.std.specs.List.{filter}
use Rattle.std.specs.Int.{bit_at}
use Rattle.meta_settings.specs.declared.setting.SpecificSetting.{SpecificSetting}
use Rattle.meta_settings.specs.declared.setting.SpecificSetting.TheVariants.{Bool as ABool, Enum as AnEnum, Num as ANum}
use Rattle.meta_settings.specs.Layout.{BuiltPreset, Layout}
use Rattle.meta_settings.specs.Marked.{stands_in}
use Rattle.meta_setting_tables.specs.declared.descriptor.Detail.{Detail}
use Rattle.meta_setting_tables.specs.declared.descriptor.Detail.TheVariants.{Bool as BoolDetail, Enum as EnumDetail, Num as NumDetail}
use Rattle.meta_setting_tables.specs.declared.descriptor.Detail.TheVariants.{Preset}
use Rattle.meta_setting_tables.specs.declared.descriptor.Descriptor.{Descriptor}

-- ---- what tables give

-- the names of the values, in order, which only an enum has
abbrev pub values_in : List (List ℕ) → Detail → List (List ℕ)
values_in enumerators (BoolDetail bit) = []
values_in enumerators (EnumDetail last place) = take (last + 1) (drop place enumerators)
values_in enumerators NumDetail = []
values_in enumerators Preset = []

-- whether the entry, which has this byte, is a boolean whose bit is on in its byte of these setting bytes
abbrev pub is_on : List ℕ → ℕ → Detail → Bool
is_on bytes byte (BoolDetail bit) = bit_at (slice_index_or bytes byte 0) bit == 1
is_on bytes byte (EnumDetail last place) = false
is_on bytes byte NumDetail = false
is_on bytes byte Preset = false

-- the masks of the preset with this offset: `size` of all masks, from there on
abbrev pub masks_from : ℕ → List ℕ → ℕ → List ℕ
masks_from size masks offset = take size (drop offset masks)

-- the names of the booleans that are on in these setting bytes, in order of the entries, which is that of their numbers
abbrev pub names_on : List Descriptor → List ℕ → List (List ℕ)
names_on entries bytes = map (λ d. d.name) (filter (λ d. is_on bytes d.offset d.detail) entries)

-- ---- what the layout of a group means

-- whether it is a boolean whose number is one of these
abbrev pub is_one_of : List ℕ → SpecificSetting → Bool
is_one_of numbers (ABool b) = stands_in b.predicate_number numbers
is_one_of numbers (AnEnum values) = false
is_one_of numbers (ANum default) = false

-- the names of the booleans that a preset of the group turns on, in order of their numbers
abbrev pub names_enabled : Layout → BuiltPreset → List (List ℕ)
names_enabled g p = map (λ s. s.name) (filter (λ s. is_one_of p.booleans s.specific) g.settings)
