-- What the descriptors of a group's entries say.
--     DescribesSetting enumerators before s d     d is the descriptor of a setting
--     preset_descriptor size k p                  the descriptor of a preset
--     DescribesEntry g enumerators e d            d is the descriptor of an entry of the group
use Rattle.std.specs.Prelude.{ℕ, ◌≡◌, ◌+◌, ◌*◌, List, length, take, slice_get, Some}
use Rattle.meta_settings.specs.declared.setting.SpecificSetting.{SpecificSetting}
use Rattle.meta_settings.specs.declared.setting.SpecificSetting.TheVariants.{Bool as ABool, Enum as AnEnum, Num as ANum}
use Rattle.meta_settings.specs.Layout.{PlacedSetting, BuiltPreset, Layout}
use Rattle.meta_setting_tables.specs.declared.descriptor.Detail.{Detail}
use Rattle.meta_setting_tables.specs.declared.descriptor.Detail.TheVariants.{Bool, Enum, Num, Preset}
use Rattle.meta_setting_tables.specs.declared.descriptor.Descriptor.{Descriptor}
use Rattle.meta_setting_tables.specs.EnumeratorList.{enumerators_of, values_at, StandAt}

-- The detail is that of an enum with these values: its last value has the number `last`, and the values stand in the enumerators, where
-- they were added after those of the settings before it.
pub record IsEnumDetail (enumerators : List (List ℕ)) (before : List PlacedSetting) (values : List (List ℕ))
    (detail : Detail) : Type 0 where
  pub last : ℕ
  pub place : ℕ
  pub is : detail ≡ Enum last place
  pub count : length values ≡ last + 1
  pub place_is : place ≡ values_at (enumerators_of before) values
  pub stand : StandAt enumerators values place

-- the detail says what the setting is
abbrev pub IsDetailOf : List (List ℕ) → List PlacedSetting → SpecificSetting → Detail → Type 0
IsDetailOf enumerators before (ABool b) detail = detail ≡ Bool b.bit_offset
IsDetailOf enumerators before (AnEnum values) detail = IsEnumDetail enumerators before values detail
IsDetailOf enumerators before (ANum default) detail = detail ≡ Num

-- the descriptor of a setting, with its byte
pub record DescribesSetting (enumerators : List (List ℕ)) (before : List PlacedSetting) (s : PlacedSetting) (d : Descriptor) : Type 0 where
  pub name : d.name ≡ s.name
  pub description : d.description ≡ s.description
  pub offset : d.offset ≡ s.byte_offset
  pub detail : IsDetailOf enumerators before s.specific d.detail

-- the descriptor of a setting with this detail
abbrev pub setting_descriptor : PlacedSetting → Detail → Descriptor
setting_descriptor s detail = record { name = s.name; description = s.description; offset = s.byte_offset; detail = detail }

-- the descriptor of preset k, whose masks begin after those of the presets before it
abbrev pub preset_descriptor : ℕ → ℕ → BuiltPreset → Descriptor
preset_descriptor size k p = record { name = p.name; description = p.description; offset = k * size; detail = Preset }

-- entry e is a setting, or after the settings a preset, and this is its descriptor
pub record DescribesEntry (g : Layout) (enumerators : List (List ℕ)) (e : ℕ) (d : Descriptor) : Type 0 where
  pub setting : (s : PlacedSetting) → slice_get g.settings e ≡ Some s → DescribesSetting enumerators (take e g.settings) s d
  pub preset : (k : ℕ) (p : BuiltPreset) → e ≡ length g.settings + k → slice_get g.presets k ≡ Some p
      → d ≡ preset_descriptor g.settings_size k p
