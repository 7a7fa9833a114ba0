-- How many entries of each kind a group has.
use Rattle.std.specs.Prelude.{◌≡◌, ◌≤◌, List}
use Rattle.meta_setting_tables.specs.declared.descriptor.Descriptor.{Descriptor}
use Rattle.meta_setting_tables.specs.declared.shape.Shape.{Shape}
use Rattle.meta_setting_tables.specs.WellFormed.{own_byte_count, described_boolean_count, preset_count, described_byte_count}

-- the counts are those of the entries
pub record IsShapeOf (entries : List Descriptor) (shape : Shape) : Type 0 where
  pub own_bytes : shape.own_bytes ≡ own_byte_count entries
  pub booleans : shape.booleans ≡ described_boolean_count entries
  pub presets : shape.presets ≡ preset_count entries
  pub bytes : shape.bytes ≡ described_byte_count entries

-- the counts are small
pub record HasSmallCounts (shape : Shape) : Type 0 where
  pub few_own_bytes : shape.own_bytes ≤ 255
  pub few_booleans : shape.booleans ≤ 248
  pub few_presets : shape.presets ≤ 65535
  pub few_bytes : shape.bytes ≤ 255
