-- The items of groups of settings, in one form.
--     items_of_group g           a `group`, its settings in the order of its layout, and its presets
--     items_of_groups groups     those of each of the groups, in order
--     EndWith items groups       the last items are those of the groups
use Rattle.std.specs.Prelude.{◌≡◌, ℕ, List, [], ◌∷◌, ◌++◌, Option, Some, None, map, slice_get}
use Rattle.std.specs.List.{flat_map}
use Rattle.meta_file_syntax.specs.declared.items.Item.{Item}
use Rattle.meta_file_syntax.specs.declared.items.Item.TheVariants as item
use Rattle.meta_settings.specs.declared.setting.SpecificSetting.{SpecificSetting}
use Rattle.meta_settings.specs.declared.setting.SpecificSetting.TheVariants.{Bool as ABool, Enum as AnEnum, Num as ANum}
use Rattle.meta_settings.specs.Layout.{PlacedSetting, BuiltPreset, Layout}
use Rattle.meta_settings.specs.PresetLayout.{HasAll, names_turned_on}
use Rattle.meta_file_describe.specs.Wording.{name_for, doc_lines}

-- a comment, left out where it is empty
abbrev pub comment_for : List ℕ → Option (List ℕ)
comment_for [] = None
comment_for (c ∷ cs) = Some (c ∷ cs)

-- the item of a setting, where this is what it is
abbrev pub item_as : PlacedSetting → SpecificSetting → Item
item_as s (ABool b) = item.Bool (record {
  docs = doc_lines s.description;
  name = name_for s.name;
  default = b.default;
  comment = comment_for s.comment;
})
item_as s (AnEnum values) = item.Enum (record {
  docs = doc_lines s.description;
  name = name_for s.name;
  values = map name_for values;
  comment = comment_for s.comment;
})
item_as s (ANum default) = item.Num (record {
  docs = doc_lines s.description;
  name = name_for s.name;
  default = default;
  comment = comment_for s.comment;
})

-- the item of a setting: its description is the documentation
abbrev pub item_of_setting : PlacedSetting → Item
item_of_setting s = item_as s s.specific

-- each preset turns on booleans of the group alone
abbrev pub HasItsBooleans : Layout → Type 0
HasItsBooleans g = (k : ℕ) (p : BuiltPreset) → slice_get g.presets k ≡ Some p → HasAll g p

-- the item of a preset of a group: it names the booleans that the preset turns on
abbrev pub item_of_preset : Layout → BuiltPreset → Item
item_of_preset g p = item.Preset (record {
  docs = doc_lines p.description;
  name = name_for p.name;
  args = map name_for (names_turned_on g p);
})

-- the items of a group
abbrev pub items_of_group : Layout → List Item
items_of_group g = item.Group (name_for g.name) ∷ (map item_of_setting g.settings ++ map (item_of_preset g) g.presets)

-- the items of groups
abbrev pub items_of_groups : List Layout → List Item
items_of_groups groups = flat_map items_of_group groups

-- the last of the items are those of the groups
abbrev pub EndWith : List Item → List Layout → Type 0
EndWith items groups = (front : List Item) × (items ≡ front ++ items_of_groups groups)
