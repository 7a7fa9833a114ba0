-- The items that declare groups and entries.
--     DeclaresGroup items groups k n      the item at place k is the n-th group
--     DeclaresEntry items groups k n e    the item at place k is the e-th entry of the n-th group
use Rattle.std.specs.Prelude.{◌≡◌, ℕ, ◌+◌, List, length, take, drop, slice_get, count_by, Option, Some, None}
use Rattle.meta_settings.specs.GroupDeclaration.{GroupDeclaration, Entry, setting_entry, preset_entry, entries_of}
use Rattle.meta_file_syntax.specs.declared.name.Name.{Name}
use Rattle.meta_file_syntax.specs.declared.items.Item.{Item}
use Rattle.meta_file_syntax.specs.declared.items.Item.TheVariants as item
use Rattle.meta_file_declare.specs.Named.{known_below}
use Rattle.meta_file_declare.specs.Places.{is_group, is_setting, is_preset, before_group}
use Rattle.meta_file_declare.specs.Wrong.{last_entries}
use Rattle.meta_file_declare.specs.Said.{bool_setting, num_setting, enum_setting, preset_of, group_with}

-- the item at place k is the n-th `group`, from 0, and the n-th group is what it and the items up to the next one say
pub record DeclaresGroup (items : List Item) (groups : List GroupDeclaration) (k n : ℕ) : Type 0 where
  pub name : Name
  pub at : slice_get items k ≡ Some (item.Group name)
  pub above : count_by is_group (take k items) ≡ n
  pub stands : slice_get groups n ≡ Some (group_with name (before_group (drop (k + 1) items)))

-- the entry that an item is, after these of its group
abbrev pub entry_below : List Item → Item → Option Entry
entry_below above (item.Group n) = None
entry_below above (item.Type i) = None
entry_below above (item.Alias i) = None
entry_below above (item.Kind i) = None
entry_below above (item.Format i) = None
entry_below above (item.Inst i) = None
entry_below above (item.Bool i) = Some (setting_entry (bool_setting i))
entry_below above (item.Num i) = Some (setting_entry (num_setting i))
entry_below above (item.Enum i) = Some (setting_entry (enum_setting i))
entry_below above (item.Preset i) = Some (preset_entry (preset_of (known_below above) i))

-- its number: the settings come first, in order, and then the presets
abbrev pub number_below : GroupDeclaration → List Item → Item → Option ℕ
number_below g above (item.Group n) = None
number_below g above (item.Type i) = None
number_below g above (item.Alias i) = None
number_below g above (item.Kind i) = None
number_below g above (item.Format i) = None
number_below g above (item.Inst i) = None
number_below g above (item.Bool i) = Some (count_by is_setting above)
number_below g above (item.Num i) = Some (count_by is_setting above)
number_below g above (item.Enum i) = Some (count_by is_setting above)
number_below g above (item.Preset i) = Some (length g.settings + count_by is_preset above)

-- the item at place k, after these entries of the n-th group, is the e-th entry of the group
pub record DeclaresEntry (items : List Item) (groups : List GroupDeclaration) (k n e : ℕ) : Type 0 where
  pub item : Item
  pub above : List Item
  pub group : GroupDeclaration
  pub entry : Entry
  pub at : slice_get items k ≡ Some item
  pub after : last_entries (take k items) ≡ Some above
  pub groups_above : count_by is_group (take k items) ≡ n + 1
  pub group_is : slice_get groups n ≡ Some group
  pub number : number_below group above item ≡ Some e
  pub says : entry_below above item ≡ Some entry
  pub stands : slice_get (entries_of group) e ≡ Some entry
