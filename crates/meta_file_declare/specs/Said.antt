-- What groups and entries declare, where nothing is wrong with them.
--     groups_of items          the groups that the items declare
use Rattle.std.specs.Prelude.{List, [], ◌∷◌, ◌++◌, Option, Some, None}
use Rattle.std.specs.List.{filter_map}
use Rattle.meta_file_syntax.specs.declared.name.Name.{Name}
use Rattle.meta_file_syntax.specs.declared.items.BoolItem.{BoolItem}
use Rattle.meta_file_syntax.specs.declared.items.NumItem.{NumItem}
use Rattle.meta_file_syntax.specs.declared.items.EnumItem.{EnumItem}
use Rattle.meta_file_syntax.specs.declared.items.PresetItem.{PresetItem}
use Rattle.meta_file_syntax.specs.declared.items.Item.{Item}
use Rattle.meta_file_syntax.specs.declared.items.Item.TheVariants as item
use Rattle.meta_file_syntax.specs.Named.{name_bytes, doc_text}
use Rattle.meta_settings.specs.GroupDeclaration.{SettingDeclaration, PresetDeclaration, GroupDeclaration}
use Rattle.meta_settings.specs.declared.proto.ProtoSpecificSetting.TheVariants.{Bool as ABool, Enum as AnEnum, Num as ANum}
use Rattle.meta_file_declare.specs.Texts.{text_of, names_in}
use Rattle.meta_file_declare.specs.Named.{Known, known_below, meant}
use Rattle.meta_file_declare.specs.Places.{before_group}

-- ---- settings: the documentation is the description

abbrev pub bool_setting : BoolItem → SettingDeclaration
bool_setting i = record { name = name_bytes i.name; description = doc_text i.docs; comment = text_of i.comment; specific = ABool i.default }

abbrev pub num_setting : NumItem → SettingDeclaration
num_setting i = record { name = name_bytes i.name; description = doc_text i.docs; comment = text_of i.comment; specific = ANum i.default }

abbrev pub enum_setting : EnumItem → SettingDeclaration
enum_setting i = record {
  name = name_bytes i.name;
  description = doc_text i.docs;
  comment = text_of i.comment;
  specific = AnEnum (names_in i.values);
}

-- the setting that an item declares, if it declares one
abbrev pub setting_of : Item → Option SettingDeclaration
setting_of (item.Group n) = None
setting_of (item.Type i) = None
setting_of (item.Alias i) = None
setting_of (item.Kind i) = None
setting_of (item.Format i) = None
setting_of (item.Inst i) = None
setting_of (item.Bool i) = Some (bool_setting i)
setting_of (item.Num i) = Some (num_setting i)
setting_of (item.Enum i) = Some (enum_setting i)
setting_of (item.Preset i) = None

-- ---- presets: each turns on what its names stand for, in their order

abbrev pub preset_of : Known → PresetItem → PresetDeclaration
preset_of known i = record { name = name_bytes i.name; description = doc_text i.docs; args = filter_map (meant known) (names_in i.args) }

-- the preset that an item declares by the names that are known, if it declares one
abbrev pub preset_by : Known → Item → List PresetDeclaration
preset_by known (item.Group n) = []
preset_by known (item.Type i) = []
preset_by known (item.Alias i) = []
preset_by known (item.Kind i) = []
preset_by known (item.Format i) = []
preset_by known (item.Inst i) = []
preset_by known (item.Bool i) = []
preset_by known (item.Num i) = []
preset_by known (item.Enum i) = []
preset_by known (item.Preset i) = preset_of known i ∷ []

-- the presets that entries declare below others of their group
abbrev pub presets_below : List Item → List Item → List PresetDeclaration
presets_below above [] = []
presets_below above (i ∷ is) = preset_by (known_below above) i ++ presets_below (above ++ i ∷ []) is

-- ---- groups

-- the group of this name with these entries
abbrev pub group_with : Name → List Item → GroupDeclaration
group_with n entries = record { name = name_bytes n; settings = filter_map setting_of entries; presets = presets_below [] entries }

-- the groups that items declare: each `group` has the entries up to the next one
abbrev pub groups_of : List Item → List GroupDeclaration
groups_of [] = []
groups_of (item.Group n ∷ is) = group_with n (before_group is) ∷ groups_of is
groups_of (item.Type i ∷ is) = groups_of is
groups_of (item.Alias i ∷ is) = groups_of is
groups_of (item.Kind i ∷ is) = groups_of is
groups_of (item.Format i ∷ is) = groups_of is
groups_of (item.Inst i ∷ is) = groups_of is
groups_of (item.Bool i ∷ is) = groups_of is
groups_of (item.Num i ∷ is) = groups_of is
groups_of (item.Enum i ∷ is) = groups_of is
groups_of (item.Preset i ∷ is) = groups_of is
