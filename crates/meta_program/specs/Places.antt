-- Which item declares what has a name that Rust refuses.
--     place_of_name items name     the place of the item
use Rattle.std.specs.Prelude.{◌≡◌, ℕ, ◌+◌, List, Option, Some, None, option_map, option_and_then, slice_get, drop}
use Rattle.meta_types.specs.declared.fault.Place.{Place}
use Rattle.meta_types.specs.declared.fault.Place.TheVariants.{Instruction, Format, Group, Entry}
use Rattle.meta_file_syntax.specs.declared.items.Item.{Item}
use Rattle.meta_file_declare.specs.Places.{is_inst, is_format, is_group, places_of, before_group, laid_places, place_of_inst}
use Rattle.meta_file_declare.specs.Places.{place_of_format}
use Rattle.meta_file_declare.specs.Places.{place_of_group}
use Rattle.meta_rust_names.specs.declared.refused.Part.{Part}
use Rattle.meta_rust_names.specs.declared.refused.Part.TheVariants as part
use Rattle.meta_rust_names.specs.declared.refused.RefusedName.{RefusedName}
use Rattle.meta_program.specs.declared.told.ItemPlaces.{ItemPlaces}

-- the setting of its group to which a part belongs, as the group is laid out, if it belongs to one
abbrev pub setting_of : Part → Option ℕ
setting_of part.Name = None
setting_of (part.Input n) = None
setting_of (part.InputType n) = None
setting_of (part.InputDoc n) = None
setting_of (part.Output n) = None
setting_of (part.OutputDoc n) = None
setting_of part.Doc = None
setting_of part.Control = None
setting_of part.ControlDoc = None
setting_of (part.Field n) = None
setting_of (part.FieldType n) = None
setting_of (part.Setting n) = Some n
setting_of (part.SettingType n) = Some n
setting_of (part.Value n value) = Some n

-- the place of the item that declares this setting of the group which the item at place p opens
abbrev pub setting_after : List Item → ℕ → ℕ → Option ℕ
setting_after items n p = option_map (λ k. p + 1 + k) (slice_get (laid_places (before_group (drop (p + 1) items))) n)

-- the item that opens a group, or declares one of its settings
abbrev pub place_in_group : List Item → ℕ → Option ℕ → Option ℕ
place_in_group items g None = place_of_group items g
place_in_group items g (Some n) = option_and_then (setting_after items n) (place_of_group items g)

-- an entry of a group has no name here: those of a setting are at its group
abbrev pub place_of_part : List Item → Place → Option ℕ → Option ℕ
place_of_part items (Instruction i) setting = place_of_inst items i
place_of_part items (Format f) setting = place_of_format items f
place_of_part items (Group g) setting = place_in_group items g setting
place_of_part items (Entry g e) setting = None

abbrev pub place_of_name : List Item → RefusedName → Option ℕ
place_of_name items name = place_of_part items name.place (setting_of name.part)

-- these are the places of the items that declare instructions, formats, and open groups, in order
pub record ArePlaces (places : ItemPlaces) (items : List Item) : Type 0 where
  pub insts : places.insts.items ≡ places_of is_inst items
  pub formats : places.formats.items ≡ places_of is_format items
  pub groups : places.groups.items ≡ places_of is_group items
