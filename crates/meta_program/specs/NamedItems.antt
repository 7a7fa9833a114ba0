-- The items that declare what has a name that Rust refuses.
--     DeclaresLaid items groups k g n      the item at place k declares the setting that stands at place n of the group g, as it is built
--     DeclaresNamed items b k place part   the item at place k declares what has the name
--     NameHasItem items b name             so does the item whose line is in the message of the name
--     HasItsLine path names text d message     the message of a name has the line of such an item
use Rattle.std.specs.Prelude.{◌≡◌, ℕ, ◌+◌, List, take, slice_get, count_by, Some, Contains}
use Rattle.meta_types.specs.declared.fault.Place.{Place}
use Rattle.meta_types.specs.declared.fault.Place.TheVariants.{Instruction, Format, Group, Entry}
use Rattle.meta_settings.specs.declared.proto.ProtoSpecificSetting.TheVariants.{Enum as AnEnum}
use Rattle.meta_settings.specs.GroupDeclaration.{SettingDeclaration}
use Rattle.meta_settings.specs.Layout.{PlacedSetting, Layout}
use Rattle.meta_settings.specs.LaidOut.{placed_at}
use Rattle.meta_build.specs.AllDeclared.{Declared}
use Rattle.meta_build.specs.BuiltDeclarations.{BuiltDeclarations, AreBuilt}
use Rattle.meta_file_syntax.specs.declared.items.Item.{Item}
use Rattle.meta_file_declare.specs.Places.{is_group}
use Rattle.meta_file_declare.specs.Said.{setting_of}
use Rattle.meta_file_declare.specs.Faults.{DeclaresAt}
use Rattle.meta_file_load.specs.Why.{located}
use Rattle.meta_rust_names.specs.declared.refused.Part.{Part}
use Rattle.meta_rust_names.specs.declared.refused.Part.TheVariants as part
use Rattle.meta_rust_names.specs.declared.refused.RefusedName.{RefusedName}
use Rattle.meta_rust_names.specs.AllRefused.{refused_names}
use Rattle.meta_program.specs.File.{AreReadOf}
use Rattle.meta_program.specs.Places.{place_of_name}
use Rattle.meta_program.specs.ShownPath.{shown_path}
use Rattle.meta_program.specs.Told.{why_said}
use Rattle.meta_program.specs.declared.plan.Names.{Names}

-- the item at place k stands in the group g, from 0, and declares a setting; that is the one which stands at place n of the group as it is
-- built, in some byte, and as some boolean if it is one
pub record DeclaresLaid (items : List Item) (groups : List Layout) (k g n : ℕ) : Type 0 where
  pub item : Item
  pub setting : SettingDeclaration
  pub layout : Layout
  pub placed : PlacedSetting
  pub byte : ℕ
  pub boolean : ℕ
  pub at : slice_get items k ≡ Some item
  pub groups_above : count_by is_group (take k items) ≡ g + 1
  pub says : setting_of item ≡ Some setting
  pub built : slice_get groups g ≡ Some layout
  pub stands : slice_get layout.settings n ≡ Some placed
  pub is : placed ≡ placed_at setting byte boolean

-- the same, and the setting is an enum, which has a value at place v
pub record DeclaresValue (items : List Item) (groups : List Layout) (k g n v : ℕ) : Type 0 where
  pub laid : DeclaresLaid items groups k g n
  pub values : List (List ℕ)
  pub value : List ℕ
  pub has : laid.setting.specific ≡ AnEnum values
  pub stands : slice_get values v ≡ Some value

-- the item at place k opens the group, or declares the setting that has the name; a group has no other names
abbrev pub DeclaresInGroup : List Item → BuiltDeclarations → ℕ → ℕ → Part → Type 0
DeclaresInGroup items b k g part.Name = DeclaresAt items b.declared k (Group g)
DeclaresInGroup items b k g (part.Input n) = ⊥
DeclaresInGroup items b k g (part.InputType n) = ⊥
DeclaresInGroup items b k g (part.InputDoc n) = ⊥
DeclaresInGroup items b k g (part.Output n) = ⊥
DeclaresInGroup items b k g (part.OutputDoc n) = ⊥
DeclaresInGroup items b k g part.Doc = ⊥
DeclaresInGroup items b k g part.Control = ⊥
DeclaresInGroup items b k g part.ControlDoc = ⊥
DeclaresInGroup items b k g (part.Field n) = ⊥
DeclaresInGroup items b k g (part.FieldType n) = ⊥
DeclaresInGroup items b k g (part.Setting n) = DeclaresLaid items b.groups k g n
DeclaresInGroup items b k g (part.SettingType n) = DeclaresLaid items b.groups k g n
DeclaresInGroup items b k g (part.Value n v) = DeclaresValue items b.groups k g n v

-- the item at place k declares the instruction or the format at the place, or what has the name in a group; an entry of a group has no name
-- here
abbrev pub DeclaresNamed : List Item → BuiltDeclarations → ℕ → Place → Part → Type 0
DeclaresNamed items b k (Instruction i) part = DeclaresAt items b.declared k (Instruction i)
DeclaresNamed items b k (Format f) part = DeclaresAt items b.declared k (Format f)
DeclaresNamed items b k (Group g) part = DeclaresInGroup items b k g part
DeclaresNamed items b k (Entry g e) part = ⊥

-- the item whose line is in the message of the name declares what has the name
pub record NameHasItem (items : List Item) (b : BuiltDeclarations) (name : RefusedName) : Type 0 where
  pub place : ℕ
  pub item : place_of_name items name ≡ Some place
  pub declares : DeclaresNamed items b place name.place name.part

-- the message is that of a name which the text declares and Rust refuses, and has the line of the item that declares what has the name
pub record HasItsLine (path : List ℕ) (names : Names) (text : List ℕ) (d : Declared) (message : List ℕ) : Type 0 where
  pub items : List Item
  pub lines : List ℕ
  pub read : AreReadOf text items lines
  pub built : BuiltDeclarations
  pub are_built : AreBuilt built
  pub of : built.declared ≡ d
  pub name : RefusedName
  pub refused : Contains (refused_names built) name
  pub has : NameHasItem items built name
  pub line : ℕ
  pub stands : slice_get lines has.place ≡ Some line
  pub is : message ≡ located (shown_path path) line (why_said names name)
