-- Which item a fault of declarations is about.
--     item_of_place items p       the place of the item that declares what stands at the place p of the declarations
--     named_by count e            what a fault names
--     place_of_fault items e      the place of the item that declares what the fault names
--     laid_places items           the places of the settings of one group, as the group is laid out
use Rattle.std.specs.Prelude.{◌≡◌, ℕ, ◌+◌, ◌-◌, ◌==◌, Bool, true, false, List, [], ◌∷◌, ◌++◌, length, Option, Some, None, option_map}
use Rattle.std.specs.Prelude.{option_and_then, drop}
use Rattle.std.specs.Prelude.{slice_get, if◌then◌else◌}
use Rattle.std.specs.List.{before_first}
use Rattle.meta_types.specs.declared.fault.Place.{Place}
use Rattle.meta_types.specs.declared.fault.Place.TheVariants.{Instruction, Format, Group, Entry}
use Rattle.meta_types.specs.declared.fault.DefinitionError.{DefinitionError}
use Rattle.meta_types.specs.declared.fault.DefinitionError.TheVariants.{BadName, DuplicateName, TooManyOpcodes, BadOutput, FormatMismatch}
use Rattle.meta_types.specs.declared.fault.DefinitionError.TheVariants.{NoControl, BadSecond, BadDerivation, TooManyOperands, BadImmMethod}
use Rattle.meta_types.specs.declared.fault.DefinitionError.TheVariants.{BadFormat, FormatClash, TooManyTypeSets, BadEnum, BadPreset}
use Rattle.meta_types.specs.declared.fault.DefinitionError.TheVariants.{TooManySettings, OutOfMemory}
use Rattle.meta_file_syntax.specs.declared.items.Item.{Item}
use Rattle.meta_file_syntax.specs.declared.items.Item.TheVariants as item

-- whether an item opens a group, declares a setting, declares a preset
abbrev pub is_group : Item → Bool
is_group (item.Group n) = true
is_group (item.Type i) = false
is_group (item.Alias i) = false
is_group (item.Kind i) = false
is_group (item.Format i) = false
is_group (item.Inst i) = false
is_group (item.Bool i) = false
is_group (item.Num i) = false
is_group (item.Enum i) = false
is_group (item.Preset i) = false

abbrev pub is_setting : Item → Bool
is_setting (item.Group n) = false
is_setting (item.Type i) = false
is_setting (item.Alias i) = false
is_setting (item.Kind i) = false
is_setting (item.Format i) = false
is_setting (item.Inst i) = false
is_setting (item.Bool i) = true
is_setting (item.Num i) = true
is_setting (item.Enum i) = true
is_setting (item.Preset i) = false

abbrev pub is_preset : Item → Bool
is_preset (item.Group n) = false
is_preset (item.Type i) = false
is_preset (item.Alias i) = false
is_preset (item.Kind i) = false
is_preset (item.Format i) = false
is_preset (item.Inst i) = false
is_preset (item.Bool i) = false
is_preset (item.Num i) = false
is_preset (item.Enum i) = false
is_preset (item.Preset i) = true

-- whether it declares a format, an instruction
abbrev pub is_format : Item → Bool
is_format (item.Group n) = false
is_format (item.Type i) = false
is_format (item.Alias i) = false
is_format (item.Kind i) = false
is_format (item.Format i) = true
is_format (item.Inst i) = false
is_format (item.Bool i) = false
is_format (item.Num i) = false
is_format (item.Enum i) = false
is_format (item.Preset i) = false

abbrev pub is_inst : Item → Bool
is_inst (item.Group n) = false
is_inst (item.Type i) = false
is_inst (item.Alias i) = false
is_inst (item.Kind i) = false
is_inst (item.Format i) = false
is_inst (item.Inst i) = true
is_inst (item.Bool i) = false
is_inst (item.Num i) = false
is_inst (item.Enum i) = false
is_inst (item.Preset i) = false

-- the item opens a group, or is an entry of one: it declares nothing of types, kinds, formats and instructions
abbrev pub IsOfGroup : Item → Type 0
IsOfGroup (item.Group n) = Unit {0}
IsOfGroup (item.Type i) = ⊥
IsOfGroup (item.Alias i) = ⊥
IsOfGroup (item.Kind i) = ⊥
IsOfGroup (item.Format i) = ⊥
IsOfGroup (item.Inst i) = ⊥
IsOfGroup (item.Bool i) = Unit {0}
IsOfGroup (item.Num i) = Unit {0}
IsOfGroup (item.Enum i) = Unit {0}
IsOfGroup (item.Preset i) = Unit {0}

-- each of them does
abbrev pub AreOfGroups : List Item → Type 0
AreOfGroups items = (k : ℕ) (i : Item) → slice_get items k ≡ Some i → IsOfGroup i

-- the places of the items that are so, where the first item stands at place n
abbrev pub places_from : (Item → Bool) → ℕ → List Item → List ℕ
places_from is n [] = []
places_from is n (i ∷ items) = if is i then n ∷ places_from is (n + 1) items else places_from is (n + 1) items

abbrev pub places_of : (Item → Bool) → List Item → List ℕ
places_of is items = places_from is 0 items

-- whether it declares a setting that has a byte of its own, and one that has a bit
abbrev pub is_valued : Item → Bool
is_valued (item.Group n) = false
is_valued (item.Type i) = false
is_valued (item.Alias i) = false
is_valued (item.Kind i) = false
is_valued (item.Format i) = false
is_valued (item.Inst i) = false
is_valued (item.Bool i) = false
is_valued (item.Num i) = true
is_valued (item.Enum i) = true
is_valued (item.Preset i) = false

abbrev pub is_bool : Item → Bool
is_bool (item.Group n) = false
is_bool (item.Type i) = false
is_bool (item.Alias i) = false
is_bool (item.Kind i) = false
is_bool (item.Format i) = false
is_bool (item.Inst i) = false
is_bool (item.Bool i) = true
is_bool (item.Num i) = false
is_bool (item.Enum i) = false
is_bool (item.Preset i) = false

-- the items before the first group
abbrev pub before_group : List Item → List Item
before_group items = before_first is_group items

-- the place of the item that opens this group
abbrev pub place_of_group : List Item → ℕ → Option ℕ
place_of_group items g = slice_get (places_of is_group items) g

-- the places of the entries among the items of one group, in the order of the entries: the settings, and then the presets
abbrev pub entry_places : List Item → List ℕ
entry_places items = places_of is_setting items ++ places_of is_preset items

-- the places of the settings among the items of one group, in the order in which the group is laid out: its enums and numbers, and then its
-- booleans
abbrev pub laid_places : List Item → List ℕ
laid_places items = places_of is_valued items ++ places_of is_bool items

-- the place of an entry of the group that is opened at a place: the items of the group come after it
abbrev pub entry_after : List Item → ℕ → ℕ → Option ℕ
entry_after items e p = option_map (λ k. p + 1 + k) (slice_get (entry_places (before_group (drop (p + 1) items))) e)

-- the place of the item that declares this entry of this group
abbrev pub place_of_entry : List Item → ℕ → ℕ → Option ℕ
place_of_entry items g e = option_and_then (entry_after items e) (place_of_group items g)

-- the place of the item that declares this format, which counts from 0, and of the item that declares this instruction, which counts from 1
abbrev pub place_of_format : List Item → ℕ → Option ℕ
place_of_format items f = slice_get (places_of is_format items) f

abbrev pub place_of_inst : List Item → ℕ → Option ℕ
place_of_inst items i = if i == 0 then None else slice_get (places_of is_inst items) (i - 1)

-- the place of the item that declares what stands at this place of declarations
abbrev pub item_of_place : List Item → Place → Option ℕ
item_of_place items (Instruction i) = place_of_inst items i
item_of_place items (Format f) = place_of_format items f
item_of_place items (Group g) = place_of_group items g
item_of_place items (Entry g e) = place_of_entry items g e

-- ---- faults

-- what the fault names, under this count of declared instructions: the first of them that is one too many, or the last one if there are too
-- many type sets. `OutOfMemory` names nothing.
abbrev pub named_by : ℕ → DefinitionError → Option Place
named_by count (BadName p) = Some p
named_by count (DuplicateName p earlier) = Some p
named_by count (TooManyOpcodes n) = Some (Instruction 4096)
named_by count (BadOutput i place) = Some (Instruction i)
named_by count (FormatMismatch i) = Some (Instruction i)
named_by count (NoControl i) = Some (Instruction i)
named_by count (BadSecond i) = Some (Instruction i)
named_by count (BadDerivation i place) = Some (Instruction i)
named_by count (TooManyOperands i n) = Some (Instruction i)
named_by count (BadImmMethod i) = Some (Instruction i)
named_by count (BadFormat f) = Some (Format f)
named_by count (FormatClash f earlier) = Some (Format f)
named_by count (TooManyTypeSets n) = Some (Instruction count)
named_by count (BadEnum g e) = Some (Entry g e)
named_by count (BadPreset g e) = Some (Entry g e)
named_by count (TooManySettings g bools bytes entries) = Some (Group g)
named_by count OutOfMemory = None

-- the place of the item that declares what the fault names
abbrev pub place_of_fault : List Item → DefinitionError → Option ℕ
place_of_fault items e = option_and_then (item_of_place items) (named_by (length (places_of is_inst items)) e)
