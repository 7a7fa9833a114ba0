-- The groups while items are read: those that are closed, and the one that is open.
use Rattle.std.specs.Prelude.{ℕ, ⊤, List, [], ◌∷◌, ◌++◌, map, Option, Some, None, option_map}
use Rattle.meta_file_syntax.specs.declared.items.Item.{Item}
use Rattle.meta_file_syntax.specs.declared.items.Item.TheVariants as item
use Rattle.meta_file_syntax.specs.Named.{name_bytes}
use Rattle.meta_settings.specs.GroupDeclaration.{GroupDeclaration, booleans_among}
use Rattle.meta_settings.specs.Declaring.{with_setting, with_preset}
use Rattle.meta_file_declare.specs.declared.open_group.OpenGroup.{OpenGroup}
use Rattle.meta_file_declare.specs.Named.{Known}
use Rattle.meta_file_declare.specs.FirstNumbers.{LeadsTo}
use Rattle.meta_file_declare.specs.Said.{bool_setting, num_setting, enum_setting, preset_of}

-- ---- what is kept of the group that is open

-- the names of the booleans of a group, and those of its presets, each in order
abbrev pub boolean_names : GroupDeclaration → List (List ℕ)
boolean_names g = map (λ s. s.name) (booleans_among g.settings)

abbrev pub preset_names : GroupDeclaration → List (List ℕ)
preset_names g = map (λ p. p.name) g.presets

abbrev pub known_of : GroupDeclaration → Known
known_of g = record { booleans = boolean_names g; presets = preset_names g }

-- each name of its booleans and of its presets has the number of the first
pub record IsKept (g : OpenGroup) : Type 0 where
  pub booleans : LeadsTo g.booleans (boolean_names g.builder)
  pub presets : LeadsTo g.presets (preset_names g.builder)

-- the group that is open, if one is
abbrev pub group_in : Option OpenGroup → Option GroupDeclaration
group_in None = None
group_in (Some g) = Some g.builder

-- where one is, that is kept of it
abbrev pub IsKeptOpen : Option OpenGroup → Type 0
IsKeptOpen None = ⊤
IsKeptOpen (Some g) = IsKept g

-- the names that are known in it
abbrev pub known_in : Option OpenGroup → Option Known
known_in g = option_map known_of (group_in g)

-- ---- the groups after an item

pub record GroupsSoFar : Type 0 where
  pub done : List GroupDeclaration
  pub open_group : Option GroupDeclaration

abbrev pub groups_so_far : List GroupDeclaration → Option GroupDeclaration → GroupsSoFar
groups_so_far done open_group = record { done = done; open_group = open_group }

-- none
abbrev pub no_groups : GroupsSoFar
no_groups = groups_so_far [] None

-- all of them, in order
abbrev pub closed_by : List GroupDeclaration → Option GroupDeclaration → List GroupDeclaration
closed_by done None = done
closed_by done (Some g) = done ++ g ∷ []

-- a group without settings and presets
abbrev pub empty_group : List ℕ → GroupDeclaration
empty_group name = record { name = name; settings = []; presets = [] }

-- the group with the setting or the preset that an item declares; `group` adds nothing to it
abbrev pub with_item : GroupDeclaration → Item → GroupDeclaration
with_item g (item.Group n) = g
with_item g (item.Type i) = g
with_item g (item.Alias i) = g
with_item g (item.Kind i) = g
with_item g (item.Format i) = g
with_item g (item.Inst i) = g
with_item g (item.Bool i) = with_setting g (bool_setting i)
with_item g (item.Num i) = with_setting g (num_setting i)
with_item g (item.Enum i) = with_setting g (enum_setting i)
with_item g (item.Preset i) = with_preset g (preset_of (known_of g) i)

abbrev pub adding : GroupsSoFar → Item → GroupsSoFar
adding s i = record { done = s.done; open_group = option_map (λ g. with_item g i) s.open_group }

-- `group` closes the one that is open, and opens another; the others add to the one that is open
abbrev pub groups_after : GroupsSoFar → Item → GroupsSoFar
groups_after s (item.Group n) = record { done = closed_by s.done s.open_group; open_group = Some (empty_group (name_bytes n)) }
groups_after s (item.Type i) = adding s (item.Type i)
groups_after s (item.Alias i) = adding s (item.Alias i)
groups_after s (item.Kind i) = adding s (item.Kind i)
groups_after s (item.Format i) = adding s (item.Format i)
groups_after s (item.Inst i) = adding s (item.Inst i)
groups_after s (item.Bool i) = adding s (item.Bool i)
groups_after s (item.Num i) = adding s (item.Num i)
groups_after s (item.Enum i) = adding s (item.Enum i)
groups_after s (item.Preset i) = adding s (item.Preset i)
