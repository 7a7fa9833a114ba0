-- What all items declare: types and kinds, formats and instructions, and groups of settings.
--     wrong_in items k           what is wrong with the item at place k, after the items above it
--     IsFirstWrong items k r     the item at place k is the first that is wrong, and r is wrong with it
--     Declares items d           nothing is wrong with the items, and these are the declarations that they make
use Rattle.std.specs.Prelude.{◌≡◌, ◌<◌, ℕ, List, length, take, slice_get, Option, Some, None, option_and_then}
use Rattle.std.specs.Option.{option_or}
use Rattle.std.specs.List.{AllZip}
use Rattle.meta_inst.specs.InstructionSet.{InstructionSet}
use Rattle.meta_build.specs.AllDeclared.{Declared}
use Rattle.meta_file_syntax.specs.declared.items.Item.{Item}
use Rattle.meta_file_types.specs.Registered.{Registered, IsRegistryOf}
use Rattle.meta_file_types.specs.Said as types
use Rattle.meta_file_declare.specs.Registered.{IsFormatIn, IsBuilderIn}
use Rattle.meta_file_declare.specs.Held.{meant_formats}
use Rattle.meta_file_declare.specs.SaidOfInsts as insts
use Rattle.meta_file_types.specs.declared.refused.Reason.{Reason}
use Rattle.meta_file_declare.specs.Named.{Known}
use Rattle.meta_file_declare.specs.Wrong as groups
use Rattle.meta_file_declare.specs.Said.{groups_of}

-- ---- what is wrong

-- with a type, a kind, a format or an instruction, after what the items above it declare
abbrev pub wrong_of_set : insts.Above → Item → Option Reason
wrong_of_set above i = option_or (types.wrong_with above.types i) (insts.wrong_with above i)

-- with an item, after what the items above it declare, and by the names of the group that it belongs to, if there is one
abbrev pub wrong_with : insts.Above → Option Known → Item → Option Reason
wrong_with above known i = option_or (wrong_of_set above i) (groups.wrong_with known i)

-- with an item below these
abbrev pub wrong_below : List Item → Item → Option Reason
wrong_below above i = wrong_with (insts.said above) (groups.known_after above) i

-- with the item at a place
abbrev pub wrong_in : List Item → ℕ → Option Reason
wrong_in items k = option_and_then (wrong_below (take k items)) (slice_get items k)

-- nothing is wrong with any of the first n items
abbrev pub AllRight : List Item → ℕ → Type 0
AllRight items n = (k : ℕ) → k < n → wrong_in items k ≡ None

-- the item at the place is the first that is wrong, and this is wrong with it
pub record IsFirstWrong (items : List Item) (place : ℕ) (reason : Reason) : Type 0 where
  pub before : AllRight items place
  pub wrong : wrong_in items place ≡ Some reason

-- ---- what is declared

-- the registry of an instruction set: each variable stands for what the items mention at its place
abbrev pub registry_of : List Item → InstructionSet → Registered
registry_of items set = record { vars = set.vars; symbols = (insts.said items).types.symbols }

-- the items declare this instruction set: its variables are those that the items mention, in order, and by their numbers each format and
-- each instruction is the one that is meant, in order
pub record DeclaresSet (items : List Item) (set : InstructionSet) : Type 0 where
  pub vars : IsRegistryOf (registry_of items set) (insts.said items).types.roots
  pub formats : AllZip (IsFormatIn (registry_of items set)) (meant_formats (insts.said items).insts.formats) set.formats
  pub instructions : AllZip (IsBuilderIn (registry_of items set)) (insts.said items).insts.insts set.instructions

-- nothing is wrong with any of the items, and these are the declarations that they make
pub record Declares (items : List Item) (d : Declared) : Type 0 where
  pub right : AllRight items (length items)
  pub set : DeclaresSet items d.set
  pub groups : d.groups ≡ groups_of items
