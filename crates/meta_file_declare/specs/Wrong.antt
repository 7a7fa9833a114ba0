-- What is wrong with a group or an entry, if anything is.
--     wrong_with known i        what is wrong with the item, by the names that are known of its group
--     known_after items        the names that stand for something after these items
use Rattle.std.specs.Prelude.{Bool, true, false, List, [], ◌∷◌, Option, Some, None, option_map, is_none, if◌then◌else◌}
use Rattle.std.specs.List.{find}
use Rattle.std.specs.Option.{option_or}
use Rattle.meta_file_syntax.specs.declared.name.Name.{Name}
use Rattle.meta_file_syntax.specs.declared.items.Item.{Item}
use Rattle.meta_file_syntax.specs.declared.items.Item.TheVariants as item
use Rattle.meta_file_syntax.specs.Named.{name_bytes}
use Rattle.meta_file_types.specs.declared.refused.Reason.{Reason}
use Rattle.meta_file_types.specs.declared.refused.Reason.TheVariants.{NotText, NoGroup, NoEntry}
use Rattle.meta_file_types.specs.Texts.{are_texts}
use Rattle.meta_file_declare.specs.Texts.{item_texts}
use Rattle.meta_file_declare.specs.Named.{Known, known_below, meant}
use Rattle.meta_file_declare.specs.Places.{is_group}

-- the first of the names that stands for nothing
abbrev pub missing_in : Known → List Name → Option Name
missing_in known names = find (λ n. is_none (meant known (name_bytes n))) names

-- why an item whose texts are UTF-8 can't stand there, by the names of the group that it belongs to, if there is one: a setting or a preset
-- without a group, or a preset with a name that stands for nothing
abbrev pub misplaced : Option Known → Item → Option Reason
misplaced known (item.Group n) = None
misplaced known (item.Type i) = None
misplaced known (item.Alias i) = None
misplaced known (item.Kind i) = None
misplaced known (item.Format i) = None
misplaced known (item.Inst i) = None
misplaced None (item.Bool i) = Some NoGroup
misplaced None (item.Num i) = Some NoGroup
misplaced None (item.Enum i) = Some NoGroup
misplaced None (item.Preset i) = Some NoGroup
misplaced (Some known) (item.Bool i) = None
misplaced (Some known) (item.Num i) = None
misplaced (Some known) (item.Enum i) = None
misplaced (Some known) (item.Preset i) = option_map NoEntry (missing_in known i.args)

abbrev pub wrong_if : Bool → Option Reason → Option Reason
wrong_if true reason = reason
wrong_if false reason = Some NotText

-- what is wrong with an item there, if anything is: first that a text of it isn't UTF-8
abbrev pub wrong_with : Option Known → Item → Option Reason
wrong_with known i = wrong_if (are_texts (item_texts i)) (misplaced known i)

-- the entries of the last group: what comes after the last `group` among the items, if there is one
abbrev pub last_entries : List Item → Option (List Item)
last_entries [] = None
last_entries (i ∷ is) = option_or (last_entries is) (if is_group i then Some is else None)

-- the names that stand for something below these items, if a group stands among them
abbrev pub known_after : List Item → Option Known
known_after items = option_map known_below (last_entries items)
