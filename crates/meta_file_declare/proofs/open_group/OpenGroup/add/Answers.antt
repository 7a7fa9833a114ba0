use Rattle.meta_file_declare.proofs.TextParts.{same_item}
use Rattle.meta_file_declare.proofs.open_group.OpenGroup.add.Goals as goal

pub add_bool-requires : goal.add_bool-requires
add_bool-requires c = record { kept = c.requires.kept; texts = same_item c.args.item.now _ c.in-Bool.is c.requires.texts }

pub add_num-requires : goal.add_num-requires
add_num-requires c = record { kept = c.requires.kept; texts = same_item c.args.item.now _ c.in-Num.is c.requires.texts }

pub add_enum-requires : goal.add_enum-requires
add_enum-requires c = record { kept = c.requires.kept; texts = same_item c.args.item.now _ c.in-Enum.is c.requires.texts }

pub add_preset-requires : goal.add_preset-requires
add_preset-requires c = record { kept = c.requires.kept; texts = same_item c.args.item.now _ c.in-Preset.is c.requires.texts }
