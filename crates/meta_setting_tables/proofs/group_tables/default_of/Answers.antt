use Rattle.std.proofs.Common.{Some, sym, ap, ◌∙◌, get_or}
use Rattle.std.proofs.lemmas.Nat.Bits.{shr_and_one}
use Rattle.meta_setting_tables.specs.GroupTables.{default_in}
use Rattle.meta_setting_tables.proofs.group_tables.default_of.Goals as goal

pub returns-in-Bool : goal.returns-in-Bool
returns-in-Bool c = ap Some (shr_and_one _ c.in-Bool.bit)
    ∙ ap (default_in (get_or c.args.defaults.now c.args.descriptor.now.offset 0)) (sym c.in-Bool.is)

pub returns-in-Num : goal.returns-in-Num
returns-in-Num c = ap (default_in (get_or c.args.defaults.now c.args.descriptor.now.offset 0)) (sym c.in-Num.is)

pub returns-in-Enum : goal.returns-in-Enum
returns-in-Enum c = ap (default_in (get_or c.args.defaults.now c.args.descriptor.now.offset 0)) (sym c.in-Enum.is)

pub returns-in-Preset : goal.returns-in-Preset
returns-in-Preset c = ap (default_in (get_or c.args.defaults.now c.args.descriptor.now.offset 0)) (sym c.in-Preset.is)
