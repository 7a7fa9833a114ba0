use Rattle.meta_setting_tables.proofs.OneGroup.{one_group}
use Rattle.meta_setting_tables.proofs.group_laws.one_table_of_a_group.Goals as goal

pub returns : goal.returns
returns c = one_group
