use Rattle.meta_setting_tables.proofs.FromParts.{one_with_parts}
use Rattle.meta_setting_tables.proofs.group_laws.one_group_has_the_parts.Goals as goal

pub returns : goal.returns
returns c = one_with_parts
