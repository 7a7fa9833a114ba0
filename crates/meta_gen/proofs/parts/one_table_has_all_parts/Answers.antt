use Rattle.meta_gen.proofs.OneWhole.{one_whole}
use Rattle.meta_gen.proofs.parts.one_table_has_all_parts.Goals as goal

pub returns : goal.returns
returns c = one_whole c.one_table_has_the_parts.ensures c.one_group_has_the_parts.ensures
