use Rattle.meta_setting_tables.proofs.Sameness.{detail_decides}
use Rattle.meta_setting_tables.proofs.descriptor.Detail.same.Goals as goal

pub returns : goal.returns
returns c = rw c.eq.ensures (detail_decides c.args.self c.args.other)
