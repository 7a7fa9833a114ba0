use Rattle.std.proofs.Common.{ap, ◌∙◌}
use Rattle.meta_setting_tables.specs.GroupTables.{GroupContents}
use Rattle.meta_setting_tables.proofs.EntriesRead.{entry_read, entry_there, entry_described}
use Rattle.meta_setting_tables.proofs.group_tables.GroupTables.descriptor.Goals as goal

pub returns-clause-entry : goal.returns-clause-entry
returns-clause-entry c = entry_read c.args.self.now.descriptors c.deref.result.now c.args.index c.get.result
    (c.deref.ensures.value ∙ ap (λ (t : GroupContents). t.descriptors) c.self.view_is) c.get.ensures.lookup.3

pub returns-clause-none : goal.returns-clause-none
returns-clause-none c = λ g h. entry_there g c.args.self.now c.args.index c.get.result (returns-clause-entry c) h

pub returns-clause-meaning : goal.returns-clause-meaning
returns-clause-meaning c = λ g h. entry_described g c.args.self.now c.args.index c.get.result (returns-clause-entry c) h
