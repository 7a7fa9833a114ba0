use Rattle.std.proofs.Common.{rules, ap, ◌∙◌, subst}
use Rattle.meta_setting_tables.specs.FoundSetting.{FindsEntry}
use Rattle.meta_unique.specs.NameSlots.{AreNameSlots}
use Rattle.meta_setting_tables.specs.GroupTables.{GroupContents, names_in}
use Rattle.meta_setting_tables.proofs.Finding.{finds_exactly, finds_in}
use Rattle.meta_setting_tables.proofs.group_tables.GroupTables.find_setting.Goals as goal

pub returns-clause-found : goal.returns-clause-found
returns-clause-found c =
    let own =
    subst (λ (t : GroupContents). AreNameSlots 0 (names_in t.descriptors) t.slots) c.self.view_is c.self.invariant.well_formed.slots in
    finds_in (names_in c.args.self.now.descriptors) c.args.name.now _ c.args.self.now.slots c.as_slice.result.now c.simple_hash.result
    c.probe.result own
    (c.as_slice.ensures.value ∙ ap (λ (t : GroupContents). t.slots) c.self.view_is) c.simple_hash.ensures
    (λ number b says. search rules) c.probe.ensures

pub returns-clause-meaning : goal.returns-clause-meaning
returns-clause-meaning c = λ g t. subst (λ w. FindsEntry w c.args.name.now c.probe.result) t.names (returns-clause-found c)

pub returns-clause-exact : goal.returns-clause-exact
returns-clause-exact c = λ group t apart. finds_exactly _ c.args.name.now c.probe.result (returns-clause-meaning c group t) apart
