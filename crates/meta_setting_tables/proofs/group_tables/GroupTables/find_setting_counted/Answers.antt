use Rattle.std.proofs.Common.{rules, ap, ◌∙◌, subst}
use Rattle.meta_setting_tables.specs.FoundSetting.{FindsEntry}
use Rattle.meta_unique.specs.NameSlots.{AreNameSlots}
use Rattle.meta_setting_tables.specs.GroupTables.{GroupContents, names_in}
use Rattle.meta_unique.proofs.Finding.{lookup_read}
use Rattle.meta_setting_tables.proofs.Finding.{finds_exactly, finds_in}
use Rattle.meta_setting_tables.proofs.group_tables.GroupTables.find_setting_counted.Goals as goal

pub returns-clause-found : goal.returns-clause-found
returns-clause-found g c =
    let own =
    subst (λ (t : GroupContents). AreNameSlots 0 (names_in t.descriptors) t.slots) c.self.view_is c.self.invariant.well_formed.slots in
    let l = c.probe_counted.ensures.lookup in
    finds_in (names_in c.args.self.now.descriptors) c.args.name.now _ c.args.self.now.slots c.as_slice.result.now c.simple_hash.result
    c.probe_counted.result own
    (c.as_slice.ensures.value ∙ ap (λ (t : GroupContents). t.slots) c.self.view_is) c.simple_hash.ensures (λ number b says. search rules)
    (l.0, l.1)

pub returns-clause-meaning : goal.returns-clause-meaning
returns-clause-meaning g c = λ group t. subst (λ w. FindsEntry w c.args.name.now c.probe_counted.result) t.names (returns-clause-found g c)

pub returns-clause-counted : goal.returns-clause-counted
returns-clause-counted g c =
    let l = c.probe_counted.ensures.lookup in
    let lookup = lookup_read 0 (names_in c.args.self.now.descriptors) c.args.name.now _ _ c.args.self.now.slots _ _ l.0
    (c.as_slice.ensures.value ∙ ap (λ (t : GroupContents). t.slots) c.self.view_is) c.simple_hash.ensures
    (λ number b says. search rules) l.1 in
    (l.0, lookup, l.2)

pub returns-clause-exact : goal.returns-clause-exact
returns-clause-exact g c =
    λ group t apart. finds_exactly _ c.args.name.now c.probe_counted.result (returns-clause-meaning g c group t) apart
