use Rattle.std.proofs.Common.{◌≡◌, ◌≤◌, ◌+◌, ℕ, length, slice_get, None, Some, sym, ◌∙◌, subst, ap, Bor}
use Rattle.std.specs.Option.{option_map}
use Rattle.std.proofs.lemmas.Option.{same_Some}
use Rattle.meta_unique.specs.NameSlots.{IsNameLookup}
use Rattle.meta_setting_tables.specs.GroupTables.{GroupContents, names_in}
use Rattle.meta_gen.proofs.FoundIn.{FindsIn, finds_declared_setting}
use Rattle.meta_gen.proofs.tables.Tables.find_setting_counted.Goals as goal

pub returns-clause-findings : goal.returns-clause-findings
returns-clause-findings g c = λ d h.
    let tables : GroupContents = c.in_ok-tables.tables.now in
    let at : slice_get c.args.self.now.groups c.args.group ≡ Some tables = sym c.group.ensures
    ∙ ap (option_map (λ (t : Bor GroupContents). t.now)) c.in_ok-tables.was in
    finds_declared_setting d c.args.self.now c.args.group c.args.name.now c.find_setting_counted.result
    (λ t there. subst (FindsIn c.args.name.now c.find_setting_counted.result)
    (same_Some tables t (sym at ∙ there)) c.find_setting_counted.ensures.exact)
    (λ none. absurd (let bad : None ≡ Some tables = sym none ∙ at in cc))
    h

pub returns-clause-counted : goal.returns-clause-counted
returns-clause-counted g c = λ t there.
    let tables : GroupContents = c.in_ok-tables.tables.now in
    let at : slice_get c.args.self.now.groups c.args.group ≡ Some tables = sym c.group.ensures
    ∙ ap (option_map (λ (t : Bor GroupContents). t.now)) c.in_ok-tables.was in
    subst (λ (t : GroupContents). (x : ℕ) × IsNameLookup 0 (names_in t.descriptors) t.slots c.args.name.now c.find_setting_counted.result x
    × (c.find_setting_counted.new.steps ≡ c.args.steps.now + (x + 1))) (same_Some tables t (sym at
    ∙ there)) c.find_setting_counted.ensures.counted

pub returns-clause-most : goal.returns-clause-most
returns-clause-most g c = λ t there.
    let tables : GroupContents = c.in_ok-tables.tables.now in
    let at : slice_get c.args.self.now.groups c.args.group ≡ Some tables = sym c.group.ensures
    ∙ ap (option_map (λ (t : Bor GroupContents). t.now)) c.in_ok-tables.was in
    subst (λ (t : GroupContents). c.find_setting_counted.new.steps ≤ c.args.steps.now + length t.slots)
    (same_Some tables t (sym at ∙ there)) c.find_setting_counted.ensures.most
