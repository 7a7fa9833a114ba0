use Rattle.std.proofs.Common.{◌≡◌, slice_get, None, Some, sym, ◌∙◌, subst, ap, Bor}
use Rattle.std.specs.Option.{option_map}
use Rattle.std.proofs.lemmas.Option.{same_Some}
use Rattle.meta_setting_tables.specs.GroupTables.{GroupContents}
use Rattle.meta_gen.proofs.FoundIn.{FindsIn, finds_declared_setting}
use Rattle.meta_gen.proofs.tables.Tables.find_setting.Goals as goal

pub returns-clause-findings : goal.returns-clause-findings
returns-clause-findings c = λ d h.
    let tables : GroupContents = c.in_ok-tables.tables.now in
    let at : slice_get c.args.self.now.groups c.args.group ≡ Some tables = sym c.group.ensures
    ∙ ap (option_map (λ (t : Bor GroupContents). t.now)) c.in_ok-tables.was in
    finds_declared_setting d c.args.self.now c.args.group c.args.name.now c.find_setting.result
    (λ t there. subst (FindsIn c.args.name.now c.find_setting.result) (same_Some tables t (sym at ∙ there)) c.find_setting.ensures.exact)
    (λ none. absurd (let bad : None ≡ Some tables = sym none ∙ at in cc))
    h
