use Rattle.std.proofs.Common.{◌≡◌, ◌∙◌, List, Some, ap, subst, sym}
use Rattle.std.proofs.lemmas.Bool.{false≢true}
use Rattle.meta_file_syntax.specs.declared.items.Item.{Item}
use Rattle.meta_file_declare.specs.AllItems.{Declares}
use Rattle.meta_file_describe.specs.SettingItems.{items_of_groups}
use Rattle.meta_file_describe.proofs.SettingsDescribed.{found, not_nothing, no_instructions}
use Rattle.meta_file_describe.proofs.SettingsDescribed.{settings_anew, settings_declared, settings_built_alike}
use Rattle.meta_file_describe.proofs.describing.describe.Goals as goal

pub returns-in_default-clause-settings : goal.returns-in_default-clause-settings
returns-in_default-clause-settings c = λ alone.
    let made = c.in_ok-items.ensures.settings (no_instructions _ c.declarations-declarations.ensures.built alone) in
    absurd (not_nothing (λ v. v.items) _ _ c.in_default.is made)

pub returns-then-branch-clause-settings : goal.returns-then-branch-clause-settings
returns-then-branch-clause-settings c = λ alone.
    let made = c.in_ok-items.ensures.settings (no_instructions _ c.declarations-declarations.ensures.built alone) in
    ap Some (found (λ v. v.items) _ _ _ c.in-Some.is made)

pub returns-clause-settings : goal.returns-clause-settings
returns-clause-settings c = λ alone.
    let b = c.args.built.now in
    let built = c.declarations-declarations.ensures.built in
    let made = c.in_ok-items.ensures.settings (no_instructions b built alone) in
    let same : c.deref.result.now ≡ items_of_groups b.groups =
    c.deref.ensures.value ∙ found (λ v. v.items) _ _ _ c.in-Some.is made in
    let there = c.in_ok-is_described.ensures.alike (settings_anew b)
    (subst (λ (items : List Item). Declares items (settings_anew b)) (sym same) (settings_declared b built alone))
    (settings_built_alike b built alone) in
    absurd (false≢true (sym c.if-branch.false ∙ there))
