use Rattle.std.proofs.Common.{◌≡◌, ℕ, List, length, take, refl, sym, subst, ◌∙◌, arith}
use Rattle.std.proofs.lemmas.Option.{slice_get_read}
use Rattle.std.proofs.lemmas.Result.{IfOk-from_err}
use Rattle.meta_settings.specs.declared.setting.SpecificSetting.{SpecificSetting}
use Rattle.meta_settings.specs.Layout.{PlacedSetting}
use Rattle.meta_setting_tables.specs.Descriptor.{IsDetailOf, setting_descriptor}
use Rattle.meta_setting_tables.specs.declared.descriptor.Descriptor.{Descriptor}
use Rattle.meta_setting_tables.specs.declared.descriptor.Detail.{Detail}
use Rattle.meta_setting_tables.specs.EnumeratorList.{with_values, built_values_of}
use Rattle.meta_setting_tables.proofs.DescribedSoFar.{settings_next, settings_done}
use Rattle.meta_setting_tables.proofs.group_tables.describe_settings.Goals as goal

abbrev of_setting : Detail → List ℕ → List ℕ → ℕ → Descriptor
of_setting detail name description offset = record { name = name; description = description; offset = offset; detail = detail }

described : (s : PlacedSetting) (detail : Detail) (name description : List ℕ) (offset : ℕ) → name ≡ s.name
    → description ≡ s.description → offset ≡ s.byte_offset → of_setting detail name description offset ≡ setting_descriptor s detail
described s detail name description offset a b e = λ i. of_setting detail (a i) (b i) (e i)

pub detail_of-requires : goal.detail_of-requires
detail_of-requires c = λ values is.
    let k = c.loop-setting.setting-index in
    let settings = c.args.settings.now in
    let at = slice_get_read settings (length settings) k c.setting-item.result refl c.loop-setting-test.true c.setting-item.is in
    let e = c.requires.enums k c.setting-item.result values at (sym c.specific.ensures ∙ is) in
    let early = e.0 in
    let most = c.loop-setting.invariant.most (omega (arith, early)) in
    (omega (arith, early, most), e.1)

pub loop-setting-preserved : goal.loop-setting-preserved
loop-setting-preserved c =
    let k = c.loop-setting.setting-index in
    let settings = c.args.settings.now in
    let at = slice_get_read settings (length settings) k c.setting-item.result refl c.loop-setting-test.true c.setting-item.is in
    let s = c.setting-item.result in
    let after = c.detail_of.new.enumerators in
    let before = c.loop-setting.enumerators in
    let detail = c.in_ok-detail.detail in
    let is = subst (λ (x : SpecificSetting). IsDetailOf after (take k settings) x detail) c.specific.ensures
    (c.in_ok-detail.ensures.detail (take k settings) c.loop-setting.invariant.enumerators_are) in
    let made = subst (λ (x : SpecificSetting). after ≡ with_values before (built_values_of x)) c.specific.ensures
    c.in_ok-detail.ensures.added in
    let is_own = described s detail _ _ _ (c.in_ok-copy.ensures ∙ c.name.ensures) (c.in_ok-copy-2.ensures ∙ c.description.ensures)
    (c.from.ensures ∙ c.byte_offset.ensures) in
    settings_next settings k s detail _ before after c.loop-setting.descriptors.items
    c.push.new.self.items at is made c.in_ok-detail.ensures.grown is_own c.in_ok-push.ensures.items c.loop-setting.invariant

pub returns-clause-names : goal.returns-clause-names
returns-clause-names c =
    (settings_done c.args.settings.now c.loop-setting.setting-index c.loop-setting.enumerators
    c.loop-setting.descriptors.items c.loop-setting-test.false c.loop-setting.invariant).0

pub returns-clause-enumerators : goal.returns-clause-enumerators
returns-clause-enumerators c =
    (settings_done c.args.settings.now c.loop-setting.setting-index c.loop-setting.enumerators
    c.loop-setting.descriptors.items c.loop-setting-test.false c.loop-setting.invariant).1

pub returns-clause-described : goal.returns-clause-described
returns-clause-described c =
    (settings_done c.args.settings.now c.loop-setting.setting-index c.loop-setting.enumerators
    c.loop-setting.descriptors.items c.loop-setting-test.false c.loop-setting.invariant).2

pub returns-in_err-descriptors-clause-names : goal.returns-in_err-descriptors-clause-names
returns-in_err-descriptors-clause-names c = IfOk-from_err c.from_residual.result _ c.from_residual.ensures.0

pub returns-in_err-descriptors-clause-described : goal.returns-in_err-descriptors-clause-described
returns-in_err-descriptors-clause-described c = IfOk-from_err c.from_residual.result _ c.from_residual.ensures.0

pub returns-in_err-detail-clause-enumerators : goal.returns-in_err-detail-clause-enumerators
returns-in_err-detail-clause-enumerators c = IfOk-from_err c.from_residual-in_err-detail.result _ c.from_residual-in_err-detail.ensures.0

pub returns-in_err-detail-clause-names : goal.returns-in_err-detail-clause-names
returns-in_err-detail-clause-names c = IfOk-from_err c.from_residual-in_err-detail.result _ c.from_residual-in_err-detail.ensures.0

pub returns-in_err-detail-clause-described : goal.returns-in_err-detail-clause-described
returns-in_err-detail-clause-described c = IfOk-from_err c.from_residual-in_err-detail.result _ c.from_residual-in_err-detail.ensures.0

pub returns-in_err-push-clause-enumerators : goal.returns-in_err-push-clause-enumerators
returns-in_err-push-clause-enumerators c = IfOk-from_err c.from_residual-in_err-push.result _ c.from_residual-in_err-push.ensures.0

pub returns-in_err-push-clause-names : goal.returns-in_err-push-clause-names
returns-in_err-push-clause-names c = IfOk-from_err c.from_residual-in_err-push.result _ c.from_residual-in_err-push.ensures.0

pub returns-in_err-push-clause-described : goal.returns-in_err-push-clause-described
returns-in_err-push-clause-described c = IfOk-from_err c.from_residual-in_err-push.result _ c.from_residual-in_err-push.ensures.0
