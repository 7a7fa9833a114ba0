use Rattle.std.proofs.Common.{◌≡◌, ℕ, List, Some, slice_get, ap, sym, subst, ◌∙◌, arith}
use Rattle.std.proofs.lemmas.Result.{IfOk-from_err}
use Rattle.meta_settings.specs.Layout.{PlacedSetting}
use Rattle.meta_setting_tables.specs.declared.descriptor.Descriptor.{Descriptor}
use Rattle.meta_setting_tables.specs.Descriptor.{DescribesEntry}
use Rattle.meta_setting_tables.specs.EnumeratorList.{enumerators_of}
use Rattle.meta_setting_tables.proofs.WholeGroup.{enum_early, described_as, names_are, entries_are}
use Rattle.meta_setting_tables.proofs.group_tables.described_by.Goals as goal

pub describe_settings-requires-clause-enums : goal.describe_settings-requires-clause-enums
describe_settings-requires-clause-enums c = λ k s values at is.
    let size = c.settings_size-size.ensures.size in
    let small = c.settings_size-size.type_inv in
    enum_early c.args.group.now c.requires.built c.settings_size-size.ensures.sized (omega (arith, size, small)) k s values
    (ap (λ (w : List PlacedSetting). slice_get w k) (sym c.settings.ensures) ∙ at) is

pub returns-clause-enumerators : goal.returns-clause-enumerators
returns-clause-enumerators c = c.in_ok-copied.ensures ∙ c.in_ok-descriptors.ensures.enumerators ∙ ap enumerators_of c.settings.ensures

pub returns-clause-names : goal.returns-clause-names
returns-clause-names c =
    let g = c.args.group.now in
    let new = c.describe_settings.new.enumerators in
    let described =
    described_as g new c.in_ok-descriptors.descriptors.items c.in_ok-presets.presets.items c.settings.result.now
    c.presets.result.now c.settings_size-size.result c.settings.ensures c.presets.ensures c.settings_size-size.ensures.size
    c.in_ok-descriptors.ensures.names c.in_ok-descriptors.ensures.described
    c.in_ok-presets.ensures.names c.in_ok-presets.ensures.described in
    names_are g new c.in_ok-descriptors.descriptors.items c.in_ok-presets.presets.items _ described c.in_ok-append.ensures.items

pub returns-clause-entries : goal.returns-clause-entries
returns-clause-entries c =
    let g = c.args.group.now in
    let new = c.describe_settings.new.enumerators in
    let described =
    described_as g new c.in_ok-descriptors.descriptors.items c.in_ok-presets.presets.items c.settings.result.now
    c.presets.result.now c.settings_size-size.result c.settings.ensures c.presets.ensures c.settings_size-size.ensures.size
    c.in_ok-descriptors.ensures.names c.in_ok-descriptors.ensures.described
    c.in_ok-presets.ensures.names c.in_ok-presets.ensures.described in
    let items = c.append.new.self.items in
    subst (λ (xs : List (List ℕ)). (e : ℕ) (own : Descriptor) → slice_get items e ≡ Some own → DescribesEntry g xs e own)
    (sym c.in_ok-copied.ensures)
    (entries_are g new c.in_ok-descriptors.descriptors.items c.in_ok-presets.presets.items _ described c.in_ok-append.ensures.items)

pub returns-in_err-descriptors-clause-enumerators : goal.returns-in_err-descriptors-clause-enumerators
returns-in_err-descriptors-clause-enumerators c = IfOk-from_err c.from_residual.result _ c.from_residual.ensures.0

pub returns-in_err-descriptors-clause-names : goal.returns-in_err-descriptors-clause-names
returns-in_err-descriptors-clause-names c = IfOk-from_err c.from_residual.result _ c.from_residual.ensures.0

pub returns-in_err-descriptors-clause-entries : goal.returns-in_err-descriptors-clause-entries
returns-in_err-descriptors-clause-entries c = IfOk-from_err c.from_residual.result _ c.from_residual.ensures.0

pub returns-in_err-presets-clause-enumerators : goal.returns-in_err-presets-clause-enumerators
returns-in_err-presets-clause-enumerators c = IfOk-from_err c.from_residual-in_err-presets.result _ c.from_residual-in_err-presets.ensures.0

pub returns-in_err-presets-clause-names : goal.returns-in_err-presets-clause-names
returns-in_err-presets-clause-names c = IfOk-from_err c.from_residual-in_err-presets.result _ c.from_residual-in_err-presets.ensures.0

pub returns-in_err-presets-clause-entries : goal.returns-in_err-presets-clause-entries
returns-in_err-presets-clause-entries c = IfOk-from_err c.from_residual-in_err-presets.result _ c.from_residual-in_err-presets.ensures.0

pub returns-in_err-append-clause-enumerators : goal.returns-in_err-append-clause-enumerators
returns-in_err-append-clause-enumerators c = IfOk-from_err c.from_residual-in_err-append.result _ c.from_residual-in_err-append.ensures.0

pub returns-in_err-append-clause-names : goal.returns-in_err-append-clause-names
returns-in_err-append-clause-names c = IfOk-from_err c.from_residual-in_err-append.result _ c.from_residual-in_err-append.ensures.0

pub returns-in_err-append-clause-entries : goal.returns-in_err-append-clause-entries
returns-in_err-append-clause-entries c = IfOk-from_err c.from_residual-in_err-append.result _ c.from_residual-in_err-append.ensures.0

pub returns-in_err-copied-clause-enumerators : goal.returns-in_err-copied-clause-enumerators
returns-in_err-copied-clause-enumerators c = IfOk-from_err c.from_residual-in_err-copied.result _ c.from_residual-in_err-copied.ensures.0

pub returns-in_err-copied-clause-names : goal.returns-in_err-copied-clause-names
returns-in_err-copied-clause-names c = IfOk-from_err c.from_residual-in_err-copied.result _ c.from_residual-in_err-copied.ensures.0

pub returns-in_err-copied-clause-entries : goal.returns-in_err-copied-clause-entries
returns-in_err-copied-clause-entries c = IfOk-from_err c.from_residual-in_err-copied.result _ c.from_residual-in_err-copied.ensures.0
