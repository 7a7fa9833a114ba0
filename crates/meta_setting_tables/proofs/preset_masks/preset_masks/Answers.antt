use Rattle.std.proofs.Common.{◌++◌, List, ℕ, length, map, slice_get, refl, sym, ap, ◌∙◌, arith}
use Rattle.std.proofs.lemmas.Option.{slice_get_read}
use Rattle.std.proofs.lemmas.Result.{IfOk-from_err}
use Rattle.meta_settings.specs.Layout.{BuiltPreset}
use Rattle.meta_setting_tables.proofs.Masking.{masks_none, masks_more, masks_all}
use Rattle.meta_setting_tables.proofs.preset_masks.preset_masks.Goals as goal

pub loop-preset-preserved : goal.loop-preset-preserved
loop-preset-preserved c =
    let items = c.presets-preset-items.result.now in
    let k = c.loop-preset.preset-index in
    let at = ap (λ (w : List BuiltPreset). slice_get w k) (sym c.presets-preset-items.ensures)
    ∙ slice_get_read items (length items) k c.preset-item.result refl c.loop-preset-test.true c.preset-item.is in
    masks_more c.args.group.now k c.preset-item.result c.in_ok-layout.layout.items c.loop-preset.masks.items
    c.add_masks.new.masks.items at c.in_ok-layout.ensures c.loop-preset.invariant
    (c.in_ok-add_masks.ensures
    ∙ ap (λ (w : List (ℕ × ℕ)). c.loop-preset.masks.items ++ map (λ (pair : ℕ × ℕ). pair.0) w) c.as_slice.ensures.value)

pub returns : goal.returns
returns c =
    let e = ap length c.presets-preset-items.ensures in
    let past = c.loop-preset-test.false in
    let within = c.loop-preset.auto.preset-index-end in
    masks_all c.args.group.now c.loop-preset.preset-index c.loop-preset.masks.items (omega (arith, e, past))
    (omega (arith, e, within)) c.loop-preset.invariant

pub loop-preset-init : goal.loop-preset-init
loop-preset-init c = masks_none c.args.group.now c.new-masks.result.items c.new-masks.ensures.items

pub returns-in_err-layout : goal.returns-in_err-layout
returns-in_err-layout c = IfOk-from_err c.from_residual.result _ c.from_residual.ensures.0

pub returns-in_err-add_masks : goal.returns-in_err-add_masks
returns-in_err-add_masks c = IfOk-from_err c.from_residual-in_err-add_masks.result _ c.from_residual-in_err-add_masks.ensures.0

pub layout-requires : goal.layout-requires
layout-requires c =
    let items = c.presets-preset-items.result.now in
    let k = c.loop-preset.preset-index in
    c.requires k c.preset-item.result (ap (λ (w : List BuiltPreset). slice_get w k)
    (sym c.presets-preset-items.ensures)
    ∙ slice_get_read items (length items) k c.preset-item.result refl c.loop-preset-test.true c.preset-item.is)
