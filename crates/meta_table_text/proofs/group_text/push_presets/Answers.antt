use Rattle.std.proofs.Common.{◌≡◌, ◌+◌, ◌++◌, append_assoc, length, drop, flat_map, slice_get, Some, refl, sym, ap, ◌∙◌, string_bytes}
use Rattle.std.proofs.Common.{arith}
use Rattle.std.proofs.lemmas.Option.{slice_get_read}
use Rattle.std.proofs.lemmas.Result.{on_ok_weaker}
use Rattle.meta_lists.proofs.Places.{drop_next}
use Rattle.meta_setting_tables.specs.declared.descriptor.Descriptor.{Descriptor}
use Rattle.meta_table_text.specs.declared.table_list.TableList.TheVariants.{Presets}
use Rattle.meta_table_text.specs.GroupText.{presets_in, preset_text, presets_text}
use Rattle.meta_table_text.proofs.GroupLists.{none_left, entry_written}
use Rattle.meta_table_text.proofs.Lists.{all_is, list_is}
use Rattle.meta_table_text.proofs.group_text.push_presets.Goals as goal

pub loop-k-preserved : goal.loop-k-preserved
loop-k-preserved c =
    let g = c.args.group.now in
    let k = c.loop-k.k in
    let entries = c.descriptors-entries.result.now in
    let d = c.index-entries-k.result in
    let there : slice_get g.descriptors k ≡ Some d = ap (λ w. slice_get w k) (sym c.descriptors-entries.ensures.entries)
    ∙ slice_get_read entries (length entries) k d refl c.loop-k-test.true c.index-entries-k.is in
    let text = preset_text g.descriptors (length g.defaults) g.preset_masks in
    let left = flat_map text (presets_in (drop (k + 1) g.descriptors)) in
    let next = ap (λ es. flat_map text (presets_in es)) (drop_next g.descriptors k d there)
    ∙ entry_written text d (drop (k + 1) g.descriptors) in
    ap (λ t. t ++ left) (c.in_ok-push_preset.ensures d there (c.as_str-name.ensures
    ∙ ap (λ (x : Descriptor). x.name) (sym c.index-entries-k.is))) ∙ append_assoc (string_bytes c.loop-k.lines) _ left
    ∙ ap (λ t. string_bytes c.loop-k.lines ++ t) (sym next) ∙ c.loop-k.invariant

pub returns : goal.returns
unfolding presets_text
returns c =
    let g = c.args.group.now in
    let text = preset_text g.descriptors (length g.defaults) g.preset_masks in
    let count = ap length c.descriptors-entries.ensures.entries in
    let past = c.loop-k-test.false in
    let none = none_left g.descriptors c.loop-k.k (omega (arith, count, past)) in
    on_ok_weaker c.push_list.result
    (λ e. list_is _ Presets _ _ _ _ _ e c.preset_masks.ensures.count c.as_str.ensures.value
    (all_is _ _ _ c.loop-k.invariant (ap (λ es. flat_map text (presets_in es)) none)))
    c.push_list.ensures
