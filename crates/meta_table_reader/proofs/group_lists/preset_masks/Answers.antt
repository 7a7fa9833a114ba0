use Rattle.std.proofs.Common.{◌≡◌, ℕ, ◌*◌, ◌<◌, List, ◌++◌, length, sym, ap, ◌∙◌, subst}
use Rattle.std.specs.List.{flat_map}
use Rattle.std.proofs.lemmas.List.Sums.{length-filter}
use Rattle.std.proofs.lemmas.List.Elements.{All-filter}
use Rattle.meta_setting_tables.specs.declared.descriptor.Descriptor.{Descriptor}
use Rattle.meta_setting_tables.specs.WellFormed.{is_preset}
use Rattle.meta_table_text.specs.declared.table_list.TableList.TheVariants.{Presets}
use Rattle.meta_table_text.specs.Lists.{list_end}
use Rattle.meta_table_text.specs.GroupText.{presets_in, preset_text, presets_text}
use Rattle.meta_table_reader.specs.ShownGroup.{IsShownDescriptor}
use Rattle.meta_table_reader.proofs.Heads.{list_grouped}
use Rattle.meta_table_reader.proofs.Presets.{size_cases, sized}
use Rattle.meta_table_reader.proofs.group_lists.preset_masks.Goals as goal

pub returns : goal.returns
unfolding presets_text
returns c = λ size masks rest shown presets e.
    let ds = c.args.entries.now in
    let ps = presets_in ds in
    let n = length ps * size in
    let lines = flat_map (preset_text ds size masks) ps in
    let end : List ℕ = list_end ++ rest in
    let (pairs, a) = c.list_count-pairs.ensures n (lines ++ end) presets.few (e ∙ list_grouped Presets n lines rest) in
    let count : c.preset_count-presets.result ≡ length ps = c.preset_count-presets.ensures
    ∙ sym (length-filter (λ (d : Descriptor). is_preset d.detail) ds) in
    let found = c.size_of-size.result in
    let is : 0 < length ps → found ≡ size = λ some. c.size_of-size.ensures size (subst (λ k. 0 < k) (sym count) some)
    (pairs ∙ ap (λ k. k * size) (sym count)) in
    let (each, same, joined) = sized ds ps size found masks (size_cases ps size found is) presets.each presets.joined in
    let (read, left) = c.in_ok-masks.ensures ds ps masks end shown
    (All-filter (λ (d : Descriptor). is_preset d.detail) IsShownDescriptor ds shown) each count (a ∙ ap (λ w. w ++ end) same) in
    (read ∙ joined, c.pass.ensures.item rest left)
