use Rattle.std.proofs.Common.{ℕ, List, ◌++◌, length, map, sym, ap, ◌∙◌}
use Rattle.std.specs.List.{flat_map}
use Rattle.std.proofs.lemmas.List.{length-map}
use Rattle.std.proofs.lemmas.List.Folds.{flat_map-map}
use Rattle.meta_table_text.specs.declared.table_list.TableList.TheVariants.{SettingSlots}
use Rattle.meta_table_text.specs.Lists.{list_end}
use Rattle.meta_table_text.specs.GroupItems.{slot_text}
use Rattle.meta_table_text.specs.GroupText.{slots_text}
use Rattle.meta_table_reader.proofs.Heads.{list_grouped}
use Rattle.meta_table_reader.proofs.GroupLines.{slots_are_lines}
use Rattle.meta_table_reader.proofs.group_lists.skip_slots.Goals as goal

pub returns : goal.returns
unfolding slots_text
returns c = λ slots rest few e.
    let lines = flat_map slot_text slots in
    let end : List ℕ = list_end ++ rest in
    let (count, a) = c.list_count-count.ensures (length slots) (lines ++ end) few
    (e ∙ list_grouped SettingSlots (length slots) lines rest) in
    let left = c.skip_lines.ensures.item (map slot_text slots) end (slots_are_lines slots)
    (count ∙ sym (length-map slots slot_text)) (a ∙ ap (λ w. w ++ end) (sym (flat_map-map (λ line. line) slot_text slots))) in
    c.pass.ensures.item rest left
