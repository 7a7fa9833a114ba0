use Rattle.std.proofs.Common.{ℕ, List, ◌++◌, length, map, sym, ap, ◌∙◌}
use Rattle.std.specs.List.{flat_map}
use Rattle.std.proofs.lemmas.List.{length-map}
use Rattle.std.proofs.lemmas.List.Folds.{flat_map-map}
use Rattle.meta_table_text.specs.declared.table_list.TableList.TheVariants.{OpcodeSlots}
use Rattle.meta_table_text.specs.Lists.{list_end}
use Rattle.meta_table_text.specs.OpcodeText.{slot_line}
use Rattle.meta_table_text.specs.TableText.{slots_part}
use Rattle.meta_table_reader.proofs.Heads.{list_grouped}
use Rattle.meta_table_reader.proofs.OpcodeTextParts.{slots_are_lines}
use Rattle.meta_table_reader.proofs.opcode_parts.skip_slots.Goals as goal

pub returns : goal.returns
unfolding slots_part
returns c = λ t rest named few e.
    let slots = t.opcode_slots in
    let lines = flat_map (slot_line t) slots in
    let end : List ℕ = list_end ++ rest in
    let (count, a) = c.list_count-count.ensures (length slots) (lines ++ end) few
    (e ∙ list_grouped OpcodeSlots (length slots) lines rest) in
    let left = c.skip_lines.ensures.item (map (slot_line t) slots) end (slots_are_lines t named slots)
    (count ∙ sym (length-map slots (slot_line t))) (a ∙ ap (λ w. w ++ end) (sym (flat_map-map (λ line. line) (slot_line t) slots))) in
    c.pass.ensures.item rest left
