use Rattle.std.proofs.Common.{length, flat_map, ap, ◌∙◌, arith}
use Rattle.std.proofs.lemmas.Result.{on_ok_weaker}
use Rattle.meta_table_text.specs.declared.table_list.TableList.TheVariants.{OpcodeSlots}
use Rattle.meta_table_text.specs.OpcodeText.{slot_line}
use Rattle.meta_table_text.specs.TableText.{slots_part}
use Rattle.meta_table_text.proofs.GroupLists.{none_left}
use Rattle.meta_table_text.proofs.Lists.{all_is, list_is}
use Rattle.meta_table_text.proofs.opcode_lists.push_slots.Goals as goal

pub returns : goal.returns
unfolding slots_part
returns c =
    let t = c.args.tables.now.opcodes in
    let held = c.opcode_slots-slots.ensures.slots in
    let none = none_left c.opcode_slots-slots.result.now c.loop-slot.slot-index
    (omega (arith, c.loop-slot-test.false, c.loop-slot.auto.slot-index-end)) in
    on_ok_weaker c.push_list.result
    (λ e. list_is _ OpcodeSlots _ _ _ _ _ e (ap length held) c.as_str.ensures.value
    (all_is _ _ _ c.loop-slot.invariant (ap (flat_map (slot_line t)) none) ∙ ap (flat_map (slot_line t)) held))
    c.push_list.ensures
