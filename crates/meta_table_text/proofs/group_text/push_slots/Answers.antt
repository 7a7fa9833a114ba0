use Rattle.std.proofs.Common.{flat_map, refl, ap, arith}
use Rattle.std.proofs.lemmas.Result.{on_ok_weaker}
use Rattle.meta_table_text.specs.declared.table_list.TableList.TheVariants.{SettingSlots}
use Rattle.meta_table_text.specs.GroupItems.{slot_text}
use Rattle.meta_table_text.specs.GroupText.{slots_text}
use Rattle.meta_table_text.proofs.GroupLists.{none_left}
use Rattle.meta_table_text.proofs.Lists.{all_is, list_is}
use Rattle.meta_table_text.proofs.group_text.push_slots.Goals as goal

pub returns : goal.returns
unfolding slots_text
returns c =
    let none = none_left c.args.slots.now c.loop-slot.slot-index (omega (arith, c.loop-slot-test.false, c.loop-slot.auto.slot-index-end)) in
    on_ok_weaker c.push_list.result
    (λ e. list_is _ SettingSlots _ _ _ _ _ e refl c.as_str.ensures.value
    (all_is _ _ _ c.loop-slot.invariant (ap (flat_map slot_text) none)))
    c.push_list.ensures
