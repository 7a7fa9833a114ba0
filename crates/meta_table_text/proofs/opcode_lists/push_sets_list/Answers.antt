use Rattle.std.proofs.Common.{length, flat_map, ap, ◌∙◌, arith}
use Rattle.std.proofs.lemmas.Result.{on_ok_weaker}
use Rattle.meta_table_text.specs.declared.table_list.TableList.TheVariants.{TypeSets}
use Rattle.meta_table_text.specs.TypeSetText.{set_block}
use Rattle.meta_table_text.specs.TableText.{sets_list}
use Rattle.meta_table_text.proofs.GroupLists.{none_left}
use Rattle.meta_table_text.proofs.Lists.{all_is, list_is}
use Rattle.meta_table_text.proofs.opcode_lists.push_sets_list.Goals as goal

pub returns : goal.returns
unfolding sets_list
returns c =
    let held = c.type_sets-sets.ensures in
    let none = none_left c.type_sets-sets.result.now c.loop-set.set-index
    (omega (arith, c.loop-set-test.false, c.loop-set.auto.set-index-end)) in
    on_ok_weaker c.push_list.result
    (λ e. list_is _ TypeSets _ _ _ _ _ e (ap length held) c.as_str.ensures.value
    (all_is _ _ _ c.loop-set.invariant (ap (flat_map set_block) none) ∙ ap (flat_map set_block) held))
    c.push_list.ensures
