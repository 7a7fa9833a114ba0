use Rattle.std.proofs.Common.{flat_map, refl, ap, arith}
use Rattle.std.proofs.lemmas.Result.{on_ok_weaker}
use Rattle.meta_table_text.specs.declared.table_list.TableList.TheVariants.{Descriptors}
use Rattle.meta_table_text.specs.GroupItems.{descriptor_text}
use Rattle.meta_table_text.specs.GroupText.{descriptors_text}
use Rattle.meta_table_text.proofs.GroupLists.{none_left}
use Rattle.meta_table_text.proofs.Lists.{all_is, list_is}
use Rattle.meta_table_text.proofs.group_text.push_descriptors.Goals as goal

pub returns : goal.returns
unfolding descriptors_text
returns c =
    let none = none_left c.args.entries.now c.loop-entry.entry-index (omega (arith, c.loop-entry-test.false, c.loop-entry.auto.entry-index-end)) in
    on_ok_weaker c.push_list.result
    (λ e. list_is _ Descriptors _ _ _ _ _ e refl c.as_str.ensures.value
    (all_is _ _ _ c.loop-entry.invariant (ap (flat_map descriptor_text) none)))
    c.push_list.ensures
