use Rattle.std.proofs.Common.{flat_map, refl, ap, arith}
use Rattle.std.proofs.lemmas.Result.{on_ok_weaker}
use Rattle.meta_table_text.specs.declared.table_list.TableList.TheVariants.{Enumerators}
use Rattle.meta_table_text.specs.GroupItems.{enumerator_text}
use Rattle.meta_table_text.specs.GroupText.{enumerators_text}
use Rattle.meta_table_text.proofs.GroupLists.{none_left}
use Rattle.meta_table_text.proofs.Lists.{all_is, list_is}
use Rattle.meta_table_text.proofs.group_text.push_enumerators.Goals as goal

pub returns : goal.returns
unfolding enumerators_text
returns c =
    let none = none_left c.args.names.now c.loop-name.name-index (omega (arith, c.loop-name-test.false, c.loop-name.auto.name-index-end)) in
    on_ok_weaker c.push_list.result
    (λ e. list_is _ Enumerators _ _ _ _ _ e refl c.as_str.ensures.value
    (all_is _ _ _ c.loop-name.invariant (ap (flat_map enumerator_text) none)))
    c.push_list.ensures
