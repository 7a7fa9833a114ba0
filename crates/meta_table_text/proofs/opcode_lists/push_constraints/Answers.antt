use Rattle.std.proofs.Common.{length, map, flat_map, sym, ap, ◌∙◌, arith}
use Rattle.std.proofs.lemmas.List.{length-map}
use Rattle.std.proofs.lemmas.Result.{on_ok_weaker}
use Rattle.meta_gen.specs.Constraint.{number_constraint_of}
use Rattle.meta_table_text.specs.declared.table_list.TableList.TheVariants.{Constraints}
use Rattle.meta_table_text.specs.ConstraintText.{constraint_line}
use Rattle.meta_table_text.specs.TableText.{constraints_part}
use Rattle.meta_table_text.proofs.GroupLists.{none_left}
use Rattle.meta_table_text.proofs.Lists.{all_is, list_is}
use Rattle.meta_table_text.proofs.opcode_lists.push_constraints.Goals as goal

pub returns : goal.returns
unfolding constraints_part
returns c =
    let held = c.operand_constraints-constraints.result.now in
    let are = c.operand_constraints-constraints.ensures in
    let none = none_left held c.loop-constraint.constraint-index
    (omega (arith, c.loop-constraint-test.false, c.loop-constraint.auto.constraint-index-end)) in
    on_ok_weaker c.push_list.result
    (λ e. list_is _ Constraints _ _ _ _ _ e (sym (length-map held number_constraint_of) ∙ ap length are) c.as_str.ensures.value
    (all_is _ _ _ c.loop-constraint.invariant (ap (λ cs. flat_map constraint_line (map number_constraint_of cs)) none)
    ∙ ap (flat_map constraint_line) are))
    c.push_list.ensures
