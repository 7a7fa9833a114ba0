use Rattle.std.proofs.Common.{map, ap, arith, codes, string_bytes}
use Rattle.std.proofs.lemmas.Result.{on_ok_weaker}
use Rattle.meta_lists.proofs.Joined.{three, where_ok}
use Rattle.meta_gen.specs.Constraint.{number_constraint_of}
use Rattle.meta_table_text.specs.TypeSetText.{parted_after}
use Rattle.meta_table_text.specs.ConstraintText.{quoted, quoted_all, constraints_comment}
use Rattle.meta_table_text.proofs.GroupLists.{none_left}
use Rattle.meta_table_text.proofs.Lists.{all_is}
use Rattle.meta_table_text.proofs.constraint_text.push_constraints_comment.Goals as goal

pub returns : goal.returns
unfolding constraints_comment quoted_all
returns c =
    let l = c.loop-constraint in
    let none = none_left c.args.constraints.now l.constraint-index (omega (arith, c.loop-constraint-test.false, l.auto.constraint-index-end)) in
    let all = all_is _ _ _ l.invariant.1 (ap (λ cs. parted_after l.before.now (map quoted (map number_constraint_of cs))) none) in
    on_ok_weaker c.push_str-2.result
    (three (string_bytes c.args.out.now) (codes "        // Constraints=[")
    (quoted_all (map number_constraint_of c.args.constraints.now))
    (codes "]\n") c.in_ok-push_str.ensures.bytes all)
    (where_ok c.push_str-2.result (string_bytes l.out) (codes "]\n") c.push_str-2.ensures.bytes)
