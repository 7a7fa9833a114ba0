use Rattle.std.proofs.Common.{codes, string_bytes}
use Rattle.std.proofs.lemmas.Result.{on_ok_weaker}
use Rattle.meta_lists.proofs.Joined.{three, where_ok}
use Rattle.meta_gen.specs.Constraint.{number_constraint_of}
use Rattle.meta_table_text.specs.ConstraintText.{constraint_text, constraint_line}
use Rattle.meta_table_text.proofs.constraint_text.push_constraint.Goals as goal

pub returns : goal.returns
unfolding constraint_line
returns c =
    on_ok_weaker c.push_str-2.result
    (three (string_bytes c.args.out.now) (codes "    OperandConstraint::") (constraint_text (number_constraint_of c.args.constraint))
    (codes ",\n") c.in_ok-push_str.ensures.bytes c.in_ok-push_constraint_text.ensures)
    (where_ok c.push_str-2.result (string_bytes c.push_constraint_text.new.out) (codes ",\n") c.push_str-2.ensures.bytes)
