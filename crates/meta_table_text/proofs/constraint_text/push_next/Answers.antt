use Rattle.std.proofs.Common.{◌++◌, append_assoc, map, ap, ◌∙◌, codes, string_bytes}
use Rattle.meta_lists.proofs.Joined.{four}
use Rattle.meta_gen.specs.Constraint.{number_constraint_of}
use Rattle.meta_table_text.specs.TypeSetText.{parted_after}
use Rattle.meta_table_text.specs.ConstraintText.{constraint_text, quoted}
use Rattle.meta_table_text.proofs.constraint_text.push_next.Goals as goal

pub returns : goal.returns
unfolding quoted
returns c = λ rest.
    let old = string_bytes c.args.out.now in
    let before = c.args.before.now in
    let k = number_constraint_of c.args.constraint in
    let left = parted_after (codes ", ") (map quoted (map number_constraint_of rest)) in
    let added = four old before (codes "'") (constraint_text k) (codes "'") c.in_ok-push_str.ensures.bytes
    c.in_ok-push_str-2.ensures.bytes c.in_ok-push_constraint_text.ensures c.in_ok-push_str-3.ensures.bytes in
    ap (λ t. t ++ left) added ∙ append_assoc old (before ++ quoted k) left ∙ ap (λ t. old ++ t) (append_assoc before (quoted k) left)
