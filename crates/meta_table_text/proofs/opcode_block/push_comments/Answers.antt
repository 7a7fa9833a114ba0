use Rattle.std.proofs.Common.{◌++◌, append-nil, refl, sym, ap, ◌∙◌, codes, string_bytes}
use Rattle.std.proofs.lemmas.Result.{on_ok_weaker}
use Rattle.meta_lists.proofs.Joined.{four}
use Rattle.meta_gen.specs.Constraint.{entry_of}
use Rattle.meta_table_text.specs.ConstraintText.{constraints_comment}
use Rattle.meta_table_text.specs.OpcodeText.{camel_at, flags_comment, constraints_of, control_comment, second_comment, entry_comments}
use Rattle.meta_table_text.proofs.Comments.{second_hidden, second_shown}
use Rattle.meta_table_text.proofs.opcode_block.push_comments.Goals as goal

pub returns-in-One : goal.returns-in-One
unfolding entry_comments
returns-in-One c =
    let t = c.args.tables.now.opcodes in
    let e = entry_of c.args.entry in
    let old = string_bytes c.args.out.now in
    let flags = c.in_ok-push_flags_comment.ensures ∙ ap (λ name. old ++ flags_comment name e.flags) (c.as_str.ensures
    ∙ c.in_ok-name.ensures) in
    let listed = c.in_ok-push_constraints_comment.ensures
    ∙ ap (λ cs. string_bytes c.push_flags_comment.new.out ++ constraints_comment cs) c.constraints_of.ensures in
    let now = string_bytes c.push_control_comment.new.out in
    four old (flags_comment (camel_at t c.args.opcode) e.flags) (constraints_comment (constraints_of t e))
    (control_comment t (codes "Polymorphic over ") e.typeset_offset) (second_comment c.args.version t e)
    flags listed c.in_ok-push_control_comment.ensures
    (sym (append-nil now) ∙ ap (λ text. now ++ text) (sym (second_hidden c.args.version t e c.in-One.is)))

pub returns : goal.returns
unfolding entry_comments second_comment
returns c =
    let t = c.args.tables.now.opcodes in
    let e = entry_of c.args.entry in
    let old = string_bytes c.args.out.now in
    let flags = c.in_ok-push_flags_comment.ensures ∙ ap (λ name. old ++ flags_comment name e.flags) (c.as_str.ensures
    ∙ c.in_ok-name.ensures) in
    let listed = c.in_ok-push_constraints_comment.ensures
    ∙ ap (λ cs. string_bytes c.push_flags_comment.new.out ++ constraints_comment cs) c.constraints_of.ensures in
    let shown = second_shown c.args.version t e (control_comment t (codes "Second control over ") e.second_offset) refl refl c.in-Two.is in
    on_ok_weaker c.push_control_comment-in-Two.result
    (λ second. four old (flags_comment (camel_at t c.args.opcode) e.flags) (constraints_comment (constraints_of t e))
    (control_comment t (codes "Polymorphic over ") e.typeset_offset) (second_comment c.args.version t e)
    flags listed c.in_ok-push_control_comment.ensures
    (second ∙ ap (λ text. string_bytes c.push_control_comment.new.out ++ text) (sym shown)))
    c.push_control_comment-in-Two.ensures
