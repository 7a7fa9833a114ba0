use Rattle.std.proofs.Common.{◌++◌, append-nil, slice_get, sym, ap, ◌∙◌, string_bytes}
use Rattle.std.proofs.lemmas.Result.{on_ok_weaker}
use Rattle.meta_table_text.specs.TypeSetText.{set_or_nothing, set_comment}
use Rattle.meta_table_text.proofs.Comments.{found_there, no_comment, comment}
use Rattle.meta_table_text.proofs.opcode_block.push_control_comment.Goals as goal

pub returns-then-offset-eq-NO_TYPE_SET : goal.returns-then-offset-eq-NO_TYPE_SET
returns-then-offset-eq-NO_TYPE_SET c =
    sym (append-nil (string_bytes c.args.out.now))
    ∙ ap (λ text. string_bytes c.args.out.now ++ text)
    (sym (no_comment c.args.tables.now.opcodes c.args.about.now c.args.offset c.if-offset-eq-NO_TYPE_SET.true))

pub returns : goal.returns
returns c =
    let found = found_there c.type_sets.result.now c.args.offset c.get.result c.get.ensures.lookup.3
    ∙ ap (λ sets. slice_get sets c.args.offset) c.type_sets.ensures in
    on_ok_weaker c.push_set_comment.result
    (λ e. e ∙ ap (λ text. string_bytes c.args.out.now ++ text) (ap (λ o. set_comment c.args.about.now (set_or_nothing o)) found
    ∙ sym (comment c.args.tables.now.opcodes c.args.about.now c.args.offset c.if-offset-eq-NO_TYPE_SET.false)))
    c.push_set_comment.ensures
