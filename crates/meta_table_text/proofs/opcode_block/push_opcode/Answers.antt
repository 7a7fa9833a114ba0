use Rattle.std.proofs.Common.{◌++◌, sym, ap, ◌∙◌, string_bytes}
use Rattle.std.proofs.lemmas.Result.{on_ok_weaker}
use Rattle.meta_lists.proofs.Joined.{three, where_ok}
use Rattle.meta_gen.specs.Constraint.{entry_of}
use Rattle.meta_table_text.specs.TypeSetText.{block_end}
use Rattle.meta_table_text.specs.OpcodeText.{entry_fields, entry_comments, entry_block, block_or_nothing, opcode_block}
use Rattle.meta_table_text.proofs.opcode_block.push_opcode.Goals as goal

pub returns : goal.returns
unfolding opcode_block entry_block block_end
returns c = λ is.
    let v = c.args.version in
    let t = c.args.tables.now.opcodes in
    let e = entry_of c.in-Some.entry in
    let old = string_bytes c.args.out.now in
    on_ok_weaker c.push_str.result
    (λ end. three old (entry_fields v e) (entry_comments v t c.args.opcode e) block_end c.in_ok-push_fields.ensures
    c.in_ok-push_comments.ensures end ∙ ap (λ o. old ++ block_or_nothing v t c.args.opcode o) (sym c.in-Some.ensures.entry))
    (where_ok c.push_str.result (string_bytes c.push_comments.new.out) block_end c.push_str.ensures.bytes)
