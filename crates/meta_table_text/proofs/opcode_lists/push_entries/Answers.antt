use Rattle.std.proofs.Common.{◌≡◌, ap, ◌∙◌, arith}
use Rattle.std.proofs.lemmas.Result.{on_ok_weaker}
use Rattle.meta_table_text.specs.declared.table_list.TableList.TheVariants.{Entries}
use Rattle.meta_table_text.specs.OpcodeText.{each_opcode, opcode_block}
use Rattle.meta_table_text.specs.TableText.{entries_part}
use Rattle.meta_table_text.proofs.Lists.{list_is}
use Rattle.meta_table_text.proofs.opcode_lists.push_entries.Goals as goal

pub returns : goal.returns
unfolding entries_part
returns c =
    let t = c.args.tables.now.opcodes in
    let count = c.opcode_count-count.ensures.count in
    let whole : c.loop-before.before ≡ c.opcode_count-count.result = omega (arith, c.loop-before-test.false, c.loop-before.auto.before-end) in
    on_ok_weaker c.push_list.result
    (λ e. list_is _ Entries _ _ _ _ _ e count c.as_str.ensures.value
    (c.loop-before.invariant ∙ ap (each_opcode (opcode_block c.args.version t)) (whole ∙ count)))
    c.push_list.ensures
