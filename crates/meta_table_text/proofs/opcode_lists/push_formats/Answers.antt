use Rattle.std.proofs.Common.{◌≡◌, [], ◌∷◌, ◌++◌, ap, ap₂, ◌∙◌, arith, codes, string_bytes}
use Rattle.std.proofs.lemmas.Result.{on_ok_weaker}
use Rattle.meta_text.specs.Lines.{at, text_of}
use Rattle.meta_table_text.specs.declared.table_list.TableList.TheVariants.{Formats}
use Rattle.meta_table_text.specs.OpcodeText.{each_opcode, format_line}
use Rattle.meta_table_text.specs.TableText.{formats_part}
use Rattle.meta_table_text.proofs.Lists.{list_is, opcode_more}
use Rattle.meta_table_text.proofs.opcode_lists.push_formats.Goals as goal

pub loop-before-preserved : goal.loop-before-preserved
unfolding format_line
loop-before-preserved c =
    let t = c.args.tables.now.opcodes in
    opcode_more (format_line t) c.loop-before.before (string_bytes c.loop-before.lines) c.loop-before.invariant
    (c.in_ok-write.ensures.bytes ∙ ap₂ (λ format name. string_bytes c.loop-before.lines
    ++ text_of (at 1 (codes "InstructionFormat::" ∷ format ∷ codes ", // " ∷ name ∷ []) ∷ [])) c.format_of-format.ensures
    c.name_of-name.ensures)

pub returns : goal.returns
unfolding formats_part
returns c =
    let t = c.args.tables.now.opcodes in
    let count = c.opcode_count-count.ensures.count in
    let whole : c.loop-before.before ≡ c.opcode_count-count.result = omega (arith, c.loop-before-test.false, c.loop-before.auto.before-end) in
    on_ok_weaker c.push_list.result
    (λ e. list_is _ Formats _ _ _ _ _ e count c.as_str.ensures.value
    (c.loop-before.invariant ∙ ap (each_opcode (format_line t)) (whole ∙ count)))
    c.push_list.ensures
