use Rattle.std.proofs.Common.{◌++◌, length, sym, ap, ◌∙◌, arith}
use Rattle.meta_table_text.specs.declared.table_list.TableList.TheVariants.{Formats}
use Rattle.meta_table_text.specs.Lists.{list_end}
use Rattle.meta_table_text.specs.OpcodeText.{each_opcode, format_line}
use Rattle.meta_table_text.specs.TableText.{formats_part}
use Rattle.meta_table_reader.proofs.Heads.{list_grouped}
use Rattle.meta_table_reader.proofs.opcode_parts.opcode_names.Goals as goal

pub returns : goal.returns
unfolding formats_part
returns c = λ t rest named e.
    let n = length t.entries in
    let lines = each_opcode (format_line t) n in
    let (count, a) = c.list_count-count.ensures n (lines ++ (list_end ++ rest)) (omega (arith, named.few)) (e
    ∙ list_grouped Formats n lines rest) in
    let (names, formats, b) = c.in_ok-names.ensures t (list_end ++ rest) named.names named.formats (count ∙ sym named.named) (count
    ∙ sym named.formatted) (a ∙ ap (λ k. each_opcode (format_line t) k ++ (list_end ++ rest)) (sym count)) in
    (names, formats, c.pass.ensures.item rest b)
