use Rattle.std.proofs.Common.{◌++◌, length, sym, ap, ◌∙◌, arith}
use Rattle.meta_table_text.specs.declared.table_list.TableList.TheVariants.{Entries}
use Rattle.meta_table_text.specs.Lists.{list_end}
use Rattle.meta_table_text.specs.OpcodeText.{each_opcode, opcode_block}
use Rattle.meta_table_text.specs.TableText.{entries_part}
use Rattle.meta_table_reader.proofs.Heads.{list_grouped}
use Rattle.meta_table_reader.proofs.entries.entries.Goals as goal

pub returns : goal.returns
unfolding entries_part
returns c = λ t rest shown e.
    let n = length t.entries in
    let lines = each_opcode (opcode_block c.args.version t) n in
    let (count, a) = c.list_count-count.ensures n (lines ++ (list_end ++ rest)) (let few = shown.named.few in omega (arith, few)) (e
    ∙ list_grouped Entries n lines rest) in
    let (entries, b) = c.in_ok-entries.ensures t (list_end ++ rest) shown count (a
    ∙ ap (λ k. each_opcode (opcode_block c.args.version t) k ++ (list_end ++ rest)) (sym count)) in
    (entries, c.pass.ensures.item rest b)
