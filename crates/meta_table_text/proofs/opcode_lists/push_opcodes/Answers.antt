use Rattle.std.proofs.Common.{[], ◌∷◌, ◌++◌, ap, ◌∙◌, codes, string_bytes}
use Rattle.std.specs.Fmt.{decimal}
use Rattle.std.proofs.lemmas.Result.{on_ok_weaker}
use Rattle.meta_text.specs.Lines.{at, text_of}
use Rattle.meta_table_text.specs.TableText.{version_line, formats_part, slots_part, sets_part, constraints_part, entries_part, opcodes_text}
use Rattle.meta_table_text.proofs.Lists.{six}
use Rattle.meta_table_text.proofs.opcode_lists.push_opcodes.Goals as goal

pub returns : goal.returns
unfolding opcodes_text version_line
returns c =
    let v = c.args.version in
    let t = c.args.tables.now.opcodes in
    let old = string_bytes c.args.out.now in
    on_ok_weaker c.push_entries.result
    (six old (version_line v) (formats_part t) (slots_part t) (sets_part t) (constraints_part t) (entries_part v t)
    (c.in_ok-write.ensures.bytes ∙ ap (λ n. old ++ text_of (at 0 (codes "// Table text version " ∷ decimal n ∷ codes "." ∷ []) ∷ []))
    c.number-number.ensures) c.in_ok-push_formats.ensures c.in_ok-push_slots.ensures c.in_ok-push_sets.ensures
    c.in_ok-push_constraints.ensures)
    c.push_entries.ensures
