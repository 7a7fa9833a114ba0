use Rattle.std.proofs.Common.{◌≡◌, ℕ, suc, ◌+◌, ◌-◌, ◌<◌, ◌≤◌, [], ◌∷◌, ◌++◌, length, codes, refl, sym, ap, ◌∙◌, arith}
use Rattle.std.proofs.lemmas.List.{take_all}
use Rattle.meta_types.specs.Name.{IsName}
use Rattle.meta_inst.specs.Tables.{TableContents}
use Rattle.meta_table_text.specs.OpcodeText.{format_line}
use Rattle.meta_table_reader.proofs.ItemsRead.{one_within}
use Rattle.meta_table_reader.proofs.ByOpcode.{opcodes_after, from_first, next_first, no_more, few_opcodes}
use Rattle.meta_table_reader.proofs.FormatLines.{format_opened}
use Rattle.meta_table_reader.proofs.NameBytes.{name_ascii, name_lacks_comma, name_lacks_end}
use Rattle.meta_table_reader.proofs.opcode_parts.format_lines.Goals as goal

line_some : (t : TableContents) (op : ℕ) → 1 ≤ length (format_line t op)
unfolding format_line
line_some t op = omega arith

pub loop-init : goal.loop-init
loop-init c = λ t rest named formatted names formats e.
    let all : c.args.count - 0 ≡ c.args.count = omega arith in (
      c.new-names.ensures.items,
      c.new-formats.ensures.items,
      e ∙ ap (λ w. w ++ rest) (from_first (format_line t) c.args.count ∙ ap (opcodes_after (format_line t) 0) (sym all)),
    )

pub loop-preserved : goal.loop-preserved
loop-preserved c = λ t rest named formatted names formats e.
    let i = c.loop.counter in
    let so_far = c.loop.invariant t rest named formatted names formats e in
    let within : i < c.args.count = omega (arith, c.loop-test.true, c.min-end.ensures) in
    let (name, at_name, is_name) = one_within IsName t.names i named (omega (arith, within, names)) in
    let (format, at_format, is_format) = one_within IsName t.formats i formatted (omega (arith, within, formats)) in
    let left = opcodes_after (format_line t) (i + 1) (c.args.count - (i + 1)) ++ rest in
    let front = next_first (format_line t) rest i c.args.count c.loop.cursor within so_far.2
    ∙ format_opened t i format name left at_format.there at_name.there in
    let (read_format, a) = c.in_ok-text.ensures.item format (codes ", // " ++ (name ++ (codes "\n" ++ left)))
    (name_ascii format is_format) (name_lacks_comma format is_format) refl front in
    let (read_name, b) = c.in_ok-text-2.ensures.item name (codes "\n" ++ left) (name_ascii name is_name)
    (name_lacks_end name is_name) refl a in (
      c.in_ok-push-2.ensures.items ∙ (λ k. so_far.0 k ++ read_name k ∷ []) ∙ sym at_name.taken,
      c.in_ok-push.ensures.items ∙ (λ k. so_far.1 k ++ read_format k ∷ []) ∙ sym at_format.taken,
      c.pass.ensures.item left b,
    )

pub returns : goal.returns
returns c = λ t rest named formatted names formats e.
    let i = c.loop.counter in
    let few = few_opcodes (format_line t) rest 0 c.args.count (λ i within. line_some t (suc i)) in
    let past : c.args.count ≤ i =
    omega (
      arith,
      few,
      ap length (e ∙ ap (λ w. w ++ rest) (from_first (format_line t) c.args.count)),
      c.loop-test.false,
      c.min-end.ensures,
      c.len.ensures,
    ) in
    let so_far = c.loop.invariant t rest named formatted names formats e in (
      so_far.0 ∙ take_all i t.names (omega (arith, past, names)),
      so_far.1 ∙ take_all i t.formats (omega (arith, past, formats)),
      no_more (format_line t) rest i c.args.count c.loop.cursor past so_far.2,
    )
