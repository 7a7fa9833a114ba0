use Rattle.std.proofs.Common.{◌≡◌, ℕ, ◌+◌, refl, ap, ◌∙◌}
use Rattle.meta_table_text.specs.declared.version.Version.{Version}
use Rattle.meta_table_text.specs.declared.version.Version.TheVariants.{One, Two, Three}
use Rattle.meta_table_reader.specs.Shown.{IsShownSecond}
use Rattle.meta_table_reader.specs.EntryLines.{control_lines, second_lines}
use Rattle.meta_table_reader.proofs.EntryComments.{block_lines, lines_count, lines_are}
use Rattle.meta_table_reader.proofs.EntryBlocks.{at_lines, at_place, at_second, at_set, entry_opened}
use Rattle.meta_table_reader.proofs.entries.entry.Goals as goal

-- version 1 shows no second control, so it has no comment on one
second_is : (v : Version) (offset : ℕ) → IsShownSecond v offset → control_lines offset ≡ second_lines v offset
second_is One offset none = ap control_lines none
second_is Two offset shown = refl
second_is Three offset shown = refl

pub returns : goal.returns
returns c = λ t op e rest named constraints shown is.
    let v = c.args.version in
    let (flags, a) = c.hex-flags.ensures.item e.flags (at_set v t op e rest) shown.flags (is ∙ entry_opened v t op e rest) in
    let (type_set, b) = c.type_set_place-typeset_offset.ensures e.typeset_offset (at_second v t op e rest) shown.type_set a in
    let (second, d) = c.second_place-second_offset.ensures e (at_place v t op e rest) shown.second_set b in
    let (place, f) = c.place-constraint_offset.ensures e.constraint_offset (at_lines v t op e rest) shown.constraints d in
    let counted = (λ i. 4 + (c.control_lines-control.ensures.value ∙ ap control_lines type_set) i
    + (c.control_lines-second.ensures.value ∙ ap control_lines second ∙ second_is v e.second_offset shown.second_set) i) ∙ lines_count v t op e in (
      λ i. record { flags = flags i; typeset_offset = type_set i; second_offset = second i; constraint_offset = place i },
      c.skip_lines.ensures.item (block_lines v t op e) rest (lines_are v t op e named constraints) counted f,
    )
