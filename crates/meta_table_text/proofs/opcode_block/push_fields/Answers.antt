use Rattle.std.proofs.Common.{◌++◌, ap, ◌∙◌, codes, string_bytes}
use Rattle.std.proofs.lemmas.Result.{on_ok_weaker}
use Rattle.meta_lists.proofs.Joined.{three, four}
use Rattle.meta_gen.specs.Constraint.{entry_of}
use Rattle.meta_table_text.specs.GroupItems.{hex_text}
use Rattle.meta_table_text.specs.Version.{offset_shown}
use Rattle.meta_table_text.specs.OpcodeText.{hex_byte, flags_lines, place_line, second_line, entry_fields}
use Rattle.meta_table_text.proofs.opcode_block.push_fields.Goals as goal

pub returns : goal.returns
unfolding entry_fields flags_lines hex_byte
returns c =
    let v = c.args.version in
    let e = entry_of c.args.entry in
    let old = string_bytes c.args.out.now in
    let flags = three old (codes "    OpcodeConstraints {\n        flags: ") (hex_text e.flags) (codes ",\n")
    c.in_ok-push_str.ensures.bytes c.in_ok-push_hex.ensures c.in_ok-push_str-2.ensures.bytes in
    let set = c.in_ok-push_place.ensures ∙ ap (λ n. string_bytes c.push_str-2.new.self ++ place_line (codes "typeset_offset") n) c.shown.ensures in
    on_ok_weaker c.push_place-2.result
    (four old (flags_lines e.flags) (place_line (codes "typeset_offset") (offset_shown v e.typeset_offset)) (second_line v e)
    (place_line (codes "constraint_offset") e.constraint_offset) flags set c.in_ok-push_second.ensures)
    c.push_place-2.ensures
