use Rattle.std.proofs.Common.{◌++◌, codes, refl, ◌∙◌}
use Rattle.meta_table_reader.proofs.SetLines.{set_lines}
use Rattle.meta_table_reader.proofs.SetBlocks.{last_lines, at_lines, at_floats, at_ints, at_dynamic, set_opened}
use Rattle.meta_table_reader.proofs.opcode_parts.MasksItem.read.Goals as goal

pub returns : goal.returns
returns c = λ m rest shown e.
    let (lanes, a) = c.number_u16-lanes.ensures.item m.lanes (at_dynamic m rest) shown.lanes refl refl (e ∙ set_opened m rest) in
    let (dynamic_lanes, b) = c.number_u16-dynamic_lanes.ensures.item m.dynamic_lanes (at_ints m rest) shown.dynamic_lanes refl refl a in
    let (ints, d) = c.number_u8-ints.ensures.item m.ints (at_floats m rest) shown.ints refl refl b in
    let (floats, f) = c.number_u8-floats.ensures.item m.floats (codes "),\n" ++ at_lines m rest) shown.floats refl refl d in (
      λ i. record { lanes = lanes i; dynamic_lanes = dynamic_lanes i; ints = ints i; floats = floats i },
      c.skip_lines.ensures.item (last_lines m) rest (set_lines m) refl (c.pass.ensures.item (at_lines m rest) f),
    )
