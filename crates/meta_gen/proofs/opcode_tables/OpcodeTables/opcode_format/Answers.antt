use Rattle.std.proofs.Common.{◌<◌, length, ap, ◌∙◌, arith}
use Rattle.meta_inst.specs.Tables.{TableContents, at_opcode}
use Rattle.meta_gen.proofs.Opcodes.{text_found, text_is, no_text, no_opcode}
use Rattle.meta_gen.proofs.opcode_tables.OpcodeTables.opcode_format.Goals as goal

pub returns-then-opcode-eq0-clause-opcode : goal.returns-then-opcode-eq0-clause-opcode
returns-then-opcode-eq0-clause-opcode c = no_opcode c.args.opcode _ c.if-opcode-eq0.true

pub returns-then-opcode-eq0-clause-none : goal.returns-then-opcode-eq0-clause-none
returns-then-opcode-eq0-clause-none c = ap (at_opcode c.args.self.now.formats) c.if-opcode-eq0.true

pub returns-clause-opcode : goal.returns-clause-opcode
returns-clause-opcode c =
    let after : 0 < c.args.opcode = omega arith in
    text_found c.deref.result.now c.args.opcode _ c.get.result after (ap length c.deref.ensures.value
    ∙ c.self.invariant.well_formed.parts.formatted ∙ ap (λ (t : TableContents). length t.entries) c.self.view_is) c.get.ensures.lookup.3

pub returns-clause-format : goal.returns-clause-format
returns-clause-format c =
    let after : 0 < c.args.opcode = omega arith in
    text_is c.deref.result.now c.args.self.now.formats c.args.opcode c.get.result after (c.deref.ensures.value
    ∙ ap (λ (t : TableContents). t.formats) c.self.view_is) c.get.ensures.lookup.3

pub returns-clause-none : goal.returns-clause-none
returns-clause-none c =
    let after : 0 < c.args.opcode = omega arith in
    no_text c.deref.result.now c.args.self.now.formats c.args.opcode c.get.result after (c.deref.ensures.value
    ∙ ap (λ (t : TableContents). t.formats) c.self.view_is) c.get.ensures.lookup.3
