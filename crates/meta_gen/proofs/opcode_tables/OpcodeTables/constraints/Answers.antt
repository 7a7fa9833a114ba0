use Rattle.std.proofs.Common.{◌<◌, List, IfSome, Some, ◌≡◌, map, subst, ap, ◌∙◌, arith}
use Rattle.std.specs.Option.{option_copied}
use Rattle.meta_inst.specs.Tables.{TableContents, OpcodeNumbers, at_opcode}
use Rattle.meta_gen.specs.Constraint.{entry_of}
use Rattle.meta_gen.proofs.Opcodes.{entry_read}
use Rattle.meta_gen.proofs.Declared.{declared_if_some}
use Rattle.meta_gen.proofs.opcode_tables.OpcodeTables.constraints.Goals as goal

pub returns-clause-entry : goal.returns-clause-entry
returns-clause-entry c =
    let after : 0 < c.args.opcode = omega arith in
    let read = entry_read c.deref.result.now c.args.opcode c.get.result after c.get.ensures.lookup.3 in
    let entries = ap (map entry_of) c.deref.ensures.value ∙ ap (λ (t : TableContents). t.entries) c.self.view_is in
    rw c.copied.ensures (subst (λ (es : List OpcodeNumbers). IfSome (option_copied c.get.result)
    (λ e. at_opcode es c.args.opcode ≡ Some (entry_of e))) entries read)

pub returns-clause-meaning : goal.returns-clause-meaning
returns-clause-meaning c = λ d h. declared_if_some d _ _ _ h (returns-clause-entry c)
