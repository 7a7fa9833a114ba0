use Rattle.std.proofs.Common.{◌+◌, map, take, drop, sym, ap, ◌∙◌}
use Rattle.std.proofs.lemmas.List.{take-map, drop-map}
use Rattle.meta_inst.specs.Tables.{result_count, value_count}
use Rattle.meta_gen.specs.Constraint.{number_constraint_of}
use Rattle.meta_table_text.proofs.opcode_block.constraints_of.Goals as goal

pub returns : goal.returns
returns c =
    let e = c.args.entry in
    let n = result_count e.flags + value_count e.flags in
    let held = c.operand_constraints.result.now in
    ap (map number_constraint_of) c.constraints_from.ensures
    ∙ ap (λ k. map number_constraint_of (take (k + c.value_count.result) (drop e.constraint_offset held))) c.result_count.ensures.count
    ∙ ap (λ k. map number_constraint_of (take (result_count e.flags + k) (drop e.constraint_offset held))) c.value_count.ensures.count
    ∙ sym (take-map number_constraint_of n (drop e.constraint_offset held))
    ∙ ap (take n) (sym (drop-map number_constraint_of e.constraint_offset held))
    ∙ ap (λ cs. take n (drop e.constraint_offset cs)) c.operand_constraints.ensures
