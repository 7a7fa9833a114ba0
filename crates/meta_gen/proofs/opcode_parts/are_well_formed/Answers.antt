use Rattle.meta_gen.proofs.PartsTested.{fails, constraints_of_parts, entries_of_parts, told_by_names}
use Rattle.meta_gen.proofs.opcode_parts.are_well_formed.Goals as goal

pub returns-then-not-are_constraints : goal.returns-then-not-are_constraints
returns-then-not-are_constraints c = fails _ _ _ c.if-not-are_constraints.true c.are_constraints.ensures
    (constraints_of_parts c.args.names.now c.args.formats.now c.args.type_sets.now c.args.operand_constraints.now c.args.constraints.now)

pub returns-then-not-are_entries : goal.returns-then-not-are_entries
returns-then-not-are_entries c = fails _ _ _ c.if-not-are_entries.true c.are_entries.ensures
    (entries_of_parts c.args.names.now c.args.formats.now c.args.type_sets.now c.args.operand_constraints.now c.args.constraints.now)

pub returns : goal.returns
returns c =
    told_by_names c.args.names.now c.args.formats.now c.args.type_sets.now c.args.operand_constraints.now c.args.constraints.now
    (c.are_few.ensures.0 c.if-not-are_few.false) (c.are_named.ensures.0 c.if-not-are_named.false)
    (c.are_named-2.ensures.0 c.if-not-are_named-2.false)
    (c.are_masks.ensures.0 c.if-not-are_masks.false) (c.are_constraints.ensures.0 c.if-not-are_constraints.false)
    (c.are_entries.ensures.0 c.if-not-are_entries.false)
    c.are_distinct.result c.are_distinct.ensures
