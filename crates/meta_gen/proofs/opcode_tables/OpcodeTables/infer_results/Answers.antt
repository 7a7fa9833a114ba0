use Rattle.meta_gen.proofs.opcode_tables.OpcodeTables.infer_results.Goals as goal

pub returns : goal.returns
returns c = c.infer_results2.ensures
