use Rattle.meta_program.proofs.loading.fault_in.Goals as goal

pub returns-else-is_out_of_memory-clause-some : goal.returns-else-is_out_of_memory-clause-some
returns-else-is_out_of_memory-clause-some c = c.in-Err.ensures.refused (λ e.
    let yes = c.is_out_of_memory.ensures.1 e in
    let no = c.if-is_out_of_memory.false in cc)
