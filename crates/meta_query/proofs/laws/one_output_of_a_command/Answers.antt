use Rattle.meta_query.proofs.OneOutput.{one_recheck, one_synth_output, same_output}
use Rattle.meta_query.proofs.laws.one_output_of_a_command.Goals as goal

pub returns : goal.returns
returns c =
    let tables = c.one_table_of_declarations.ensures in
    same_output tables c.one_output.ensures.declared (one_recheck c.a_text_reads_as_one.ensures) c.one_built.ensures
    (one_synth_output tables (λ n d is. is.registry.sets) c.one_synth.ensures c.one_summary.ensures)
