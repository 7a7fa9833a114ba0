use Rattle.meta_query_lines.proofs.OneExplanation.{one_explained}
use Rattle.meta_query_lines.proofs.OneExplainedOutput.{same_explained_output}
use Rattle.meta_query_lines.proofs.laws.one_explained_output.Goals as goal

pub returns-clause-declared : goal.returns-clause-declared
returns-clause-declared c =
    same_explained_output c.one_built.ensures c.one_table_of_declarations.ensures
    (one_explained c.a_refusal_fails.ensures.refused c.one_explanation.ensures)

pub returns-clause-tables : goal.returns-clause-tables
returns-clause-tables c = one_explained c.a_refusal_fails.ensures.refused c.one_explanation.ensures
