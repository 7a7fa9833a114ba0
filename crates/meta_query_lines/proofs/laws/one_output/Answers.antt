use Rattle.meta_query_lines.proofs.OneOutput.{same_output}
use Rattle.meta_query_lines.proofs.TableReplies.{same_answers}
use Rattle.meta_query_lines.proofs.laws.one_output.Goals as goal

pub returns-clause-declared : goal.returns-clause-declared
returns-clause-declared c = same_output c.built_groups_have_tables.ensures.names

pub returns-clause-tables : goal.returns-clause-tables
returns-clause-tables c = same_answers
