use Rattle.meta_query_lines.proofs.QuestionLemmas.{one_question}
use Rattle.meta_query_lines.proofs.question.asks_one_question.Goals as goal

pub returns : goal.returns
returns c = one_question
