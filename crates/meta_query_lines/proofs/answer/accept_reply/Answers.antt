use Rattle.std.proofs.Common.{rules}
use Rattle.meta_query_lines.proofs.answer.accept_reply.Goals as goal

pub returns-else-accepts2 : goal.returns-else-accepts2
returns-else-accepts2 c = search rules
