use Rattle.meta_gen.specs.Reply.{AllowedReply, AcceptedReply}
use Rattle.meta_verify.proofs.OneAnswer.{one_mistake, right_is_none}
use Rattle.meta_gen.proofs.OneReply.{one_allowed, one_accepted}
use Rattle.meta_verify.proofs.laws.one_mistake.Goals as goal

pub returns-clause-tables : goal.returns-clause-tables
returns-clause-tables c = λ t env s a b h k. one_mistake (AllowedReply t) (one_allowed t) env s a b h k

pub returns-clause-right_in_tables : goal.returns-clause-right_in_tables
returns-clause-right_in_tables c = λ t env s a h k. right_is_none (AllowedReply t) (one_allowed t) env s a h k

pub returns-clause-declared : goal.returns-clause-declared
returns-clause-declared c = λ d valid env s a b h k. one_mistake (AcceptedReply d) (one_accepted d valid) env s a b h k

pub returns-clause-right_declared : goal.returns-clause-right_declared
returns-clause-right_declared c = λ d valid env s a h k. right_is_none (AcceptedReply d) (one_accepted d valid) env s a h k
