use Rattle.meta_gen.specs.Reply.{AllowedReply, AcceptedReply}
use Rattle.meta_verify.proofs.OneAnswer.{one_fed}
use Rattle.meta_gen.proofs.OneReply.{one_allowed, one_accepted}
use Rattle.meta_verify.proofs.laws.one_answer.Goals as goal

pub returns-clause-tables : goal.returns-clause-tables
returns-clause-tables c = λ t env e f line a b h k. one_fed (AllowedReply t) (one_allowed t) env e f line a b h k

pub returns-clause-declared : goal.returns-clause-declared
returns-clause-declared c = λ d valid env e f line a b h k. one_fed (AcceptedReply d) (one_accepted d valid) env e f line a b h k
