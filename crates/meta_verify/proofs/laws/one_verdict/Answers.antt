use Rattle.meta_gen.specs.Reply.{AllowedReply, AcceptedReply}
use Rattle.meta_verify.proofs.OneAnswer.{one_said}
use Rattle.meta_verify.proofs.OneExplained.{one_explained, once_declared}
use Rattle.meta_gen.proofs.OneReply.{one_allowed, one_accepted}
use Rattle.meta_verify.proofs.laws.one_verdict.Goals as goal

pub returns-clause-tables : goal.returns-clause-tables
returns-clause-tables c = λ tables input a b s t h g. one_said (AllowedReply tables) (one_allowed tables) input a b s t h g

pub returns-clause-declared : goal.returns-clause-declared
returns-clause-declared c = λ d input a b s t valid h g. one_said (AcceptedReply d.set) (one_accepted d.set valid.set) input a b s t h g

pub returns-clause-explained_in_tables : goal.returns-clause-explained_in_tables
returns-clause-explained_in_tables c = λ tables input a b s t h g.
    one_explained (AllowedReply tables) (one_allowed tables) c.one_explanation.ensures tables input a b s t h g

pub returns-clause-explained_declared : goal.returns-clause-explained_declared
returns-clause-explained_declared c = λ d input a b s t valid hold h g.
    once_declared d (one_accepted d.set valid.set) c.one_explanation.ensures
    (λ one other made also. c.one_table_of_an_instruction_set.ensures d.set one other hold made also) input a b s t h g
