use Rattle.meta_gen.specs.Reply.{AllowedReply, AcceptedReply}
use Rattle.meta_verify.proofs.Meaning.{nothing_named, leads_named}
use Rattle.meta_verify.proofs.laws.types_stay_named.Goals as goal

pub returns-clause-nothing : goal.returns-clause-nothing
returns-clause-nothing c = nothing_named

pub returns-clause-tables : goal.returns-clause-tables
returns-clause-tables c = λ t env after lines named h. leads_named (AllowedReply t) env after lines named h

pub returns-clause-declared : goal.returns-clause-declared
returns-clause-declared c = λ d env after lines named h. leads_named (AcceptedReply d) env after lines named h
