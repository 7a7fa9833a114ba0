use Rattle.meta_inst.proofs.Giving.{results_mean}
use Rattle.meta_inst.proofs.Given.{allowed_given, given_is}
use Rattle.meta_inst.proofs.meaning_laws.tables_infer_the_results.Goals as goal

pub returns-clause-meaning : goal.returns-clause-meaning
returns-clause-meaning c = λ sets i control tables op entry a b numbers typed h good is at.
    results_mean sets i control tables entry typed h good is a b op at numbers

pub returns-clause-some : goal.returns-clause-some
returns-clause-some c = λ tables op a b rs vs allows. allowed_given tables op a b rs vs allows

pub returns-clause-same : goal.returns-clause-same
returns-clause-same c = λ tables op a b rs vs numbers allows gives. given_is tables op a b rs vs allows numbers gives
