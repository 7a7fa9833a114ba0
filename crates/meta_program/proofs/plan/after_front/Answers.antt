use Rattle.meta_program.proofs.Fronts.{stripped, no_front}
use Rattle.meta_program.proofs.plan.after_front.Goals as goal

pub returns-clause-some : goal.returns-clause-some
returns-clause-some c = stripped c.args.front.now c.args.text.now c.strip_prefix.result c.strip_prefix.ensures.cases

pub returns-clause-none : goal.returns-clause-none
returns-clause-none c = no_front c.args.front.now c.args.text.now c.strip_prefix.result c.strip_prefix.ensures.cases
