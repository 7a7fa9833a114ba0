use Rattle.meta_text.proofs.Steps.{cut_parts}
use Rattle.meta_text.proofs.template.cut.Goals as goal

pub returns-clause-parts : goal.returns-clause-parts
returns-clause-parts c = cut_parts c.args.text.now c.split_once.result c.split_once.ensures.cases
