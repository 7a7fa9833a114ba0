use Rattle.meta_explain.proofs.TextsTell.{set_one, alternatives_one}
use Rattle.meta_explain.proofs.laws.texts_tell_the_types.Goals as goal

pub returns-clause-sets : goal.returns-clause-sets
returns-clause-sets c = set_one

pub returns-clause-names : goal.returns-clause-names
returns-clause-names c = alternatives_one
