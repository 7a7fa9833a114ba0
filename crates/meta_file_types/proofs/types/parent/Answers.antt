use Rattle.meta_file_types.proofs.After.{after}
use Rattle.meta_file_types.proofs.types.parent.Goals as goal

pub returns-in-Some-clause-some : goal.returns-in-Some-clause-some
returns-in-Some-clause-some c =
    after c.args.vars.now c.args.variable c.content.result.now c.content.ensures.kept c.content.ensures.registry
    c.in-Some.parent c.in-Some.is
