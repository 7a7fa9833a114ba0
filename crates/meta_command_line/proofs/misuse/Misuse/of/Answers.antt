use Rattle.meta_command_line.proofs.AfterName.{cut, misuse_after, taken_after}
use Rattle.meta_command_line.proofs.misuse.Misuse.of.Goals as goal

pub returns-in-Some-clause-some : goal.returns-in-Some-clause-some
returns-in-Some-clause-some c =
    misuse_after c.args.commands.now c.args.words.now c.name-item.result _ c.in-Some.command.now c.after.result
    (cut c.args.words.now c.name-item.result c.in-len1-up.len_at_least c.name-item.is) c.in-Some.ensures.some c.after.ensures.some

pub returns-in-Some-clause-none : goal.returns-in-Some-clause-none
returns-in-Some-clause-none c = taken_after c.args.commands.now c.args.words.now c.name-item.result _ c.in-Some.command.now c.after.result
    (cut c.args.words.now c.name-item.result c.in-len1-up.len_at_least c.name-item.is) c.in-Some.ensures.some c.after.ensures.none
