use Rattle.std.proofs.Common.{sym, ◌∙◌, arith}
use Rattle.std.proofs.lemmas.Option.{slice_get-get_or, slice_get_within}
use Rattle.meta_command_line.proofs.AfterName.{others_more}
use Rattle.meta_command_line.proofs.Numbers.{no_truth}
use Rattle.meta_command_line.proofs.misuse.named.Goals as goal

pub returns-then-is_text-clause-some : goal.returns-then-is_text-clause-some
returns-then-is_text-clause-some c = record {
  named = record {
    place = c.loop-command.command-index;
    at = slice_get-get_or c.args.commands.now c.loop-command.command-index _ c.loop-command-test.true;
    name_is = sym (c.is_text.ensures.0 c.if-is_text.true);
  };
  first = c.loop-command.invariant;
}

pub loop-command-preserved : goal.loop-command-preserved
loop-command-preserved c = others_more c.args.commands.now c.loop-command.command-index _ c.args.name.now
    (slice_get-get_or c.args.commands.now c.loop-command.command-index _ c.loop-command-test.true)
    (λ e. no_truth (sym c.if-is_text.false ∙ c.is_text.ensures.1 (sym e))) c.loop-command.invariant

pub returns-clause-none : goal.returns-clause-none
returns-clause-none c = λ k command at.
    let within = slice_get_within c.args.commands.now k command at in
    let past = c.loop-command-test.false in
    c.loop-command.invariant k command (omega arith) at
