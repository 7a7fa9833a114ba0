use Rattle.std.proofs.Common.{◌≡◌, false, rules}
use Rattle.meta_verify.proofs.StatementLemmas.{no_param_word}
use Rattle.meta_verify.proofs.statement.parameter_words.Goals as goal

pub returns-then-not-begins_with_p-clause-none : goal.returns-then-not-begins_with_p-clause-none
returns-then-not-begins_with_p-clause-none c =
    let off : c.begins_with_p.result ≡ false = search rules in
    no_param_word c.args.line.now (c.begins_with_p.ensures off)
