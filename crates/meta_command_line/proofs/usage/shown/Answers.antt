use Rattle.std.proofs.Common.{◌≡◌, ◌++◌, ◌∙◌, codes, string_bytes, sym, ap, rules}
use Rattle.std.proofs.lemmas.Result.{IfOk-weaker}
use Rattle.meta_command_line.specs.Usage.{escaped}
use Rattle.meta_command_line.proofs.Numbers.{no_truth}
use Rattle.meta_command_line.proofs.usage.shown.Goals as goal

pub returns-then-is_plain : goal.returns-then-is_plain
returns-then-is_plain c =
    let plain = c.is_plain.ensures.0 c.if-is_plain.true in
    IfOk-weaker c.format.result _ _ (λ s e.
    let is : string_bytes s ≡ codes "'" ++ (c.args.word.now ++ codes "'") = search (rules, e) in
    record { plain = λ p. is; others = λ n. absurd (n plain) })
    c.format.ensures.ok

pub returns-else-is_plain : goal.returns-else-is_plain
returns-else-is_plain c =
    IfOk-weaker c.escaped.result _ _ (λ s e. record {
      plain = λ p. absurd (no_truth (sym c.if-is_plain.false ∙ c.is_plain.ensures.1 p));
      others = λ n. e ∙ ap escaped c.as_bytes.ensures;
    })
    c.escaped.ensures.text
