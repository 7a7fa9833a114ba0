use Rattle.std.proofs.Common.{◌≡◌, ◌∙◌, sym, ap, subst, string_bytes, rules}
use Rattle.std.proofs.lemmas.Result.{IfOk-weaker}
use Rattle.meta_command_line.specs.Usage.{IsShownAt, misuse_text}
use Rattle.meta_command_line.specs.declared.misuse.Misuse.TheVariants.{NoNumber, WordTooMany}
use Rattle.meta_command_line.proofs.usage.wrong_after.Goals as goal

pub returns-in-NoNumber : goal.returns-in-NoNumber
returns-in-NoNumber c =
    let name = string_bytes c.in_ok-name.name in
    let word = string_bytes c.in_ok-word.word in
    IfOk-weaker c.format-in-NoNumber.result _ _ (λ text e.
    let is : string_bytes text ≡ misuse_text (NoNumber c.in-NoNumber.field-0) name word = search (rules, e) in
    record {
      name_shown = name;
      shows_name = c.in_ok-name.ensures;
      word_shown = word;
      shows_word = subst (λ place. IsShownAt c.args.after.now place word) c.place.ensures c.in_ok-word.ensures;
      is = is ∙ ap (λ m. misuse_text m name word) (sym c.in-NoNumber.is);
    })
    c.format-in-NoNumber.ensures.ok

pub returns-in-WordTooMany : goal.returns-in-WordTooMany
returns-in-WordTooMany c =
    let name = string_bytes c.in_ok-name.name in
    let word = string_bytes c.in_ok-word.word in
    IfOk-weaker c.format-in-WordTooMany.result _ _ (λ text e.
    let is : string_bytes text ≡ misuse_text (WordTooMany c.in-WordTooMany.field-0) name word = search (rules, e) in
    record {
      name_shown = name;
      shows_name = c.in_ok-name.ensures;
      word_shown = word;
      shows_word = subst (λ place. IsShownAt c.args.after.now place word) c.place.ensures c.in_ok-word.ensures;
      is = is ∙ ap (λ m. misuse_text m name word) (sym c.in-WordTooMany.is);
    })
    c.format-in-WordTooMany.ensures.ok
