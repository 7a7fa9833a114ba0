use Rattle.std.proofs.Common.{◌≡◌, ◌++◌, ◌∙◌, List, ℕ, codes, string_bytes, ap, rules}
use Rattle.std.proofs.lemmas.Result.{IfOk-weaker}
use Rattle.meta_command_line.specs.Usage.{commands_told}
use Rattle.meta_command_line.proofs.Line.{line_plain, no_command_plain}
use Rattle.meta_command_line.proofs.usage.usage_line.Goals as goal

pub returns-in_default-clause-plain : goal.returns-in_default-clause-plain
returns-in_default-clause-plain c = λ named.
    IfOk-weaker c.from_str.result _ _ (λ text e.
    let is : string_bytes text ≡ codes "no command" = search (rules, e) in
    no_command_plain (string_bytes text) is)
    c.from_str.ensures.ok

pub returns-clause-plain : goal.returns-clause-plain
returns-clause-plain c = λ named.
    IfOk-weaker c.format.result _ _ (λ text e.
    let wrong = string_bytes c.in_ok-wrong.wrong in
    let parts : string_bytes text ≡ wrong ++ (string_bytes c.in_ok-commands.commands ++ codes "; --help says more") =
    search (rules, e) in
    let is : string_bytes text ≡ wrong ++ (commands_told c.args.commands.now c.in-Some.misuse ++ codes "; --help says more") =
    parts ∙ ap (λ (told : List ℕ). wrong ++ (told ++ codes "; --help says more")) c.in_ok-commands.ensures in
    line_plain c.args.commands.now c.args.words.now c.in-Some.misuse wrong (string_bytes text) c.in_ok-wrong.ensures is named)
    c.format.ensures.ok

pub returns-clause-line : goal.returns-clause-line
returns-clause-line c = λ none.
    IfOk-weaker c.format.result _ _ (λ text e.
    let wrong = string_bytes c.in_ok-wrong.wrong in
    let parts : string_bytes text ≡ wrong ++ (string_bytes c.in_ok-commands.commands ++ codes "; --help says more") =
    search (rules, e) in
    let is : string_bytes text ≡ wrong ++ (commands_told c.args.commands.now c.in-Some.misuse ++ codes "; --help says more") =
    parts ∙ ap (λ (told : List ℕ). wrong ++ (told ++ codes "; --help says more")) c.in_ok-commands.ensures in
    record { misuse = c.in-Some.misuse; is_misuse = c.in-Some.ensures.some; wrong = wrong; is_wrong = c.in_ok-wrong.ensures; is = is })
    c.format.ensures.ok
