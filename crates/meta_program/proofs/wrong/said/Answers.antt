use Rattle.std.proofs.Common.{rules, ◌≡◌, None, codes, string_bytes, refl, subst}
use Rattle.std.proofs.lemmas.Result.{IfOk-weaker}
use Rattle.meta_program.specs.Tool.{AskSomething}
use Rattle.meta_program.proofs.Entries.{none_taken}
use Rattle.meta_program.proofs.NotWrong.{not_asm}
use Rattle.meta_program.proofs.PlainLine.{plain_line}
use Rattle.meta_program.proofs.wrong.said.Goals as goal

pub returns-in-None-clause-line : goal.returns-in-None-clause-line
returns-in-None-clause-line c = λ nothing.
    let is : c.args.wrong ≡ None = search rules in
    let same = c.asked-words.ensures in
    IfOk-weaker c.usage_line.result _ _ (λ line e. search (rules, e))
    (c.usage_line.ensures.line (none_taken c.args.commands.now c.asked-words.result.now c.requires.listed
    (λ asks. nothing (subst AskSomething same asks))
    (not_asm c.args.over.now c.args.wrong c.asked-words.result.now is c.requires.wrong same)))

pub returns-in-Some-NoVersion-clause-plain : goal.returns-in-Some-NoVersion-clause-plain
returns-in-Some-NoVersion-clause-plain c = λ named.
    IfOk-weaker c.from_str.result _ _ (λ text e.
    let is : string_bytes text ≡ codes "the versions of 'tables' are 1, 2 and 3" = search (rules, e) in
    plain_line (codes "the versions of 'tables' are 1, 2 and 3") (string_bytes text) refl is)
    c.from_str.ensures.ok

pub returns-in-Some-NoForm-clause-plain : goal.returns-in-Some-NoForm-clause-plain
returns-in-Some-NoForm-clause-plain c = λ named.
    IfOk-weaker c.from_str-in-Some-NoForm.result _ _ (λ text e.
    let is : string_bytes text ≡ codes "the forms of 'asm' are short and explicit, each alone or with --why after it" = search (rules, e) in
    plain_line (codes "the forms of 'asm' are short and explicit, each alone or with --why after it") (string_bytes text) refl is)
    c.from_str-in-Some-NoForm.ensures.ok
