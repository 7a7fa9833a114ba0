use Rattle.std.proofs.Common.{◌≡◌, ◌∙◌, ◌++◌, ap, codes, string_bytes, rules}
use Rattle.std.proofs.lemmas.Result.{IfOk-weaker}
use Rattle.meta_program.proofs.PlainLine.{missing_text, missing_plain, missing_within}
use Rattle.meta_program.proofs.wrong.file_missing.Goals as goal

pub word_at-name-requires : goal.word_at-name-requires
word_at-name-requires c = missing_within c.args.words.now c.requires

pub returns-clause-plain : goal.returns-clause-plain
returns-clause-plain c =
    let name : c.as_str-name.result.now ≡ c.word_at-name.result.now = search rules in
    IfOk-weaker c.format.result _ _ (λ text e.
    let parts : string_bytes text ≡ codes "a file is missing for '" ++ (c.as_str-name.result.now ++ codes "'") = search (rules, e) in
    missing_plain c.args.words.now (string_bytes text) c.requires
    (record { name = c.word_at-name.result.now; first = c.word_at-name.ensures; is = parts ∙ ap missing_text name }))
    c.format.ensures.ok
