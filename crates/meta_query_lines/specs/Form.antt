-- The forms of the lines that ask.
--     words_in form      the words of a line of this form
--     name_in form       the name that it asks for
use Rattle.std.specs.Prelude.{ℕ, nat_eq, List, Option, Some, None, if◌then◌else◌, codes}
use Rattle.std.specs.Cmp.Lexicographic.{pointwise}
use Rattle.meta_query_lines.specs.Inference.{inference_words}
use Rattle.meta_query_lines.specs.Query.{setting_words}
use Rattle.meta_query_lines.specs.Question.{question_words}
use Rattle.meta_query_lines.specs.declared.form.QueryWord.{QueryWord}
use Rattle.meta_query_lines.specs.declared.form.QueryWord.TheVariants.{Accept as AcceptCommand, Infer as InferCommand}
use Rattle.meta_query_lines.specs.declared.form.QueryWord.TheVariants.{Setting as SettingCommand}
use Rattle.meta_query_lines.specs.declared.form.QueryForm.{QueryForm}
use Rattle.meta_query_lines.specs.declared.form.QueryForm.TheVariants.{Accept, Infer, Setting}

-- the first word of a line
abbrev pub command_text : QueryWord → List ℕ
command_text AcceptCommand = codes "accept"
command_text InferCommand = codes "infer"
command_text SettingCommand = codes "setting"

-- the command that a word is
abbrev pub command_named : List ℕ → Option QueryWord
command_named text =
    if pointwise nat_eq text (codes "accept") then Some AcceptCommand
    else (if pointwise nat_eq text (codes "infer") then Some InferCommand
    else (if pointwise nat_eq text (codes "setting") then Some SettingCommand else None))

-- the words of a line of this form
abbrev pub words_in : QueryForm → List (List ℕ)
words_in (Accept w) = question_words w.name.now w.control.now w.results.now w.values.now
words_in (Infer w) = inference_words w.name.now w.control.now
words_in (Setting name) = setting_words name.now

-- the name in it
abbrev pub name_in : QueryForm → List ℕ
name_in (Accept w) = w.name.now
name_in (Infer w) = w.name.now
name_in (Setting name) = name.now
