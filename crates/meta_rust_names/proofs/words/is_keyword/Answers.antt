use Rattle.std.proofs.Common.{◌||◌, sym, ap, ◌∙◌}
use Rattle.std.specs.List.{list_any}
use Rattle.meta_operands.specs.Texts.{same_text}
use Rattle.meta_rust_names.specs.Words.{keywords, is_keyword}
use Rattle.meta_rust_names.proofs.Keywords.{keywords_same}
use Rattle.meta_rust_names.proofs.words.is_keyword.Goals as goal

pub returns-else-is_path_word : goal.returns-else-is_path_word
unfolding is_keyword
returns-else-is_path_word c =
    c.is_in.ensures ∙ keywords_same c.args.name.now
    ∙ sym (ap (λ b. b || list_any (same_text c.args.name.now) keywords) (sym c.is_path_word.ensures ∙ c.if-is_path_word.false))
