use Rattle.std.proofs.Common.{codes, string_bytes}
use Rattle.std.proofs.lemmas.Result.{on_ok_weaker}
use Rattle.std.specs.Option.{option_map}
use Rattle.meta_lists.proofs.Joined.{four, where_ok}
use Rattle.meta_table_text.specs.TypeSetText.{set_or_nothing, set_comment}
use Rattle.meta_table_text.proofs.type_set_text.push_set_comment.Goals as goal

pub returns : goal.returns
unfolding set_comment
returns c =
    on_ok_weaker c.push_str-3.result
    (four (string_bytes c.args.out.now) (codes "        // ") c.args.about.now (set_or_nothing (option_map (λ m. m.now) c.args.masks))
    (codes "\n") c.in_ok-push_str.ensures.bytes c.in_ok-push_str-2.ensures.bytes c.in_ok-push_set_or_nothing.ensures)
    (where_ok c.push_str-3.result (string_bytes c.push_set_or_nothing.new.out) (codes "\n") c.push_str-3.ensures.bytes)
