use Rattle.std.proofs.Common.{◌++◌, string_bytes, codes, sym, ap, ◌∙◌}
use Rattle.std.proofs.lemmas.Result.{on_ok_weaker}
use Rattle.meta_asm.specs.Short.{joined}
use Rattle.meta_asm.specs.ShortWritten.{manner_in}
use Rattle.meta_asm.proofs.Writing.{two, where_ok, result_texts, results_some}
use Rattle.meta_asm.proofs.push.push_results.Goals as goal

pub returns : goal.returns
returns c =
    let opened = (manner_in c.args.manner.now).opened in
    on_ok_weaker c.push_str.result
    (λ e. two (string_bytes c.args.out.now) (joined (result_texts opened c.args.results.now))
    (codes " = ") c.in_ok-push_joined_results.ensures e
    ∙ ap (λ t. string_bytes c.args.out.now ++ t) (results_some opened c.args.results.now (sym c.is_empty.ensures ∙ c.if-is_empty.false)))
    (where_ok c.push_str.result (string_bytes c.push_joined_results.new.out) (codes " = ") c.push_str.ensures.bytes)
