use Rattle.std.proofs.Common.{sym, ◌∙◌}
use Rattle.std.specs.Cmp.Lexicographic.{bytes_decides}
use Rattle.meta_query_lines.proofs.RequestLemmas.{no_types_words, no_find_words, no_list_words, some_pieces}
use Rattle.meta_query_lines.proofs.request.form_after.Goals as goal

pub returns-in_err-types-clause-none : goal.returns-in_err-types-clause-none
returns-in_err-types-clause-none c =
    let is = (bytes_decides c.args.first.now c.as_slice.result.now).0 (sym c.eq.ensures ∙ c.if-eq.true) ∙ c.as_slice.ensures in
    rw c.from_residual.ensures (λ line r pieces. no_types_words line c.args.first.now c.args.after.now pieces is
    c.in_err-types.ensures.none c.in_err-types.ensures.none_under r)

pub returns-in_err-find-clause-none : goal.returns-in_err-find-clause-none
returns-in_err-find-clause-none c =
    let is = (bytes_decides c.args.first.now c.as_slice-2.result.now).0 (sym c.eq-2.ensures ∙ c.if-eq-2.true) ∙ c.as_slice-2.ensures in
    rw c.from_residual-in_err-find.ensures (λ line r pieces. no_find_words line c.args.first.now c.args.after.now pieces is
    c.in_err-find.ensures.none r)

pub returns-in_err-name-clause-none : goal.returns-in_err-name-clause-none
returns-in_err-name-clause-none c =
    let is = (bytes_decides c.args.first.now c.as_slice-3.result.now).0 (sym c.eq-3.ensures ∙ c.if-eq-3.true) ∙ c.as_slice-3.ensures in
    rw c.from_residual-in_err-name.ensures (λ line r pieces. no_list_words line c.args.first.now c.args.after.now pieces is
    c.in_err-name.ensures.none (some_pieces c.args.after.now) r)
