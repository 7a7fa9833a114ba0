use Rattle.std.proofs.Common.{◌∙◌, ap, sym, length, take, drop, Some}
use Rattle.std.proofs.lemmas.List.{drop-drop}
use Rattle.meta_text.proofs.Fronts.{left_from, given_front, given_all, kept_rest, none_left}
use Rattle.meta_text.proofs.never_fails.NeverFailsSource.read.Goals as goal

pub returns-clause-bytes : goal.returns-clause-bytes
returns-clause-bytes c =
    let left = left_from c.self.inside.at c.self.inside.bytes.items c.as_slice.result.now c.split_at.result.1.now
    c.as_slice.ensures.value c.split_at.ensures.back in
    given_front c.min-count.result (length c.args.buf.now) c.split_at.result.1.now c.split_at-2.result.0.now
    c.copy_from_slice.new.self (drop c.min-count.result c.args.buf.now)
    c.min-count.ensures c.split_at-2.ensures.front c.copy_from_slice.ensures.after
    ∙ ap (take c.min-count.result) (left ∙ c.self.view_is)

pub returns-clause-got : goal.returns-clause-got
returns-clause-got c =
    let left = left_from c.self.inside.at c.self.inside.bytes.items c.as_slice.result.now c.split_at.result.1.now
    c.as_slice.ensures.value c.split_at.ensures.back in
    ap Some (sym c.self.view_is
    ∙ given_all c.min-count.result (length c.args.buf.now) c.split_at.result.1.now c.split_at-2.result.0.now
    c.copy_from_slice.new.self (drop c.min-count.result c.args.buf.now)
    c.min-count.ensures c.split_at-2.ensures.front c.copy_from_slice.ensures.after c.self.inside.at c.self.inside.bytes.items
    left)

pub returns-clause-rest : goal.returns-clause-rest
returns-clause-rest c = kept_rest c.min-count.result (length c.args.buf.now) c.split_at.result.1.now c.split_at-2.result.0.now
    c.copy_from_slice.new.self (drop c.min-count.result c.args.buf.now)
    c.min-count.ensures c.split_at-2.ensures.front c.copy_from_slice.ensures.after

pub returns-clause-state : goal.returns-clause-state
returns-clause-state c = sym (drop-drop c.min-count.result c.self.inside.at c.self.inside.bytes.items)
    ∙ ap (drop c.min-count.result) c.self.view_is

pub returns-then-is_empty-clause-end : goal.returns-then-is_empty-clause-end
returns-then-is_empty-clause-end c =
    let left = left_from c.self.inside.at c.self.inside.bytes.items c.as_slice.result.now c.split_at.result.1.now
    c.as_slice.ensures.value c.split_at.ensures.back in
    sym (left ∙ c.self.view_is) ∙ none_left c.split_at.result.1.now c.if-is_empty.ensures
