use Rattle.std.proofs.Common.{◌≡◌, ◌+◌, ◌∙◌, ap, sym, subst, take, drop, Some, rules}
use Rattle.std.proofs.lemmas.List.{drop-drop}
use Rattle.meta_text.specs.InMemory.{after_read}
use Rattle.meta_text.specs.Outside.{counted}
use Rattle.meta_text.specs.declared.outside.ReadOutcome.TheVariants.{Got}
use Rattle.meta_text.specs.contracts.memory_source.MemorySource.{the_view}
use Rattle.meta_text.proofs.Fronts.{left_from, given_front, given_all, kept_rest, same_state, none_left}
use Rattle.meta_text.proofs.memory_source.MemorySourceSource.read.Goals as goal

pub returns-clause-rest : goal.returns-clause-rest
returns-clause-rest c = kept_rest c.min-count.result c.min.result c.split_at.result.1.now c.split_at-2.result.0.now
    c.copy_from_slice.new.self
    (drop c.min-count.result c.args.buf.now) c.min-count.ensures c.split_at-2.ensures.front c.copy_from_slice.ensures.after

pub returns-clause-count : goal.returns-clause-count
returns-clause-count c = search rules

pub returns-clause-bytes : goal.returns-clause-bytes
returns-clause-bytes c =
    let left = left_from c.self.inside.at c.self.inside.bytes.items c.as_slice-2.result.now c.split_at.result.1.now
    c.as_slice-2.ensures.value c.split_at.ensures.back in
    given_front c.min-count.result c.min.result c.split_at.result.1.now c.split_at-2.result.0.now c.copy_from_slice.new.self
    (drop c.min-count.result c.args.buf.now)
    c.min-count.ensures c.split_at-2.ensures.front c.copy_from_slice.ensures.after
    ∙ ap (take c.min-count.result) (left ∙ ap (λ s. s.left) c.self.view_is)

pub returns-clause-got : goal.returns-clause-got
returns-clause-got c =
    let left = left_from c.self.inside.at c.self.inside.bytes.items c.as_slice-2.result.now c.split_at.result.1.now
    c.as_slice-2.ensures.value c.split_at.ensures.back in
    ap Some (sym (ap (λ s. s.left) c.self.view_is)
    ∙ given_all c.min-count.result c.min.result c.split_at.result.1.now c.split_at-2.result.0.now c.copy_from_slice.new.self
    (drop c.min-count.result c.args.buf.now)
    c.min-count.ensures c.split_at-2.ensures.front c.copy_from_slice.ensures.after c.self.inside.at c.self.inside.bytes.items
    left)

pub returns-clause-state : goal.returns-clause-state
returns-clause-state c = subst (λ s. the_view (record c.self.inside
    { at = c.self.inside.at + c.min-count.result; calls = c.saturating_add-self-inside.result }) ≡ after_read s
    (Got c.min-count.result)) c.self.view_is
    (same_state (drop (c.self.inside.at + c.min-count.result) c.self.inside.bytes.items)
    (drop c.min-count.result (drop c.self.inside.at c.self.inside.bytes.items))
    c.self.inside.step c.self.inside.fails.items c.saturating_add-self-inside.result (counted c.self.inside.calls)
    c.self.inside.faults
    (sym (drop-drop c.min-count.result c.self.inside.at c.self.inside.bytes.items)) c.saturating_add-self-inside.ensures)

pub returns-then-is_empty-clause-end : goal.returns-then-is_empty-clause-end
returns-then-is_empty-clause-end c =
    let left = left_from c.self.inside.at c.self.inside.bytes.items c.as_slice-2.result.now c.split_at.result.1.now
    c.as_slice-2.ensures.value c.split_at.ensures.back in
    sym (left ∙ ap (λ s. s.left) c.self.view_is) ∙ none_left c.split_at.result.1.now c.if-is_empty.ensures
