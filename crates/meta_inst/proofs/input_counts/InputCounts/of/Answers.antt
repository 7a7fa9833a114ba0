use Rattle.std.proofs.Common.{◌≡◌, ◌+◌, ◌==◌, ℕ, cond, Some, unwrap_or, ap, ◌∙◌, arith}
use Rattle.std.specs.Ordering.{nat_cmp}
use Rattle.std.specs.Cmp.{unsigned_tied}
use Rattle.std.specs.BTreeMap.{get}
use Rattle.meta_inst.proofs.Counting.{more_counted, few_counted}
use Rattle.meta_inst.proofs.input_counts.InputCounts.of.Goals as goal

pub loop-tv-preserved : goal.loop-tv-preserved
loop-tv-preserved c =
    let old = get nat_cmp c.loop-tv.counts in
    let before : c.unwrap_or-before.result ≡ unwrap_or (old c.tv-item.result) 0 = c.unwrap_or-before.ensures
    ∙ ap (λ o. unwrap_or o 0) (c.copied.ensures ∙ c.get.ensures.value) in
    more_counted c.args.inputs.now c.loop-tv.tv-index c.tv-item.result old
    (get nat_cmp c.insert.new.self) c.loop-tv-test.true c.tv-item.is c.loop-tv.invariant
    (λ q. c.in_ok-insert.ensures.updates.0 q
    ∙ ap (λ b. cond b (Some (c.unwrap_or-before.result + 1)) (old q)) (unsigned_tied c.tv-item.result q)
    ∙ ap (λ (n : ℕ). cond (c.tv-item.result == q) (Some (n + 1)) (old q)) before)

pub overflow_add-before : goal.overflow_add-before
overflow_add-before c =
    let old = get nat_cmp c.loop-tv.counts in
    let before : c.unwrap_or-before.result ≡ unwrap_or (old c.tv-item.result) 0 = c.unwrap_or-before.ensures
    ∙ ap (λ o. unwrap_or o 0) (c.copied.ensures ∙ c.get.ensures.value) in
    let few = few_counted c.args.inputs.now c.loop-tv.tv-index c.tv-item.result old c.loop-tv.invariant in
    omega (arith, before, few, c.loop-tv-test.true, c.loop-tv.auto.tv-index-end)
