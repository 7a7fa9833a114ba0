use Rattle.std.proofs.Common.{ℕ, List, map, rules, string_bytes}
use Rattle.meta_text.proofs.Steps.{moved, ended}
use Rattle.meta_text.proofs.template.fill.Goals as goal

pub loop-before-preserved : goal.loop-before-preserved
loop-before-preserved c =
    let holes : List (List ℕ) = map (λ h. h.now) c.args.holes.now in
    let texts : List (List ℕ) = map (λ t. t.now) c.args.texts.now in (
      search rules,
      moved (string_bytes c.loop-before.out) c.loop-before.left.now holes texts _ c.name_and_rest.result.0.now
          c.name_and_rest.result.1.now c.in-Some.before.now c.in-Some.after.now c.in-Some.ensures.parts
          (c.name_and_rest.ensures.value holes texts c.in-Some.before.now) c.text_named.ensures c.in_ok-push_str.ensures.bytes
          c.in_ok-push_str-2.ensures.bytes c.loop-before.invariant.1,
    )

pub returns : goal.returns
returns c =
    ended c.push_str-2.result (string_bytes c.loop-before.out) c.loop-before.left.now (map (λ h. h.now) c.args.holes.now)
    (map (λ t. t.now) c.args.texts.now) _ c.in_default.ensures.parts c.push_str-2.ensures.bytes c.loop-before.invariant.1
