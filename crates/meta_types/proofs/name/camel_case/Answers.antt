use Rattle.std.proofs.Common.{◌∙◌, rules}
use Rattle.meta_types.proofs.Camel.{camel_more, camel_dropped, camel_end}
use Rattle.meta_types.proofs.name.camel_case.Goals as goal

pub loop-c-preserved : goal.loop-c-preserved
loop-c-preserved c =
    camel_more _ _ _ _ _ c.loop-c.at_start c.in-Some.c _ c.in_ok-push.ensures.bytes c.capital_at.ensures c.in-Some.ensures.steps.0
    c.if-c-eq95.false c.loop-c.invariant

pub returns-in_err-out : goal.returns-in_err-out
returns-in_err-out c = search rules

pub loop-c-init : goal.loop-c-init
loop-c-init c = search rules

pub next-requires : goal.next-requires
next-requires c = search rules

pub returns-in_err-push : goal.returns-in_err-push
returns-in_err-push c = search rules

pub loop-c-preserved-then-c-eq95 : goal.loop-c-preserved-then-c-eq95
loop-c-preserved-then-c-eq95 c =
    camel_dropped _ _ _ _ c.loop-c.at_start c.in-Some.c c.in-Some.ensures.steps.0 c.if-c-eq95.true c.loop-c.invariant

pub returns : goal.returns
returns c = c.of.ensures ∙ camel_end _ _ _ c.loop-c.at_start c.in-None.ensures.steps.0.0 c.loop-c.invariant
