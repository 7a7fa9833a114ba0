use Rattle.std.proofs.lemmas.List.Elements.{All-push}
use Rattle.meta_verify.specs.Statement.{IsValue, value_text}
use Rattle.meta_verify.proofs.ListLemmas.{refused, listed, one_more}
use Rattle.meta_verify.proofs.StatementLemmas.{value_no_comma}
use Rattle.meta_verify.proofs.CheckerLemmas.{says_no}
use Rattle.meta_verify.proofs.statement.read_values.Goals as goal

pub returns-in_default-clause-none : goal.returns-in_default-clause-none
returns-in_default-clause-none c = λ e vs can.
    refused IsValue value_text value_no_comma c.loop-piece.values.items vs c.in-Some.piece.now c.args.word.now _ _
    (says_no c.is_dash.result _ c.is_dash.ensures c.if-is_dash.false)
    c.loop-piece.invariant.named c.in-Some.ensures.steps c.in_default.ensures.none can

pub returns-clause-found : goal.returns-clause-found
returns-clause-found c = λ e. listed value_text _ _ _ c.loop-piece.invariant.named c.in-None.ensures.steps.0

pub loop-piece-preserved : goal.loop-piece-preserved
loop-piece-preserved c = record {
  known = rw c.in_ok-push.ensures.items
      (All-push IsValue c.loop-piece.values.items c.in-Some-parse_value.value c.loop-piece.invariant.known
      c.in-Some-parse_value.ensures.small);
  named = rw c.in_ok-push.ensures.items
      (one_more value_text c.loop-piece.values.items c.in-Some-parse_value.value _ _ _ _ c.loop-piece.invariant.named
      c.in-Some.ensures.steps c.in-Some-parse_value.ensures.some);
}
