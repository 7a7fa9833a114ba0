use Rattle.std.proofs.Common.{inl, inr, refl}
use Rattle.std.proofs.lemmas.Bool.{false≢true}
use Rattle.std.proofs.lemmas.Result.{on_ok_weaker}
use Rattle.meta_query_lines.proofs.AddedLemmas.{why_told}
use Rattle.meta_query_lines.proofs.ExplanationLemmas.{named_opcode}
use Rattle.meta_query_lines.proofs.why.push_why.Goals as goal

pub returns-in_default : goal.returns-in_default
returns-in_default c =
    on_ok_weaker c.push_text.result (λ e. (_, inr (rw c.name.ensures at c.in_default.ensures.none, refl), e)) c.push_text.ensures

pub push_explained_for-requires : goal.push_explained_for-requires
push_explained_for-requires c = rw c.in-Some-explained.is at c.in_ok-explained.ensures.types

pub returns-in-Some-explained : goal.returns-in-Some-explained
returns-in-Some-explained c =
    on_ok_weaker c.push_explained_for.result
    (λ e. (
      _,
      inl (why_told c.args.tables.now.opcodes _ c.args.question.now c.in-Some.opcode _ _ _ c.in-Some-explained.why
          (rw c.name.ensures at c.in-Some.ensures.found) c.controls.ensures.controls c.results.ensures c.values.ensures
          (rw (c.in-Some-explained.is, c.opcodes.ensures) at c.in_ok-explained.ensures.explained)),
      e,
    )) c.push_explained_for.ensures

pub returns-in-None : goal.returns-in-None
returns-in-None c =
    absurd (false≢true ((rw (c.in-None.is, c.opcodes.ensures) at c.in_ok-explained.ensures.opcode).1
    (named_opcode c.args.tables.now.opcodes c.in-Some.opcode _ c.opcode_count-count.ensures.named c.in-Some.ensures.found.holds)))
