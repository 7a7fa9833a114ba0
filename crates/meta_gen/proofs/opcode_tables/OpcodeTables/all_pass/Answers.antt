use Rattle.std.proofs.Common.{arith, sym, ◌∙◌}
use Rattle.std.proofs.lemmas.Bool.{false≢true}
use Rattle.std.proofs.lemmas.Option.{slice_get-get_or}
use Rattle.std.proofs.lemmas.Grind.{elements}
use Rattle.meta_gen.proofs.Reading.{refused, one_refused}
use Rattle.meta_gen.proofs.opcode_tables.OpcodeTables.all_pass.Goals as goal

pub loop-k-preserved : goal.loop-k-preserved
loop-k-preserved c = grind (arith, elements)

pub returns-then-not-passes_at : goal.returns-then-not-passes_at
returns-then-not-passes_at c =
    refused (one_refused _ _ _ _ c.loop-k.k _ (slice_get-get_or c.args.numbers.now c.loop-k.k 0 c.loop-k-test.true)
    (λ p. false≢true (sym c.if-not-passes_at.true ∙ c.passes_at.ensures.1 p)))

pub returns : goal.returns
returns c = grind (arith, elements)
