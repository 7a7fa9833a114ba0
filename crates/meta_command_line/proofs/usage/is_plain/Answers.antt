use Rattle.std.proofs.Common.{refl, ◌∙◌, sym}
use Rattle.meta_command_line.proofs.Numbers.{no_truth}
use Rattle.meta_command_line.proofs.Plain.{plain_at, plain_more, plain_all}
use Rattle.meta_command_line.proofs.usage.is_plain.Goals as goal

pub loop-byte-preserved : goal.loop-byte-preserved
loop-byte-preserved c =
    plain_more c.as_bytes-byte-items.result.now c.args.word.now c.loop-byte.byte-index c.as_bytes-byte-items.ensures c.loop-byte-test.true
    (c.is_plain_byte.ensures.0 c.if-not-is_plain_byte.false) c.loop-byte.invariant

pub returns-then-not-is_plain_byte : goal.returns-then-not-is_plain_byte
returns-then-not-is_plain_byte c = (
  λ t. absurd (no_truth t),
  λ plain.
      sym c.if-not-is_plain_byte.true
      ∙ c.is_plain_byte.ensures.1
      (plain_at c.as_bytes-byte-items.result.now c.args.word.now c.loop-byte.byte-index c.as_bytes-byte-items.ensures
      plain c.loop-byte-test.true),
)

pub returns : goal.returns
returns c = (
  λ t. plain_all c.as_bytes-byte-items.result.now c.args.word.now c.loop-byte.byte-index c.as_bytes-byte-items.ensures
      c.loop-byte-test.false c.loop-byte.invariant,
  λ plain. refl,
)
