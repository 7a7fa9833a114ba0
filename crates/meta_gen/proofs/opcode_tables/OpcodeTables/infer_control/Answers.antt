use Rattle.std.proofs.Common.{refl}
use Rattle.meta_gen.proofs.Inferring.{designated_typed}
use Rattle.meta_gen.proofs.opcode_tables.OpcodeTables.infer_control.Goals as goal

pub returns-then-set_contains-clause-meaning : goal.returns-then-set_contains-clause-meaning
returns-then-set_contains-clause-meaning c = λ d typed of control second rs vs allows.
    designated_typed d _ _ _ control second rs vs typed of c.in_ok-entry.ensures.entry
    (c.designated_controls.ensures.0 c.if-designated_controls.true) allows

pub returns-then-set_contains-clause-some : goal.returns-then-set_contains-clause-some
returns-then-set_contains-clause-some c = (
  λ some. record {
    entry = _;
    is_opcode = c.in_ok-entry.ensures.entry;
    designated = c.designated_controls.ensures.0 c.if-designated_controls.true;
    contains = c.set_contains.ensures.0 c.if-set_contains.true;
  },
  λ infers. refl,
)
