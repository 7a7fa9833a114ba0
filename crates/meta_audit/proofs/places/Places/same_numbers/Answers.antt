use Rattle.std.proofs.Common.{◌≡◌, ◌↔◌, ℕ, arith}
use Rattle.meta_inst.specs.Which.{both}
use Rattle.meta_inst.specs.Tables.{PassesAt}
use Rattle.meta_audit.proofs.Typed.{same_numbers}
use Rattle.meta_audit.proofs.Deciding.{refused, granted, both_decide, both_differ, one_more, compared_equal, compared_other}
use Rattle.meta_audit.proofs.places.Places.same_numbers.Goals as goal

pub returns-then-operand_passes : goal.returns-then-operand_passes
returns-then-operand_passes c =
    refused (λ same. both_differ c.operand_passes.result c.operand_passes-in-loop-n.result c.operand_passes.ensures
    c.operand_passes-in-loop-n.ensures (compared_other _ _ c.if-operand_passes.true) (same c.loop-n.n))

pub loop-n-preserved : goal.loop-n-preserved
loop-n-preserved c =
    one_more (λ m. PassesAt c.args.self.own.now (both c.args.ctrl c.args.second) c.args.self.at m
    ↔ PassesAt c.args.self.other.now (both c.args.ctrl c.args.second) c.args.self.other_at m) 112 c.loop-n.n c.loop-n.invariant
    (both_decide c.operand_passes.result c.operand_passes-in-loop-n.result c.operand_passes.ensures c.operand_passes-in-loop-n.ensures
    (compared_equal _ _ c.if-operand_passes.false))

pub returns : goal.returns
returns c =
    granted (same_numbers c.args.self.own.now c.args.self.other.now c.requires.own c.requires.other c.args.ctrl c.args.second
    c.requires.ctrl c.requires.second c.args.self.at c.args.self.other_at
    (λ n low less. let past = c.loop-n-test.false in c.loop-n.invariant n low (omega (arith, less, past))))
