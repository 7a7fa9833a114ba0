use Rattle.std.proofs.Common.{arith}
use Rattle.meta_rust_text.specs.Arguments.{numbered_argument, numbered_arguments}
use Rattle.meta_rust_text.proofs.Pieces.{next_number, no_number}
use Rattle.meta_rust_text.proofs.arguments.push_numbered_arguments.Goals as goal

pub loop-number-preserved : goal.loop-number-preserved
loop-number-preserved c =
    next_number (numbered_argument c.args.stem.now c.args.ty.now) c.loop-number.number c.args.count _ _ _
    c.loop-number-test.true c.in_ok-push_numbered_argument.ensures c.loop-number.invariant

pub returns : goal.returns
unfolding numbered_arguments
returns c = no_number (numbered_argument c.args.stem.now c.args.ty.now) c.loop-number.number c.args.count _ _
    (omega (arith, c.loop-number-test.false)) c.loop-number.invariant
