use Rattle.std.proofs.Common.{length, refl, arith}
use Rattle.std.proofs.lemmas.Option.{slice_get_read}
use Rattle.meta_rust_names.specs.Known.{known}
use Rattle.meta_rust_names.specs.Instructions.{instruction_refused}
use Rattle.meta_rust_names.proofs.Placed.{next_placed, no_placed}
use Rattle.meta_rust_names.proofs.instructions.push_instructions.Goals as goal

pub push_instruction-requires-clause-variables : goal.push_instruction-requires-clause-variables
push_instruction-requires-clause-variables c =
    c.requires c.loop-number.number c.index-instructions-number.result
    (slice_get_read c.args.instructions.now (length c.args.instructions.now) c.loop-number.number c.index-instructions-number.result refl
    (omega (arith, c.loop-number-test.true)) c.index-instructions-number.is)

pub loop-number-preserved : goal.loop-number-preserved
loop-number-preserved c =
    next_placed
    (instruction_refused (known c.args.others.now.formats) (known c.args.others.now.imm_methods) c.args.vars.now c.args.formats.now)
    c.args.instructions.now c.loop-number.number c.index-instructions-number.result _ _ _
    (omega (arith, c.loop-number-test.true)) c.index-instructions-number.is c.in_ok-push_instruction.ensures c.loop-number.invariant

pub returns : goal.returns
returns c =
    no_placed
    (instruction_refused (known c.args.others.now.formats) (known c.args.others.now.imm_methods) c.args.vars.now c.args.formats.now)
    c.args.instructions.now c.loop-number.number _ _
    (omega (arith, c.loop-number-test.false)) c.loop-number.invariant
