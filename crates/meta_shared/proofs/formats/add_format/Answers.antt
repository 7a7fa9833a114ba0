use Rattle.std.proofs.Common.{subst, sym, ap}
use Rattle.std.proofs.lemmas.Result.{IfOk-from_err}
use Rattle.meta_operands.specs.declared.format.InstructionFormat.{InstructionFormat}
use Rattle.meta_shared.specs.Formats.{CanPlace}
use Rattle.meta_shared.proofs.Parts.{can_place}
use Rattle.meta_shared.proofs.formats.add_format.Goals as goal

pub designating-requires : goal.designating-requires
designating-requires c = subst (λ b. CanPlace b c.args.row.now.designated) (sym c.in_ok-builder.ensures)
    (can_place c.args.imm.now c.args.entities.now c.new-builder.result c.args.row.now
    (ap (λ (f : InstructionFormat). f.typevar_operand) c.new-builder.ensures) c.requires.row)

pub returns-in_err-new-clause-number : goal.returns-in_err-new-clause-number
returns-in_err-new-clause-number c = IfOk-from_err c.from_residual.result _ c.from_residual.ensures.0

pub returns-in_err-new-clause-added : goal.returns-in_err-new-clause-added
returns-in_err-new-clause-added c = IfOk-from_err c.from_residual.result _ c.from_residual.ensures.0

pub returns-in_err-builder-clause-number : goal.returns-in_err-builder-clause-number
returns-in_err-builder-clause-number c = IfOk-from_err c.from_residual-in_err-builder.result _ c.from_residual-in_err-builder.ensures.0

pub returns-in_err-builder-clause-added : goal.returns-in_err-builder-clause-added
returns-in_err-builder-clause-added c = IfOk-from_err c.from_residual-in_err-builder.result _ c.from_residual-in_err-builder.ensures.0
