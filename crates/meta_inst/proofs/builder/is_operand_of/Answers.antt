use Rattle.std.proofs.Common.{sym, ◌∙◌}
use Rattle.meta_inst.proofs.OperandsOf.{one_is_of}
use Rattle.meta_inst.proofs.builder.is_operand_of.Goals as goal

pub returns-in-Some : goal.returns-in-Some
returns-in-Some c =
    let one = one_is_of c.args.vars.now c.args.operand.now c.in-Some.tv (sym c.type_var.ensures ∙ c.in-Some.is) in
    ((λ e. one.1 (c.is_of.ensures.0 e)), (λ a. c.is_of.ensures.1 (one.0 a)))
