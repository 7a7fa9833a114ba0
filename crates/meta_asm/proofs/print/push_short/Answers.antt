use Rattle.std.proofs.Common.{sym, subst, string_bytes}
use Rattle.meta_verify.specs.Numbers.{stated}
use Rattle.meta_asm.specs.ShortWritten.{AddsShort}
use Rattle.meta_asm.proofs.Writing.{adds_parameter}
use Rattle.meta_asm.proofs.print.push_short.Goals as goal

pub returns-in_ok-push_parameter-in-Parameter-clause-written :
    goal.returns-in_ok-push_parameter-in-Parameter-clause-written
returns-in_ok-push_parameter-in-Parameter-clause-written c = λ e.
    let old = string_bytes c.args.out.now in
    let new = string_bytes c.push_parameter.new.out in
    subst (λ s. AddsShort c.args.tables.now.opcodes (stated s) old new) (sym c.in-Parameter.is)
    (adds_parameter c.args.tables.now.opcodes c.in-Parameter.parameter old new c.in_ok-push_parameter-in-Parameter.ensures)
