use Rattle.std.proofs.Common.{sym, ◌∙◌}
use Rattle.meta_inst.proofs.Meaning.{bad_second_told}
use Rattle.meta_inst.proofs.operands.Operands.has_bad_second.Goals as goal

pub returns-in-Some : goal.returns-in-Some
returns-in-Some c =
    bad_second_told c.args.vars.now c.args.self.now c.holds_with.ensures.within c.holds_with.ensures.registry c.requires.variables
    c.requires.second c.in-Some.s c.is_no_second.result (sym c.second.ensures ∙ c.in-Some.is)
    (rw c.variables.ensures at c.is_no_second.ensures)
