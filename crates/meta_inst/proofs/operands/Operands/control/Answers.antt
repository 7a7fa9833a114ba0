use Rattle.meta_inst.proofs.Meaning.{found_by_numbers, of_registry}
use Rattle.meta_inst.proofs.operands.Operands.control.Goals as goal

pub returns-clause-found : goal.returns-clause-found
returns-clause-found c =
    found_by_numbers c.args.vars.now c.args.self.now c.holds_with.ensures.within c.holds_with.ensures.registry c.requires.variables
    c.requires.second c.control_of.result
    (rw (c.designated.ensures, c.first.ensures) at c.control_of.ensures)

pub returns-clause-of_registry : goal.returns-clause-of_registry
returns-clause-of_registry c = λ v e.
    of_registry c.args.vars.now c.args.self.now c.holds_with.ensures.within c.holds_with.ensures.registry c.requires.variables
    c.requires.second c.control_of.result v
    (rw (c.designated.ensures, c.first.ensures) at c.control_of.ensures) e
