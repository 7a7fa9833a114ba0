use Rattle.meta_inst.specs.FoundControl.{control_number}
use Rattle.meta_inst.proofs.ControlLemmas.{both_are_of, number_is_of}
use Rattle.meta_inst.proofs.Derived.{first_bad_some, none_bad_none}
use Rattle.meta_inst.proofs.operands.Operands.bad_derivation.Goals as goal

pub first_bad-requires-clause-controls : goal.first_bad-requires-clause-controls
first_bad-requires-clause-controls c =
    rw (c.controls-controls.ensures, c.variable.ensures)
    (both_are_of c.args.vars.now (control_number c.args.control.now) c.args.self.now.second
    (number_is_of c.args.vars.now c.args.control.now c.requires.control) c.requires.second)

pub returns-clause-found : goal.returns-clause-found
returns-clause-found c =
    first_bad_some c.args.vars.now c.args.self.now c.holds_with.ensures.within c.holds_with.ensures.registry
    c.requires.variables c.requires.second c.args.control.now c.first_bad.result
    (rw (c.controls-controls.ensures, c.variable.ensures, c.variables.ensures) at c.first_bad.ensures.found)

pub returns-clause-none : goal.returns-clause-none
returns-clause-none c =
    none_bad_none c.args.vars.now c.args.self.now c.holds_with.ensures.within c.holds_with.ensures.registry
    c.requires.variables c.requires.second c.args.control.now c.first_bad.result
    (rw (c.controls-controls.ensures, c.variable.ensures, c.variables.ensures) at c.first_bad.ensures.none)
