use Rattle.std.proofs.Common.{◌≡◌, arith, ℕ, List, length, slice_get, ap, subst, sym, ◌∙◌}
use Rattle.std.proofs.lemmas.Result.{IfOk-from_err}
use Rattle.meta_inst.specs.Which.{First, Second}
use Rattle.meta_inst.specs.Controls.{controls_at}
use Rattle.meta_inst.specs.Content.{ctrl_number, control_numbers}
use Rattle.meta_inst.specs.Operands.{OperandList}
use Rattle.meta_gen.specs.Entries.{AreDescribed}
use Rattle.meta_gen.specs.declared.constraint.Constraint.{Constraint}
use Rattle.meta_gen.proofs.Derivations.{all_constrained}
use Rattle.meta_gen.proofs.Held.{control_held, free_held, entry_holds, is_list}
use Rattle.meta_gen.proofs.entries.entry_of.Goals as goal
use Rattle.meta_gen.proofs.entries.entry_of.Goals.{After-drop-list-2}

-- the variables that were read
numbers : (o given : OperandList) (read : List ℕ) → given ≡ o → read ≡ given.variables → read ≡ o.variables
numbers o given read e is = is ∙ ap (λ (x : OperandList). x.variables) e

pub type_set_offset-typeset_offset-requires-clause-controls : goal.type_set_offset-typeset_offset-requires-clause-controls
type_set_offset-typeset_offset-requires-clause-controls c = rw c.controls-controls.ensures c.requires.fits.controls

pub type_set_offset-typeset_offset-requires-clause-held : goal.type_set_offset-typeset_offset-requires-clause-held
type_set_offset-typeset_offset-requires-clause-held c =
    let f = c.requires.fits in
    rw c.controls-controls.ensures (control_held c.args.vars.now c.args.instruction.now.value_operands f.within
    (ctrl_number c.args.instruction.now.polymorphic_info) c.args.type_sets.now f.held f.is_control c.requires.registry f.variables
    f.controls First)

pub type_set_offset-second_offset-requires-clause-controls : goal.type_set_offset-second_offset-requires-clause-controls
type_set_offset-second_offset-requires-clause-controls c = rw c.controls-controls.ensures c.requires.fits.controls

pub type_set_offset-second_offset-requires-clause-held : goal.type_set_offset-second_offset-requires-clause-held
type_set_offset-second_offset-requires-clause-held c =
    let f = c.requires.fits in
    rw c.controls-controls.ensures (control_held c.args.vars.now c.args.instruction.now.value_operands f.within
    (ctrl_number c.args.instruction.now.polymorphic_info) c.args.type_sets.now f.held f.is_control c.requires.registry f.variables
    f.controls Second)

pub constraints_of-requires-clause-controls : goal.constraints_of-requires-clause-controls
constraints_of-requires-clause-controls c = rw c.controls-controls.ensures c.requires.fits.controls

pub constraints_of-requires-clause-held : goal.constraints_of-requires-clause-held
constraints_of-requires-clause-held c =
    let f = c.requires.fits in
    rw c.controls-controls.ensures (free_held c.args.vars.now c.args.instruction.now.value_operands f.within
    (ctrl_number c.args.instruction.now.polymorphic_info) c.args.type_sets.now f.held f.is_control c.requires.registry f.variables
    f.controls _ (numbers _ _ _ c.value_operands-operands.ensures c.variables.ensures))

pub constraints_of-requires-clause-constrained : goal.constraints_of-requires-clause-constrained
constraints_of-requires-clause-constrained c =
    let f = c.requires.fits in
    rw c.controls-controls.ensures (all_constrained c.args.vars.now c.args.instruction.now.value_operands f.within c.requires.registry
    f.variables (f.controls Second) (ctrl_number c.args.instruction.now.polymorphic_info) f.is_control f.good f.derived _
    (numbers _ _ _ c.value_operands-operands.ensures c.variables.ensures))

pub add_list-requires : goal.add_list-requires
add_list-requires c =
    let f = c.requires.fits in
    let count = c.in_ok-list.ensures.count in
    let variables =
    ap (length {A = ℕ}) (numbers c.args.instruction.now.value_operands _ _ c.value_operands-operands.ensures c.variables.ensures) in
    let list = ap (length {A = Constraint}) c.deref.ensures.value in
    let room = c.requires.room in
    let results = f.results in
    let values = f.values in
    omega arith

-- the constraints are those of the operands' variables
described : (c : After-drop-list-2)
    → AreDescribed c.args.vars.now (control_numbers c.args.instruction.now) c.args.type_sets.now c.in_ok-list.list.items
    c.args.instruction.now.value_operands.variables
described c =
    subst (AreDescribed c.args.vars.now (control_numbers c.args.instruction.now) c.args.type_sets.now c.in_ok-list.list.items)
    (numbers _ _ _ c.value_operands-operands.ensures c.variables.ensures)
    (rw c.controls-controls.ensures at c.in_ok-list.ensures)

pub returns-clause-holds : goal.returns-clause-holds
returns-clause-holds c =
    let f = c.requires.fits in
    entry_holds c.args.vars.now c.args.instruction.now.value_operands f.within c.requires.registry f.variables (f.controls Second)
    (ctrl_number c.args.instruction.now.polymorphic_info) c.args.type_sets.now c.in_ok-list.list.items
    (described c)
    _ c.add_list.new.constraints
    f.is_control f.good
    ((rw (c.controls-controls.ensures, c.value_operands-operands.ensures) at
    (c.flags_of-flags.ensures.flags c.args.vars.now c.requires.registry)) f.variables (f.controls Second) f.controls)
    (rw c.controls-controls.ensures at c.type_set_offset-typeset_offset.ensures)
    (rw c.controls-controls.ensures at c.type_set_offset-second_offset.ensures)
    (λ k x at. c.in_ok-constraint_offset.ensures.stands k x (ap (λ xs. slice_get xs k) c.deref.ensures.value ∙ at))

pub returns-clause-added : goal.returns-clause-added
returns-clause-added c =
    let f = c.requires.fits in
    record {
      control = controls_at c.args.vars.now (control_numbers c.args.instruction.now) First;
      is_control = f.is_control;
      list = c.deref.result.now;
      is_list = is_list c.args.vars.now c.args.instruction.now.value_operands f.within c.requires.registry f.variables (f.controls Second)
          (ctrl_number c.args.instruction.now.polymorphic_info) c.args.type_sets.now c.deref.result.now
          (subst (λ xs. AreDescribed c.args.vars.now (control_numbers c.args.instruction.now) c.args.type_sets.now xs
          c.args.instruction.now.value_operands.variables) (sym c.deref.ensures.value)
          (described c));
      made = c.in_ok-constraint_offset.ensures.made;
      offset = c.in_ok-constraint_offset.ensures.place;
    }

pub returns-clause-count : goal.returns-clause-count
returns-clause-count c =
    let f = c.requires.fits in
    let count = c.in_ok-list.ensures.count in
    let variables =
    ap (length {A = ℕ}) (numbers c.args.instruction.now.value_operands _ _ c.value_operands-operands.ensures c.variables.ensures) in
    let list = ap (length {A = Constraint}) c.deref.ensures.value in
    let most = c.in_ok-constraint_offset.ensures.count in
    let results = f.results in
    let values = f.values in
    omega arith

pub returns-in_err-list-clause-holds : goal.returns-in_err-list-clause-holds
returns-in_err-list-clause-holds c = IfOk-from_err c.from_residual.result _ c.from_residual.ensures.0

pub returns-in_err-list-clause-added : goal.returns-in_err-list-clause-added
returns-in_err-list-clause-added c = IfOk-from_err c.from_residual.result _ c.from_residual.ensures.0

pub returns-in_err-list-clause-stays : goal.returns-in_err-list-clause-stays
returns-in_err-list-clause-stays c = IfOk-from_err c.from_residual.result _ c.from_residual.ensures.0

pub returns-in_err-list-clause-count : goal.returns-in_err-list-clause-count
returns-in_err-list-clause-count c = IfOk-from_err c.from_residual.result _ c.from_residual.ensures.0

pub returns-in_err-constraint_offset-clause-holds : goal.returns-in_err-constraint_offset-clause-holds
returns-in_err-constraint_offset-clause-holds c =
    IfOk-from_err c.from_residual-in_err-constraint_offset.result _ c.from_residual-in_err-constraint_offset.ensures.0

pub returns-in_err-constraint_offset-clause-added : goal.returns-in_err-constraint_offset-clause-added
returns-in_err-constraint_offset-clause-added c =
    IfOk-from_err c.from_residual-in_err-constraint_offset.result _ c.from_residual-in_err-constraint_offset.ensures.0

pub returns-in_err-constraint_offset-clause-stays : goal.returns-in_err-constraint_offset-clause-stays
returns-in_err-constraint_offset-clause-stays c =
    IfOk-from_err c.from_residual-in_err-constraint_offset.result _ c.from_residual-in_err-constraint_offset.ensures.0

pub returns-in_err-constraint_offset-clause-count : goal.returns-in_err-constraint_offset-clause-count
returns-in_err-constraint_offset-clause-count c =
    IfOk-from_err c.from_residual-in_err-constraint_offset.result _ c.from_residual-in_err-constraint_offset.ensures.0
