use Rattle.std.proofs.lemmas.Result.{on_ok_weaker}
use Rattle.meta_inst.specs.Content.{ctrl_number}
use Rattle.meta_build.proofs.Needing.{adds_needed}
use Rattle.meta_build.proofs.needed.intern_instruction.Goals as goal

pub returns : goal.returns
returns c =
    on_ok_weaker _
    (adds_needed c.args.vars.now c.args.instruction.now.value_operands c.requires.within
    (ctrl_number c.args.instruction.now.polymorphic_info) c.requires.control c.requires.registry c.requires.variables
    c.requires.controls _ _ _ _
    (rw c.controls-controls.ensures at c.in_ok-intern_control.ensures)
    (rw c.controls-controls.ensures at c.in_ok-intern_control-2.ensures))
    (rw (c.controls-controls.ensures, c.variables.ensures, c.value_operands-operands.ensures) at c.intern_free.ensures)

pub intern_control-requires : goal.intern_control-requires
intern_control-requires c = rw c.controls-controls.ensures c.requires.controls

pub intern_control-requires-2 : goal.intern_control-requires-2
intern_control-requires-2 c = rw c.controls-controls.ensures c.requires.controls
