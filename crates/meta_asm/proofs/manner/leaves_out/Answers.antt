use Rattle.std.proofs.Common.{◌/◌, ◌%◌, ◌&&◌, Bool, sym, ap, ap₂, ◌∙◌, eq-eqb}
use Rattle.std.specs.List.{list_any}
use Rattle.meta_inst.specs.Tables.{no_type_set}
use Rattle.meta_gen.specs.Constraint.{number_constraint_of, entry_of}
use Rattle.meta_asm.specs.Manners.{is_control, value_constraints}
use Rattle.meta_asm.proofs.Writing.{any_map}
use Rattle.meta_asm.proofs.manner.leaves_out.Goals as goal

pub returns : goal.returns
returns c =
    let e = c.args.entry in
    let values = value_constraints c.args.tables.now.opcodes (entry_of e) in
    c.has_control.ensures ∙ sym (any_map is_control number_constraint_of c.value_constraints.result.now)
    ∙ ap (list_any is_control) c.value_constraints.ensures
    ∙ ap₂ (λ (a b : Bool). a && (b && list_any is_control values))
    (sym (eq-eqb (e.flags / 8 % 2) 1 (c.designated_controls.ensures.0 c.if-not-designated_controls.false)))
    (sym (eq-eqb e.second_offset no_type_set c.if-entry-ne-NO_TYPE_SET.false))
