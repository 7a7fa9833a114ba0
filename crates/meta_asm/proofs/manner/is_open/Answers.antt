use Rattle.std.proofs.Common.{◌≡◌, sym, ap, ◌∙◌}
use Rattle.meta_types.specs.DerivedFunc.{function_of}
use Rattle.meta_inst.specs.Controls.{which_of}
use Rattle.meta_inst.specs.Tables.{ByNumber}
use Rattle.meta_gen.specs.Constraint.{number_constraint_of}
use Rattle.meta_gen.specs.Demand.{number_constraint_demanded}
use Rattle.meta_asm.specs.Manners.{is_open}
use Rattle.meta_asm.proofs.Determined.{relation_test}
use Rattle.meta_asm.proofs.manner.is_open.Goals as goal

pub returns-in-By : goal.returns-in-By
returns-in-By c =
    let f = function_of c.in-By.derived_func in
    let is : number_constraint_of c.args.constraint ≡ ByNumber (which_of c.in-By.field-0) f =
    sym c.demanded.ensures ∙ ap number_constraint_demanded c.in-By.is in
    relation_test c.is_relation.result f c.is_relation.ensures ∙ sym (ap is_open is)
