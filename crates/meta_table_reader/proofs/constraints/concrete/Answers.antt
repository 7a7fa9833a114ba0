use Rattle.std.proofs.Common.{◌++◌, codes, refl, ap, ◌∙◌}
use Rattle.meta_types.specs.TypeNumber.{type_with}
use Rattle.meta_inst.specs.Tables.{ConcreteNumber}
use Rattle.meta_table_reader.proofs.TypesRead.{capitals, capitals_lack_parenthesis}
use Rattle.meta_table_reader.proofs.ConstraintLines.{concrete_opened}
use Rattle.meta_table_reader.proofs.constraints.concrete.Goals as goal

pub returns : goal.returns
returns c = λ n rest shown e.
    let t = type_with n in
    let (read, left) = c.until-name.ensures.item (capitals t) (codes "),\n" ++ rest) (capitals_lack_parenthesis t shown.is_type) refl (e
    ∙ concrete_opened n rest shown) in
    (ap ConcreteNumber (c.in_ok-number.ensures t shown.is_type read ∙ shown.numbered), c.pass.ensures.item rest left)
