use Rattle.std.proofs.Common.{◌++◌, sym, ap, ap₂, ◌∙◌, codes, string_bytes}
use Rattle.std.proofs.lemmas.Result.{on_ok_weaker}
use Rattle.meta_gen.specs.Demand.{number_constraint_demanded}
use Rattle.meta_table_text.specs.ConstraintText.{constraint_text}
use Rattle.meta_table_text.proofs.constraint_text.push_constraint_text.Goals as goal

pub returns-in_ok-text-in-Number : goal.returns-in_ok-text-in-Number
returns-in_ok-text-in-Number c =
    let is = ap (λ d. constraint_text (number_constraint_demanded d)) (sym c.in-Number.is) ∙ ap constraint_text c.demanded.ensures in
    on_ok_weaker c.write.result
    (λ e. e ∙ ap (λ t. string_bytes c.args.out.now ++ (codes "Concrete(" ++ (t ++ codes ")"))) (c.as_str-name.ensures ∙ c.in_ok-text-in-Number.ensures)
    ∙ ap (λ t. string_bytes c.args.out.now ++ t) is)
    c.write.ensures.bytes

pub returns-in-OfSet : goal.returns-in-OfSet
returns-in-OfSet c =
    let is = ap (λ d. constraint_text (number_constraint_demanded d)) (sym c.in-OfSet.is) ∙ ap constraint_text c.demanded.ensures in
    on_ok_weaker c.write-in-OfSet.result (λ e. e ∙ ap (λ t. string_bytes c.args.out.now ++ t) is) c.write-in-OfSet.ensures.bytes

pub returns-in-Controlling : goal.returns-in-Controlling
returns-in-Controlling c =
    let is = ap (λ d. constraint_text (number_constraint_demanded d)) (sym c.in-Controlling.is) ∙ ap constraint_text c.demanded.ensures in
    on_ok_weaker c.write-in-Controlling.result
    (λ e. e ∙ ap (λ mark. string_bytes c.args.out.now ++ (codes "Same" ++ mark)) c.control_mark-mark.ensures
    ∙ ap (λ t. string_bytes c.args.out.now ++ t) is)
    c.write-in-Controlling.ensures.bytes

pub returns-in-By : goal.returns-in-By
returns-in-By c =
    let is = ap (λ d. constraint_text (number_constraint_demanded d)) (sym c.in-By.is) ∙ ap constraint_text c.demanded.ensures in
    on_ok_weaker c.write-in-By.result
    (λ e. e ∙ ap₂ (λ name mark. string_bytes c.args.out.now ++ (name ++ mark)) c.camel_name-function.ensures c.control_mark-mark-in-By.ensures
    ∙ ap (λ t. string_bytes c.args.out.now ++ t) is)
    c.write-in-By.ensures.bytes
