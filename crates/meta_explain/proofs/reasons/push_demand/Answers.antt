use Rattle.std.proofs.Common.{◌++◌, string_bytes, codes, Contains, ap, ap₂, ◌∙◌, subst}
use Rattle.std.proofs.lemmas.Result.{on_ok_weaker}
use Rattle.meta_lists.proofs.Joined.{where_ok}
use Rattle.meta_gen.specs.Demand.{number_constraint_demanded}
use Rattle.meta_gen.specs.declared.constraint.Demand.TheVariants.{Number, OfSet, Controlling, By}
use Rattle.meta_explain.proofs.SetTexts.{concrete_typed, demanded}
use Rattle.meta_explain.proofs.reasons.push_demand.Goals as goal

pub push_type-requires : goal.push_type-requires
push_type-requires c =
    let t = c.args.tables.now in
    concrete_typed t c.opcode_count-count.ensures.well_formed c.in-Number.number
    (subst (λ d. Contains t.operand_constraints (number_constraint_demanded d)) c.in-Number.is c.requires)

pub returns-in-Number : goal.returns-in-Number
returns-in-Number c = on_ok_weaker c.push_type.result
    (demanded c.args.tables.now.type_sets c.args.demand (Number c.in-Number.number) (string_bytes c.args.out.now)
    (string_bytes c.push_type.new.out) c.in-Number.is) c.push_type.ensures

pub push_free-requires : goal.push_free-requires
push_free-requires c = subst (λ d. Contains c.args.tables.now.operand_constraints (number_constraint_demanded d)) c.in-OfSet.is c.requires

pub returns-in-OfSet : goal.returns-in-OfSet
returns-in-OfSet c = on_ok_weaker c.push_free.result
    (demanded c.args.tables.now.type_sets c.args.demand (OfSet c.in-OfSet.set) (string_bytes c.args.out.now)
    (string_bytes c.push_free.new.out) c.in-OfSet.is) c.push_free.ensures

pub returns-in-Controlling : goal.returns-in-Controlling
returns-in-Controlling c =
    let old = string_bytes c.args.out.now in
    on_ok_weaker c.push_str.result
    (λ e. demanded c.args.tables.now.type_sets c.args.demand (Controlling c.in-Controlling.which) old (string_bytes c.push_str.new.self)
    c.in-Controlling.is (e ∙ ap (λ x. old ++ x) c.letter.ensures))
    (where_ok c.push_str.result old c.letter.result.now c.push_str.ensures.bytes)

pub returns-in-By : goal.returns-in-By
returns-in-By c =
    let old = string_bytes c.args.out.now in
    on_ok_weaker c.write.result
    (λ e. demanded c.args.tables.now.type_sets c.args.demand (By c.in-By.which c.in-By.derived_func) old (string_bytes c.write.new.self)
    c.in-By.is (e ∙ ap₂ (λ name letter. old ++ (name ++ (codes "(" ++ (letter ++ codes ")")))) c.name-function.ensures
    c.letter-control.ensures))
    c.write.ensures.bytes
