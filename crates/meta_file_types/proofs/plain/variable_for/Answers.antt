use Rattle.std.proofs.Common.{◌∙◌, sym, ap, arith}
use Rattle.std.proofs.lemmas.Bool.{eqb-true, eq-eqb, false≢true}
use Rattle.meta_types.specs.TypeParts.{number_of}
use Rattle.meta_types.specs.ValueTypes.{type_parts_of}
use Rattle.meta_file_types.proofs.Known.{stands_at, stands_after, stands_nowhere}
use Rattle.meta_file_types.proofs.plain.variable_for.Goals as goal

pub returns-then-is_of-clause-found : goal.returns-then-is_of-clause-found
returns-then-is_of-clause-found c =
    let t = type_parts_of c.root-item.result.value_type in
    let u = type_parts_of c.args.value_type in
    stands_at c.args.plain.now c.loop-root.root-index c.root-item.result u c.loop-root-test.true c.root-item.is
    (c.numbers_differ.ensures t u (c.each_type_is_one_value.ensures.is_type c.root-item.result.value_type)
    (c.each_type_is_one_value.ensures.is_type c.args.value_type)
    (eqb-true (number_of t) (number_of u) (sym c.is_of.ensures ∙ c.if-is_of.true)))

pub loop-root-preserved : goal.loop-root-preserved
loop-root-preserved c = λ n s.
    let t = type_parts_of c.root-item.result.value_type in
    let u = type_parts_of c.args.value_type in
    stands_after c.args.plain.now c.loop-root.root-index c.root-item.result u n c.loop-root-test.true c.root-item.is
    (λ same. false≢true (sym c.if-is_of.false ∙ (c.is_of.ensures
    ∙ eq-eqb (number_of t) (number_of u) (ap number_of same)))) (c.loop-root.invariant n s)

pub returns-clause-none : goal.returns-clause-none
returns-clause-none c = λ n s.
    stands_nowhere c.args.plain.now c.loop-root.root-index (type_parts_of c.args.value_type) n
    (omega (arith, c.loop-root-test.false, c.loop-root.auto.root-index-end)) (c.loop-root.invariant n s)
