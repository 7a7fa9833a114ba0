use Rattle.std.proofs.lemmas.Result.{on_ok_weaker}
use Rattle.meta_build.proofs.Needing.{adds_controlling, adds_derived, adds_fixed, adds_open, underived_by}
use Rattle.meta_build.proofs.needed.intern_operand.Goals as goal

pub returns-then-is_control : goal.returns-then-is_control
returns-then-is_control c = adds_controlling _ _ _ _ (c.is_control.ensures.0 c.if-is_control.true)

pub returns-then-is_some : goal.returns-then-is_some
returns-then-is_some c = adds_derived c.args.vars.now _ c.args.tv c.content.result.now _ c.is_some.result c.content.ensures.registry
    c.content.ensures.kept c.is_some.ensures c.if-is_some.true

pub returns-then-is_some-2 : goal.returns-then-is_some-2
returns-then-is_some-2 c =
    adds_fixed c.args.vars.now _ c.args.tv c.fixed_type.result _ c.fixed_type.ensures.found c.fixed_type.ensures.none c.is_some-2.ensures
    (underived_by c.args.vars.now c.args.tv c.content.result.now c.is_some.result c.content.ensures.registry c.content.ensures.kept
    c.is_some.ensures c.if-is_some.false)
    _ c.if-is_some-2.true

pub returns : goal.returns
returns c = on_ok_weaker _
    (adds_open c.args.vars.now _ c.args.tv c.fixed_type.result _ c.fixed_type.ensures.found c.fixed_type.ensures.none c.is_some-2.ensures
    (underived_by c.args.vars.now c.args.tv c.content.result.now c.is_some.result c.content.ensures.registry c.content.ensures.kept
    c.is_some.ensures c.if-is_some.false)
    _ _ _ c.if-is_some-2.false c.is_control.ensures c.if-is_control.false)
    c.intern_set.ensures
