use Rattle.std.proofs.Common.{sym, ◌∙◌}
use Rattle.std.proofs.lemmas.Bool.{false≢true}
use Rattle.meta_inst.proofs.Derived.{root_not_bad, step_not_bad, other_bad}
use Rattle.meta_inst.proofs.operands.is_badly_derived.Goals as goal

pub returns-in_default : goal.returns-in_default
returns-in_default c = root_not_bad c.args.vars.now c.content.ensures.registry c.args.controls.now c.args.tv c.content.result.now
    c.content.ensures.kept c.in_default.is

pub returns-then-is_control : goal.returns-then-is_control
returns-then-is_control c = step_not_bad c.args.vars.now c.content.ensures.registry c.args.controls.now c.args.tv c.content.result.now
    c.content.ensures.kept c.in-Some.parent c.in-Some.is (c.is_control.ensures.0 c.if-is_control.true)

pub returns : goal.returns
returns c =
    other_bad c.args.vars.now c.content.ensures.registry c.args.controls.now c.args.tv c.content.result.now c.content.ensures.kept
    c.in-Some.parent c.in-Some.is
    (λ h. false≢true (sym c.if-is_control.false ∙ c.is_control.ensures.1 h))
    c.requires.controls c.fixed_type.result c.fixed_type.ensures.found c.fixed_type.ensures.none c.is_none.result c.is_none.ensures
