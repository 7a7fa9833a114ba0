use Rattle.meta_typevar.specs.Registry.{sets_of, variable_at}
use Rattle.meta_inst.proofs.OneType.{one_told_of}
use Rattle.meta_inst.proofs.operands.has_one_type.Goals as goal

pub returns : goal.returns
returns c = rw c.is_some.ensures
    (one_told_of (sets_of c.args.vars.now) (variable_at c.args.vars.now c.root.result) _ _ c.root.ensures.underived
    c.root.ensures.root c.fixed_type.result c.fixed_type.ensures.found c.fixed_type.ensures.none)
