use Rattle.meta_inst.proofs.Meaning.{designated_told}
use Rattle.meta_inst.proofs.operands.Operands.polymorphic_info.Goals as goal

pub returns-in-By-clause-designated : goal.returns-in-By-clause-designated
returns-in-By-clause-designated c =
    designated_told c.args.vars.now c.args.self.now c.holds_with.ensures.within c.holds_with.ensures.registry
    c.requires.variables c.requires.second c.in-By.v c.is_designated.result
    (c.requires.control c.in-By.v c.in-By.is) c.is_designated.ensures
