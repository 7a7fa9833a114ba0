use Rattle.meta_typevar.proofs.Numbers.{contained}
use Rattle.meta_typevar.proofs.type_set.TypeSet.contains.Goals as goal

pub returns : goal.returns
returns c = contained c.self.inside.masks c.args.self.now c.args.t c.number.result c.contains.result c.number.ensures
    c.self.view_is c.contains.ensures
