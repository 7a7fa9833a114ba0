use Rattle.meta_typevar.proofs.Variables.{root_below, root_underived}
use Rattle.meta_typevar.proofs.typevar.TypeVar.root.Goals as goal

pub returns-clause-of : goal.returns-clause-of
returns-clause-of c = root_below _ _ _ c.content.ensures.registry c.content.ensures.kept

pub returns-clause-underived : goal.returns-clause-underived
returns-clause-underived c = root_underived _ _ _ c.content.ensures.registry c.content.ensures.kept
