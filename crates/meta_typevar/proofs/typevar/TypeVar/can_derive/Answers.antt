use Rattle.std.proofs.Common.{rules}
use Rattle.meta_typevar.proofs.typevar.TypeVar.can_derive.Goals as goal

pub returns : goal.returns
returns c = search rules
