use Rattle.std.proofs.Common.{◌≡◌, subst}
use Rattle.std.specs.Prelude.{IsOkAnd}
use Rattle.meta_typevar.specs.TypeSetParts.{TypeSetParts}
use Rattle.meta_typevar.proofs.Variables.{coded_kept}
use Rattle.meta_typevar.proofs.typevar.TypeVar.get_typeset.Goals as goal

pub returns : goal.returns
returns c = subst (λ (x : TypeSetParts). IsOkAnd c.coded.result (λ s. s ≡ x))
    (coded_kept _ _ _ c.content.ensures.registry c.content.ensures.kept) c.coded.ensures
