use Rattle.std.proofs.Common.{subst}
use Rattle.meta_typevar.specs.TypeSetParts.{IsTypeSet}
use Rattle.meta_typevar.proofs.MaskLemmas.{is_type_set}
use Rattle.meta_typevar.proofs.type_set.TypeSet.masks.Goals as goal

pub returns-clause-sets : goal.returns-clause-sets
returns-clause-sets c = subst IsTypeSet c.self.view_is (is_type_set c.self.inside.masks)
