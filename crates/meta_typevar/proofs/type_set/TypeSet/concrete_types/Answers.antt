use Rattle.std.proofs.Common.{◌≡◌, map, subst}
use Rattle.std.specs.Prelude.{IfOk}
use Rattle.meta_types.specs.ValueTypes.{type_parts_of}
use Rattle.meta_typevar.specs.TypeSetParts.{TypeSetParts, IsTypeSet}
use Rattle.meta_typevar.specs.Concrete.{types_in}
use Rattle.meta_typevar.proofs.MaskLemmas.{is_type_set}
use Rattle.meta_typevar.proofs.Listed.{listed_members, listed_once}
use Rattle.meta_typevar.proofs.type_set.TypeSet.concrete_types.Goals as goal

pub returns-clause-listed : goal.returns-clause-listed
returns-clause-listed c =
    subst (λ (s : TypeSetParts). IfOk c.concrete_types.result (λ v. map type_parts_of v.items ≡ types_in s))
    c.self.view_is c.concrete_types.ensures

pub returns-clause-members : goal.returns-clause-members
returns-clause-members c = listed_members c.args.self.now (subst IsTypeSet c.self.view_is (is_type_set c.self.inside.masks))

pub returns-clause-once : goal.returns-clause-once
returns-clause-once c = listed_once c.args.self.now (subst IsTypeSet c.self.view_is (is_type_set c.self.inside.masks))
