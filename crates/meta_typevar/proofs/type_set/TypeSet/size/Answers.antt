use Rattle.std.proofs.Common.{◌≡◌, ◌↔◌, ◌∙◌, ap, subst, sym, ℕ, arith}
use Rattle.meta_typevar.specs.TypeSetParts.{IsTypeSet, HasOne}
use Rattle.meta_typevar.proofs.MaskLemmas.{members, mask_members, few_bits, is_type_set}
use Rattle.meta_typevar.proofs.Size.{size_one}
use Rattle.meta_typevar.proofs.Listed.{length_in}
use Rattle.meta_typevar.proofs.type_set.TypeSet.size.Goals as goal

pub returns-clause-count : goal.returns-clause-count
returns-clause-count c = mask_members c.self.inside.masks c.self.invariant ∙ ap members c.self.view_is ∙ sym (length_in c.args.self.now)

pub returns-clause-one : goal.returns-clause-one
returns-clause-one c =
    let count = mask_members c.self.inside.masks c.self.invariant ∙ ap members c.self.view_is in
    let sets : IsTypeSet c.args.self.now = subst IsTypeSet c.self.view_is (is_type_set c.self.inside.masks) in
    subst (λ (n : ℕ). (n ≡ 1) ↔ HasOne c.args.self.now) (sym count) (size_one c.args.self.now sets)

pub overflow_add-widths : goal.overflow_add-widths
overflow_add-widths c =
    let few = few_bits c.self.inside.masks c.self.invariant in
    omega (arith, few.2, few.3)
