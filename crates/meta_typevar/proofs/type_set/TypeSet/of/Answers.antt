use Rattle.std.proofs.Common.{◌∙◌, sym, subst}
use Rattle.std.proofs.lemmas.Bool.{false≢true}
use Rattle.meta_typevar.specs.TypeSetParts.{IsTypeSet}
use Rattle.meta_typevar.proofs.MaskLemmas.{is_type_set, sets_held}
use Rattle.meta_typevar.proofs.type_set.TypeSet.of.Goals as goal

pub returns-then-not-are_of_types-clause-none : goal.returns-then-not-are_of_types-clause-none
returns-then-not-are_of_types-clause-none c = λ s h a. false≢true (sym c.if-not-are_of_types.true
    ∙ c.are_of_types.ensures.1 (sets_held s c.args.masks h a))

pub returns-clause-sets : goal.returns-clause-sets
returns-clause-sets c = subst IsTypeSet (sym c.from_masks.ensures) (is_type_set c.args.masks)
