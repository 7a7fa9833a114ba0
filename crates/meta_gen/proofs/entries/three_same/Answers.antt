use Rattle.std.proofs.Common.{◌≡◌, [], refl, sym, ap, ◌∙◌}
use Rattle.std.proofs.lemmas.Result.{IfOk-from_err}
use Rattle.meta_unique.specs.Overlap.{least, greatest, added}
use Rattle.meta_gen.specs.ConstraintLists.{same_constraint, three_same}
use Rattle.meta_gen.proofs.Overlapping.{decides, made_is}
use Rattle.meta_gen.proofs.entries.three_same.Goals as goal

-- what is added to nothing is all
three_alone : added same_constraint [] three_same ≡ three_same
unfolding least greatest
three_alone = refl

pub add-requires : goal.add-requires
add-requires c = λ x y in_list same. (decides x y).1 (sym same)

pub returns : goal.returns
returns c = made_is c.new-constraints.result three_same c.add.new.self c.in_ok-add.ensures.made
    ∙ ap (λ old. added same_constraint old three_same) c.new-constraints.ensures ∙ three_alone

pub returns-in_err-add : goal.returns-in_err-add
returns-in_err-add c = IfOk-from_err c.from_residual.result _ c.from_residual.ensures.0
