use Rattle.std.proofs.Common.{◌+◌, ◌≤◌, length, take, sym, ap, ◌∙◌, subst}
use Rattle.std.proofs.lemmas.Result.{IfOk-weaker}
use Rattle.meta_lists.proofs.Results.{both_ok}
use Rattle.meta_setting_tables.specs.EnumeratorList.{with_values, values_at}
use Rattle.meta_setting_tables.specs.NumberedTexts.{texts_numbered, AreNumbersOfTexts}
use Rattle.meta_setting_tables.proofs.Enumerating.{numbered_still, texts_added, texts_kept_after, texts_stand, texts_most, texts_place}
use Rattle.meta_setting_tables.proofs.Enumerating.{texts_inside}
use Rattle.meta_setting_tables.proofs.enumerators.Enumerators.add.Goals as goal

pub invariant_of-self-2 : goal.invariant_of-self-2
invariant_of-self-2 c =
    let own = subst (AreNumbersOfTexts _ c.args.values.now) (sym c.as_slice.ensures.value) c.in_ok-numbers.ensures.numbers in
    numbered_still _ _ c.numbers_of.ensures.kept c.numbers_of.ensures.different _ c.self.invariant.within _ _ own c.add.result
    c.add.new.self c.add.ensures.made c.add.ensures.err

pub returns-clause-added : goal.returns-clause-added
returns-clause-added c =
    let own = subst (AreNumbersOfTexts _ c.args.values.now) (sym c.as_slice.ensures.value) c.in_ok-numbers.ensures.numbers in
    IfOk-weaker c.add.result _ _ (λ place made. texts_added _ _ c.numbers_of.ensures.kept c.numbers_of.ensures.different _
    c.self.invariant.within _ _ own c.add.new.self made ∙ ap (λ w. with_values w c.args.values.now) c.self.view_is) c.add.ensures.made

pub returns-clause-place : goal.returns-clause-place
returns-clause-place c =
    let own = subst (AreNumbersOfTexts _ c.args.values.now) (sym c.as_slice.ensures.value) c.in_ok-numbers.ensures.numbers in
    IfOk-weaker c.add.result _ _ (λ place at. texts_place _ _ c.numbers_of.ensures.kept c.numbers_of.ensures.different _
    c.self.invariant.within _ _ own place at ∙ ap (λ w. values_at w c.args.values.now) c.self.view_is) c.add.ensures.place

pub returns-clause-inside : goal.returns-clause-inside
returns-clause-inside c =
    let own = subst (AreNumbersOfTexts _ c.args.values.now) (sym c.as_slice.ensures.value) c.in_ok-numbers.ensures.numbers in
    IfOk-weaker c.add.result _ _ (λ place at. subst (λ w. place ≤ length w) c.self.view_is
    (texts_inside _ _ c.numbers_of.ensures.kept c.numbers_of.ensures.different _ c.self.invariant.within _ _ own place at))
    c.add.ensures.place

pub returns-clause-stand : goal.returns-clause-stand
returns-clause-stand c =
    let own = subst (AreNumbersOfTexts _ c.args.values.now) (sym c.as_slice.ensures.value) c.in_ok-numbers.ensures.numbers in
    both_ok c.add.result _ _ _ (λ place made stands. texts_stand _ _ c.numbers_of.ensures.kept c.numbers_of.ensures.different _
    c.self.invariant.within _ _ own c.add.new.self made place stands) c.add.ensures.made c.add.ensures.stands

pub returns-clause-kept : goal.returns-clause-kept
returns-clause-kept c =
    let own = subst (AreNumbersOfTexts _ c.args.values.now) (sym c.as_slice.ensures.value) c.in_ok-numbers.ensures.numbers in
    both_ok c.add.result _ _ _ (λ place made kept. ap (λ w. take (length w) (texts_numbered c.numbers_of.new.texts c.add.new.self))
    (sym c.self.view_is) ∙ texts_kept_after _ _ c.numbers_of.ensures.kept c.numbers_of.ensures.different _ c.self.invariant.within _ _
    own c.add.new.self made kept ∙ c.self.view_is) c.add.ensures.made c.add.ensures.kept

pub returns-clause-most : goal.returns-clause-most
returns-clause-most c =
    let own = subst (AreNumbersOfTexts _ c.args.values.now) (sym c.as_slice.ensures.value) c.in_ok-numbers.ensures.numbers in
    IfOk-weaker c.add.result _ _ (λ place made. subst (λ w. length (texts_numbered c.numbers_of.new.texts c.add.new.self)
    ≤ length w + length c.args.values.now) c.self.view_is
    (texts_most _ _ c.numbers_of.ensures.kept c.numbers_of.ensures.different _ c.self.invariant.within _ _ own c.add.new.self made))
    c.add.ensures.made
