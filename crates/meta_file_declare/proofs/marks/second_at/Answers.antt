use Rattle.std.proofs.Common.{◌∙◌, sym, subst}
use Rattle.std.proofs.lemmas.Result.{err_from_is_err_and}
use Rattle.meta_file_syntax.specs.declared.insts.Mark.{Mark}
use Rattle.meta_file_types.specs.Registered.{Extends}
use Rattle.meta_file_types.specs.Held.{registered, Holds}
use Rattle.meta_file_types.proofs.Staying.{extends_same}
use Rattle.meta_file_declare.specs.Mentioned.{after_mark}
use Rattle.meta_file_declare.proofs.MadeOperands.{at_place}
use Rattle.meta_file_declare.proofs.Seconds.{same_second, second_twice, new_second, new_fails}
use Rattle.meta_file_declare.proofs.marks.second_at.Goals as goal

pub returns-in-Is-clause-extends : goal.returns-in-Is-clause-extends
returns-in-Is-clause-extends g c = λ mark at.
    let same = at_place c.args.marks.now c.args.place c.index-marks-place.result mark c.index-marks-place.is at in
    subst (λ (x : Mark). Extends (registered c.args.types.now g.said) (registered c.args.types.now (after_mark g.said x)))
    (sym c.in-Is.is ∙ same)
    (extends_same (registered c.args.types.now g.said))

pub returns-in_ok-type_var-in-Second-clause-means : goal.returns-in_ok-type_var-in-Second-clause-means
returns-in_ok-type_var-in-Second-clause-means g c = λ m mark before h at.
    let same = at_place c.args.marks.now c.args.place c.index-marks-place.result mark c.index-marks-place.is at in
    new_second (registered c.args.types.now g.said) g.said c.args.marks.now c.args.place mark m before at c.type_var.new.self c.args.second
    c.in-Second.means c.in_ok-type_var-in-Second.field-0 (sym same ∙ c.in-Second.is) c.if-is_some.ensures h
    c.in_ok-type_var-in-Second.ensures.means

pub returns-in_ok-type_var-in-Second-clause-holds : goal.returns-in_ok-type_var-in-Second-clause-holds
returns-in_ok-type_var-in-Second-clause-holds g c = λ mark at.
    let same = at_place c.args.marks.now c.args.place c.index-marks-place.result mark c.index-marks-place.is at in
    subst (λ (x : Mark). Holds c.type_var.new.self (after_mark g.said x)) (sym c.in-Second.is ∙ same)
    c.in_ok-type_var-in-Second.ensures.holds

pub returns-in_ok-type_var-in-Second-clause-extends : goal.returns-in_ok-type_var-in-Second-clause-extends
returns-in_ok-type_var-in-Second-clause-extends g c = λ mark at.
    let same = at_place c.args.marks.now c.args.place c.index-marks-place.result mark c.index-marks-place.is at in
    subst (λ (x : Mark). Extends (registered c.args.types.now g.said) (registered c.type_var.new.self (after_mark g.said x)))
    (sym c.in-Second.is ∙ same) c.in_ok-type_var-in-Second.ensures.extends

pub returns-in-Is-clause-means : goal.returns-in-Is-clause-means
returns-in-Is-clause-means g c = λ m mark before h at.
    let same = at_place c.args.marks.now c.args.place c.index-marks-place.result mark c.index-marks-place.is at in
    same_second (registered c.args.types.now g.said) g.said c.args.marks.now c.args.place mark m before at c.args.types.now c.args.second _
    (sym same ∙ c.in-Is.is) h

pub returns-in-Is-clause-holds : goal.returns-in-Is-clause-holds
returns-in-Is-clause-holds g c = λ mark at.
    let same = at_place c.args.marks.now c.args.place c.index-marks-place.result mark c.index-marks-place.is at in
    subst (λ (x : Mark). Holds c.args.types.now (after_mark g.said x)) (sym c.in-Is.is ∙ same) c.requires.0

pub returns-then-is_some-clause-means : goal.returns-then-is_some-clause-means
returns-then-is_some-clause-means g c = λ m mark before h at.
    let same = at_place c.args.marks.now c.args.place c.index-marks-place.result mark c.index-marks-place.is at in
    second_twice (registered c.args.types.now g.said) g.said c.args.marks.now c.args.place mark m before at c.args.second c.in-Second.means
    (sym same ∙ c.in-Second.is) c.if-is_some.ensures h

pub returns-in_err-type_var-in-Second-clause-means : goal.returns-in_err-type_var-in-Second-clause-means
returns-in_err-type_var-in-Second-clause-means g c = λ m mark before h at.
    let p = err_from_is_err_and c.from_residual.result c.from_residual.ensures.1 in
    let same = at_place c.args.marks.now c.args.place c.index-marks-place.result mark c.index-marks-place.is at in
    rw (p.1, p.2) (new_fails (registered c.args.types.now g.said) g.said c.args.marks.now c.args.place mark m before at c.args.second
    c.in-Second.means c.in_err-type_var-in-Second.field-0.0 (sym same ∙ c.in-Second.is) c.if-is_some.ensures h
    c.in_err-type_var-in-Second.ensures.means)
