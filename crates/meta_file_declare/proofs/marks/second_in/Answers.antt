use Rattle.std.proofs.Common.{◌∙◌, ◌+◌, List, sym, ap, refl, subst}
use Rattle.std.specs.Prelude.{None}
use Rattle.std.proofs.lemmas.Result.{err_from_is_err_and, IfOk-from_err}
use Rattle.meta_lists.proofs.Places.{get_there}
use Rattle.meta_file_syntax.specs.declared.insts.Mark.{Mark}
use Rattle.meta_file_types.specs.Said.{Said}
use Rattle.meta_file_types.specs.Registered.{Extends}
use Rattle.meta_file_types.specs.Held.{registered, Holds}
use Rattle.meta_file_types.proofs.Staying.{extends_same, extends_more}
use Rattle.meta_file_types.specs.Telling.{Fails}
use Rattle.meta_file_declare.specs.Insts.{second_of}
use Rattle.meta_file_declare.specs.Mentioned.{after_marks}
use Rattle.meta_file_declare.specs.Registered.{IsSecondIn}
use Rattle.meta_file_declare.proofs.Seconds.{fails_here, ended}
use Rattle.meta_file_declare.proofs.Mentioning.{marks_more, marks_all}
use Rattle.meta_file_declare.proofs.marks.second_in.Goals as goal

pub loop-place-init : goal.loop-place-init
loop-place-init g c = record {
  holds = c.requires;
  extends = extends_same (registered c.args.types.now g.said);
  so_far = record { meant = None; so_far = refl; is = tt };
}

pub loop-place-preserved : goal.loop-place-preserved
loop-place-preserved g c =
    let all = c.marks_in-marks.result.now in
    let there = get_there all c.loop-place.place c.loop-place-test.true in
    let so_far = c.loop-place.invariant.so_far in
    let more = marks_more g.said all c.loop-place.place there.0 there.1 in
    let m = c.in_ok-second.ensures.means so_far.meant there.0 so_far.so_far so_far.is there.1 in
    record {
      holds = subst (Holds c.second_at.new.types) more (c.in_ok-second.ensures.holds there.0 there.1);
      extends = subst (λ (s : Said). Extends (registered c.args.types.now g.said) (registered c.second_at.new.types s)) more
          (extends_more _ _ _ c.loop-place.invariant.extends (c.in_ok-second.ensures.extends there.0 there.1));
      so_far = record {
        meant = m.meaning;
        so_far = m.is;
        is = subst (λ (s : Said). IsSecondIn (registered c.second_at.new.types s) m.meaning c.in_ok-second.second) more m.by;
      };
    }

pub returns-in_err-second-clause-means : goal.returns-in_err-second-clause-means
returns-in_err-second-clause-means g c =
    let p = err_from_is_err_and c.from_residual.result c.from_residual.ensures.1 in
    let all = c.marks_in-marks.result.now in
    let there = get_there all c.loop-place.place c.loop-place-test.true in
    let so_far = c.loop-place.invariant.so_far in
    rw (p.1, p.2) (subst (λ (ms : List Mark). Fails c.in_err-second.field-0.0 (second_of g.said.words ms)) c.marks_in-marks.ensures
    (fails_here g.said.words all (c.loop-place.place + 1) c.in_err-second.field-0.0
    (c.in_err-second.ensures.means so_far.meant there.0 so_far.so_far so_far.is there.1)))

pub returns-in_err-second-clause-holds : goal.returns-in_err-second-clause-holds
returns-in_err-second-clause-holds g c = IfOk-from_err c.from_residual.result _ c.from_residual.ensures.0

pub returns-in_err-second-clause-extends : goal.returns-in_err-second-clause-extends
returns-in_err-second-clause-extends g c = IfOk-from_err c.from_residual.result _ c.from_residual.ensures.0

pub returns-clause-means : goal.returns-clause-means
returns-clause-means g c =
    let all = c.marks_in-marks.result.now in
    let same = marks_all g.said all c.loop-place.place c.loop-place-test.false ∙ ap (after_marks g.said) c.marks_in-marks.ensures in
    record {
      meaning = c.loop-place.invariant.so_far.meant;
      is = ap (second_of g.said.words) (sym c.marks_in-marks.ensures)
          ∙ ended g.said.words all c.loop-place.place _ c.loop-place-test.false c.loop-place.invariant.so_far;
      by = subst (λ (s : Said). IsSecondIn (registered c.loop-place.types s) c.loop-place.invariant.so_far.meant c.loop-place.second) same
          c.loop-place.invariant.so_far.is;
    }

pub returns-clause-holds : goal.returns-clause-holds
returns-clause-holds g c =
    subst (Holds c.loop-place.types)
    (marks_all g.said c.marks_in-marks.result.now c.loop-place.place c.loop-place-test.false
    ∙ ap (after_marks g.said) c.marks_in-marks.ensures) c.loop-place.invariant.holds

pub returns-clause-extends : goal.returns-clause-extends
returns-clause-extends g c =
    subst (λ (s : Said). Extends (registered c.args.types.now g.said) (registered c.loop-place.types s))
    (marks_all g.said c.marks_in-marks.result.now c.loop-place.place c.loop-place-test.false
    ∙ ap (after_marks g.said) c.marks_in-marks.ensures) c.loop-place.invariant.extends
