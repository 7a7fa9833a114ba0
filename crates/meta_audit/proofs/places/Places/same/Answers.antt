use Rattle.std.proofs.Common.{sym, ◌∙◌}
use Rattle.std.proofs.lemmas.Bool.{false≢true}
use Rattle.meta_inst.specs.Which.{both}
use Rattle.meta_audit.proofs.Typed.{fitting_typed}
use Rattle.meta_audit.proofs.Crossing.{cross}
use Rattle.meta_audit.proofs.Deciding.{refused, granted}
use Rattle.meta_audit.proofs.OneForm.{one_form_passes}
use Rattle.meta_audit.proofs.places.Places.same.Goals as goal

pub returns-then-have_one_form : goal.returns-then-have_one_form
returns-then-have_one_form c =
    granted (λ x y f g. one_form_passes c.args.self.own.now c.args.self.other.now c.args.self.at c.args.self.other_at
    (c.have_one_form.ensures.0 c.if-have_one_form.true) (both x y))

pub same_under-requires-clause-beside : goal.same_under-requires-clause-beside
same_under-requires-clause-beside c =
    fitting_typed c.args.self.own.now c.args.second c.in-Some-some_control.beside c.in-Some-some_control.ensures.some

pub same_under-requires-2-clause-beside : goal.same_under-requires-2-clause-beside
same_under-requires-2-clause-beside c = fitting_typed c.args.self.own.now c.args.first c.in-Some.ctrl c.in-Some.ensures.some

pub returns-then-not-same_under : goal.returns-then-not-same_under
returns-then-not-same_under c =
    refused (λ all. false≢true (sym c.if-not-same_under.true
    ∙ c.same_under.ensures.1 (λ x f. all x c.in-Some-some_control.beside f c.in-Some-some_control.ensures.some)))

pub returns : goal.returns
returns c = (
  λ t. cross c.args.self.own.now c.args.self.other.now c.args.first c.args.second c.args.self.at c.args.self.other_at c.in-Some.ctrl
      c.in-Some-some_control.beside c.in-Some.ensures.some c.in-Some-some_control.ensures.some
      (c.same_under.ensures.0 c.if-not-same_under.false) (c.same_under-2.ensures.0 t),
  λ all. c.same_under-2.ensures.1 (λ x f. all c.in-Some.ctrl x c.in-Some.ensures.some f),
)
