use Rattle.std.proofs.Common.{◌≡◌, ◌↔◌, ℕ, Option, Some, IsTrue, sym, ◌∙◌, arith}
use Rattle.std.proofs.lemmas.Bool.{false≢true}
use Rattle.meta_inst.specs.Tables.{ControlNumberFits}
use Rattle.meta_inst.specs.Controls.{which_of}
use Rattle.meta_audit.specs.Comparison.{SameNumbers, paired}
use Rattle.meta_audit.proofs.Typed.{fitting_typed}
use Rattle.meta_audit.proofs.Deciding.{refused, granted, one_more, only_none, all_fitting}
use Rattle.meta_audit.proofs.places.Places.same_under_each.Goals as goal
use Rattle.meta_audit.proofs.places.Places.same_under_each.Goals.{else-control_fits-2-via-then-control_fits-2+else-not-same_beside}
use Rattle.meta_audit.proofs.places.Places.same_under_each.Goals.{else-control_fits-2-via-else-control_fits-2}

pub returns-then-control_fits : goal.returns-then-control_fits
returns-then-control_fits c =
    only_none c.args.self.own.now c.args.offset (λ (x : Option ℕ). SameNumbers c.args.self.own.now c.args.self.other.now
    (paired (which_of c.args.which) x c.args.beside) c.args.self.at c.args.self.other_at) (IsTrue c.same_beside.result)
    (c.control_fits.ensures.0 c.if-control_fits.true) c.same_beside.ensures

pub same_beside-requires-then-control_fits-2-clause-number : goal.same_beside-requires-then-control_fits-2-clause-number
same_beside-requires-then-control_fits-2-clause-number c =
    fitting_typed c.args.self.own.now c.args.offset (Some c.loop-n.n) (c.control_fits-in-loop-n.ensures.0 c.if-control_fits-2.true)

pub returns-then-not-same_beside : goal.returns-then-not-same_beside
returns-then-not-same_beside c =
    refused (λ all. false≢true (sym c.if-not-same_beside.true
    ∙ c.same_beside-then-control_fits-2.ensures.1
    (all (Some c.loop-n.n) (c.control_fits-in-loop-n.ensures.0 c.if-control_fits-2.true))))

pub loop-n-preserved : goal.loop-n-preserved
loop-n-preserved c = one_more (λ (m : ℕ). ControlNumberFits c.args.self.own.now c.args.offset (Some m)
    → SameNumbers c.args.self.own.now c.args.self.other.now (paired (which_of c.args.which) (Some m) c.args.beside) c.args.self.at
    c.args.self.other_at) 112 c.loop-n.n c.loop-n.invariant
    (λ fits. elim c.else-control_fits-2.branch [
      | else-control_fits-2-via-then-control_fits-2+else-not-same_beside w ↦
          w.same_beside-then-control_fits-2.ensures.0 w.if-not-same_beside.false
      | else-control_fits-2-via-else-control_fits-2 w ↦
          absurd (false≢true (sym w.if-control_fits-2.false ∙ c.control_fits-in-loop-n.ensures.1 fits))
    ])

pub returns : goal.returns
returns c =
    granted (all_fitting c.args.self.own.now c.args.offset
    (λ (x : Option ℕ). SameNumbers c.args.self.own.now c.args.self.other.now
    (paired (which_of c.args.which) x c.args.beside) c.args.self.at c.args.self.other_at)
    (λ fits. false≢true (sym c.if-control_fits.false ∙ c.control_fits.ensures.1 fits))
    (λ n low less fits. let past = c.loop-n-test.false in c.loop-n.invariant n low (omega (arith, less, past)) fits))
