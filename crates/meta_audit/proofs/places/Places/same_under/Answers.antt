use Rattle.std.proofs.Common.{sym, ◌∙◌}
use Rattle.std.proofs.lemmas.Bool.{false≢true}
use Rattle.meta_inst.specs.Controls.{which_of}
use Rattle.meta_audit.proofs.Typed.{fitting_typed}
use Rattle.meta_audit.proofs.Crossing.{ignores_unread, one_number}
use Rattle.meta_audit.proofs.places.Places.same_under.Goals as goal

pub same_beside-requires-clause-number : goal.same_beside-requires-clause-number
same_beside-requires-clause-number c = fitting_typed c.args.self.own.now c.args.offset c.args.number c.requires.fits

pub returns : goal.returns
returns c =
    let a = which_of c.args.which in (
      λ t x f. one_number a c.args.self.own.now c.args.self.other.now c.args.self.at c.args.self.other_at c.args.number c.args.beside
          (ignores_unread c.args.self.own.now c.args.self.at a (λ r. false≢true (sym c.if-reads_at.false ∙ c.reads_at.ensures.1 r)))
          (ignores_unread c.args.self.other.now c.args.self.other_at a (λ r. false≢true (sym c.if-reads_at-2.false
          ∙ c.reads_at-else-reads_at.ensures.1 r)))
          (c.same_beside.ensures.0 t) x,
      λ all. c.same_beside.ensures.1 (all c.args.number c.requires.fits),
    )
