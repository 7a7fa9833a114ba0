use Rattle.std.proofs.Common.{◌∙◌, inl, inr, ⊎_elim, refl, sym}
use Rattle.meta_program.proofs.Asked.{version_over}
use Rattle.meta_program.proofs.NotWrong.{no_truth}
use Rattle.meta_program.proofs.plan.asked_of_itself.Goals as goal

pub returns-then-begin_with_version : goal.returns-then-begin_with_version
returns-then-begin_with_version c =
    let same = version_over c.args.words.now c.args.over.now c.asked.result.now c.begin_with_version.result c.requires c.asked.ensures
    c.begin_with_version.ensures in
    inl (inl (same.0 c.if-begin_with_version.true), refl)

pub returns-then-end_options : goal.returns-then-end_options
returns-then-end_options c = inl (inr (c.end_options.ensures.0 c.if-end_options.true), refl)

pub returns : goal.returns
returns c =
    let same = version_over c.args.words.now c.args.over.now c.asked.result.now c.begin_with_version.result c.requires c.asked.ensures
    c.begin_with_version.ensures in
    inr (
      (λ work. ⊎_elim
          (λ asks. no_truth (sym c.if-begin_with_version.false ∙ same.1 asks))
          (λ ends. no_truth (sym c.if-end_options.false ∙ c.end_options.ensures.1 ends))
          work),
      c.of.ensures,
    )
