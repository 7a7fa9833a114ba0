use Rattle.std.proofs.Common.{◌∙◌, ℕ, sym, subst}
use Rattle.std.specs.Prelude.{IfNone}
use Rattle.meta_program.specs.declared.plan.Over.{Over}
use Rattle.meta_program.specs.Wrong.{IsTooMany}
use Rattle.meta_program.proofs.NotWrong.{no_truth, none_too_many}
use Rattle.meta_program.proofs.wrong.too_many.Goals as goal

pub returns-else-are_version_more-clause-none : goal.returns-else-are_version_more-clause-none
returns-else-are_version_more-clause-none c =
    subst (λ (over : Over). IfNone c.then_some.result ((place : ℕ) → IsTooMany over place → ⊥)) (sym c.in-Shared.is)
    (none_too_many c.in-Shared.words.now c.are_check_rust_end_more.result c.then_some.result c.then_some.ensures
    c.are_check_rust_end_more.ensures
    (λ h. no_truth (sym c.if-are_check_more.false ∙ c.are_check_more.ensures.1 h))
    (λ h. no_truth (sym c.if-are_check_rust_more.false ∙ c.are_check_rust_more.ensures.1 h))
    (λ h. no_truth (sym c.if-are_check_end_more.false ∙ c.are_check_end_more.ensures.1 h))
    (λ h. no_truth (sym c.if-are_version_more.false ∙ c.are_version_more.ensures.1 h)))
