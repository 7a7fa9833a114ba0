use Rattle.std.proofs.Common.{⊎_elim, Contains, sym, ◌∙◌, subst, arith}
use Rattle.std.proofs.lemmas.Bool.{false≢true, cases_eq}
use Rattle.meta_typevar.specs.Masks.{ContainsNumber}
use Rattle.meta_explain.proofs.Least.{any_contains}
use Rattle.meta_explain.proofs.sets.are_all_among.Goals as goal
use Rattle.meta_explain.proofs.sets.are_all_among.Goals.{else-contains-via-then-contains+else-not-contains, else-contains-via-else-contains}

pub loop-number-preserved : goal.loop-number-preserved
loop-number-preserved c =
    let ns = c.args.numbers.now in
    let last = c.loop-number.number-counter in
    let here : ContainsNumber c.args.masks last → Contains ns last =
    elim c.else-contains.branch [
      | else-contains-via-then-contains+else-not-contains w ↦ λ held. any_contains ns last
          (sym w.contains-then-contains.ensures.value ∙ w.if-not-contains.false)
      | else-contains-via-else-contains w ↦ λ held. absurd (false≢true (sym w.if-contains.false ∙ c.contains.ensures.1 held))
    ] in
    λ n low below held. ⊎_elim
    (λ same. subst (Contains ns) (sym same) (here (subst (ContainsNumber c.args.masks) same held)))
    (λ other. c.loop-number.invariant n low (omega (arith, below, other)) held)
    (cases_eq n last)
