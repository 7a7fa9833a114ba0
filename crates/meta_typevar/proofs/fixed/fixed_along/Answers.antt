use Rattle.std.proofs.Common.{◌∙◌, sym, arith}
use Rattle.std.proofs.lemmas.Bool.{false≢true}
use Rattle.meta_typevar.proofs.Fixing.{no_functions, along_none, nowhere_along_none, fixed_from_reaches, fixed_of_one, reaches_fixed}
use Rattle.meta_typevar.proofs.Fixing.{nowhere_from_other}
use Rattle.meta_typevar.proofs.fixed.fixed_along.Goals as goal

pub returns-then-is_empty-clause-found : goal.returns-then-is_empty-clause-found
returns-then-is_empty-clause-found c = along_none _ _ c.only_member.result
    (no_functions c.args.chain.now c.is_empty.result c.is_empty.ensures c.if-is_empty.true) c.only_member.ensures.found

pub returns-then-is_empty-clause-none : goal.returns-then-is_empty-clause-none
returns-then-is_empty-clause-none c = nowhere_along_none _ _ c.only_member.result
    (no_functions c.args.chain.now c.is_empty.result c.is_empty.ensures c.if-is_empty.true) c.only_member.ensures.none

pub returns-in_err-first-clause-none : goal.returns-in_err-first-clause-none
returns-in_err-first-clause-none c = rw (c.from_residual.ensures) (λ t h. c.in_err-first.ensures.none h.member h.inhabited)

pub returns-in_err-t-clause-none : goal.returns-in_err-t-clause-none
returns-in_err-t-clause-none c = rw (c.from_residual-in_err-t.ensures)
    (λ t h. c.in_err-t.ensures.none t (reaches_fixed _ _ t h _ c.in_ok-first.ensures.found))

pub returns-then-size-eq1-clause-found : goal.returns-then-size-eq1-clause-found
returns-then-size-eq1-clause-found c =
    fixed_of_one _ _ _ _ (c.size.ensures.one.0 c.if-size-eq1.true) c.in_ok-first.ensures.found c.in_ok-t.ensures.found

pub returns-then-not-all_reach-clause-none : goal.returns-then-not-all_reach-clause-none
returns-then-not-all_reach-clause-none c =
    nowhere_from_other _ _ _ _ c.in_ok-first.ensures.found c.in_ok-t.ensures.found
    (λ all. false≢true (sym c.if-not-all_reach.true ∙ c.all_reach.ensures.1 (λ r h _. all r h)))

pub returns-clause-found : goal.returns-clause-found
returns-clause-found c = fixed_from_reaches _ _ _ _ c.in_ok-first.ensures.found c.in_ok-t.ensures.found
    (λ r h. c.all_reach.ensures.0 c.if-not-all_reach.false r h (let least = c.in_ok-first.ensures.least r h in
    omega (arith, c.number.ensures, least)))
