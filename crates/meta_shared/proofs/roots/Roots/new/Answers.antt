use Rattle.std.proofs.Common.{◌∙◌, ◌+◌, length, subst, sym, ap, refl, arith}
use Rattle.std.proofs.lemmas.List.{length-append}
use Rattle.std.proofs.lemmas.Result.{IfOk-from_err}
use Rattle.meta_typevar.specs.Variable.{Variable}
use Rattle.meta_shared.specs.Formats.{AreNumbered}
use Rattle.meta_shared.specs.Roots.{IsRootWith, set_of_root}
use Rattle.meta_shared.proofs.Rooted.{vars_counted, mem_root, whole_numbers, number_named, roots_whole}
use Rattle.meta_shared.proofs.roots.Roots.new.Goals as goal

pub add_roots-requires-clause-rows : goal.add_roots-requires-clause-rows
add_roots-requires-clause-rows c = record { sets = refl; buildable = refl }

pub copy_from-requires-clause-room : goal.copy_from-requires-clause-room
copy_from-requires-clause-room c = omega (arith, vars_counted c.in_ok-found.ensures)

pub copy_from-requires-clause-of : goal.copy_from-requires-clause-of
copy_from-requires-clause-of c = (mem_root c.in_ok-found.ensures _ c.index-mem.ensures).of

pub copy_from-requires-clause-underived : goal.copy_from-requires-clause-underived
copy_from-requires-clause-underived c = ap (λ (v : Variable). v.chain) (mem_root c.in_ok-found.ensures _ c.index-mem.ensures).root

pub named-requires : goal.named-requires
named-requires c = ap length (c.deref.ensures.value ∙ c.in_ok-push.ensures.items)
    ∙ (whole_numbers c.in_ok-found.ensures _ c.in_ok-copy_from.ensures.number).count_is

pub returns-clause-numbers : goal.returns-clause-numbers
returns-clause-numbers c root =
    number_named _ root _ (subst (AreNumbered 0 50) (sym (c.deref.ensures.value ∙ c.in_ok-push.ensures.items))
    (whole_numbers c.in_ok-found.ensures _ c.in_ok-copy_from.ensures.number)) (c.named.ensures root)

pub returns-clause-roots : goal.returns-clause-roots
returns-clause-roots c root = subst (λ v. IsRootWith c.copy_from.new.vars v (set_of_root root)) (sym (returns-clause-numbers c root))
    (roots_whole c.in_ok-found.ensures _ _ _ (mem_root c.in_ok-found.ensures _ c.index-mem.ensures).set_is
    c.in_ok-copy_from.ensures.added root)

pub returns-clause-count : goal.returns-clause-count
returns-clause-count c = ap length c.in_ok-copy_from.ensures.added
    ∙ (length-append c.add_roots.new.vars _ ∙ ap (λ n. n + 1) (vars_counted c.in_ok-found.ensures))

pub returns-in_err-found-clause-numbers : goal.returns-in_err-found-clause-numbers
returns-in_err-found-clause-numbers c = IfOk-from_err c.from_residual.result _ c.from_residual.ensures.0

pub returns-in_err-found-clause-roots : goal.returns-in_err-found-clause-roots
returns-in_err-found-clause-roots c = IfOk-from_err c.from_residual.result _ c.from_residual.ensures.0

pub returns-in_err-found-clause-count : goal.returns-in_err-found-clause-count
returns-in_err-found-clause-count c = IfOk-from_err c.from_residual.result _ c.from_residual.ensures.0

pub returns-in_err-new-clause-numbers : goal.returns-in_err-new-clause-numbers
returns-in_err-new-clause-numbers c = IfOk-from_err c.from_residual-in_err-new.result _ c.from_residual-in_err-new.ensures.0

pub returns-in_err-new-clause-roots : goal.returns-in_err-new-clause-roots
returns-in_err-new-clause-roots c = IfOk-from_err c.from_residual-in_err-new.result _ c.from_residual-in_err-new.ensures.0

pub returns-in_err-new-clause-count : goal.returns-in_err-new-clause-count
returns-in_err-new-clause-count c = IfOk-from_err c.from_residual-in_err-new.result _ c.from_residual-in_err-new.ensures.0

pub returns-in_err-copy_from-clause-numbers : goal.returns-in_err-copy_from-clause-numbers
returns-in_err-copy_from-clause-numbers c =
    IfOk-from_err c.from_residual-in_err-copy_from.result _ c.from_residual-in_err-copy_from.ensures.0

pub returns-in_err-copy_from-clause-roots : goal.returns-in_err-copy_from-clause-roots
returns-in_err-copy_from-clause-roots c = IfOk-from_err c.from_residual-in_err-copy_from.result _ c.from_residual-in_err-copy_from.ensures.0

pub returns-in_err-copy_from-clause-count : goal.returns-in_err-copy_from-clause-count
returns-in_err-copy_from-clause-count c = IfOk-from_err c.from_residual-in_err-copy_from.result _ c.from_residual-in_err-copy_from.ensures.0

pub returns-in_err-push-clause-numbers : goal.returns-in_err-push-clause-numbers
returns-in_err-push-clause-numbers c = IfOk-from_err c.from_residual-in_err-push.result _ c.from_residual-in_err-push.ensures.0

pub returns-in_err-push-clause-roots : goal.returns-in_err-push-clause-roots
returns-in_err-push-clause-roots c = IfOk-from_err c.from_residual-in_err-push.result _ c.from_residual-in_err-push.ensures.0

pub returns-in_err-push-clause-count : goal.returns-in_err-push-clause-count
returns-in_err-push-clause-count c = IfOk-from_err c.from_residual-in_err-push.result _ c.from_residual-in_err-push.ensures.0
