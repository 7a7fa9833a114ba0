use Rattle.std.proofs.Common.{◌∙◌, ap, sym, subst, List, rules}
use Rattle.std.specs.Prelude.{IfNone}
use Rattle.meta_types.specs.Function.{Function}
use Rattle.meta_typevar.specs.TypeSetParts.{TypeSetParts}
use Rattle.meta_typevar.specs.Chain.{IsFixedNowhere}
use Rattle.meta_typevar.specs.Chained.{functions_of}
use Rattle.meta_typevar.specs.Variable.{Variable}
use Rattle.meta_typevar.specs.Registry.{set_at, sets_of, variable_at}
use Rattle.meta_typevar.proofs.Variables.{kept_variable}
use Rattle.meta_typevar.proofs.typevar.TypeVar.fixed_type.Goals as goal

pub returns-clause-none : goal.returns-clause-none
returns-clause-none c =
    let set = sym (ap set_at c.content.ensures.kept) ∙ ap (sets_of c.args.vars.now) c.root.ensures.root in
    let chain = c.as_slice.ensures
    ∙ sym (ap (λ (v : Variable). v.chain) (kept_variable c.args.vars.now c.args.self _ c.content-2.ensures.kept)) in
    let at_set = subst (λ (s : TypeSetParts). IfNone c.fixed_along.result
    (IsFixedNowhere s (functions_of c.as_slice.result.now))) set c.fixed_along.ensures.none in
    subst (λ (fs : List Function). IfNone c.fixed_along.result
    (IsFixedNowhere (sets_of c.args.vars.now (variable_at c.args.vars.now c.args.self).root) fs)) chain at_set

pub returns-clause-found : goal.returns-clause-found
returns-clause-found c = search rules
