use Rattle.std.proofs.Common.{◌≡◌, ◌<◌, sym, subst, refl, ap, ◌∙◌, arith, length}
use Rattle.std.specs.Prelude.{List, slice_get, slice_index_or, Some}
use Rattle.std.proofs.lemmas.Option.{slice_get_read}
use Rattle.meta_typevar.specs.Children.{IsChild}
use Rattle.meta_typevar.specs.declared.content.TypeVarContent.{TypeVarContent}
use Rattle.meta_typevar.proofs.registry.TypeVars.find.Goals as goal

pub returns-in-None-clause-none : goal.returns-in-None-clause-none
returns-in-None-clause-none c = λ m h.
    let is = c.self.view_is in
    let known = c.self.invariant.1 in
    let child = subst (λ (v : List TypeVarContent). IsChild v c.args.tv c.args.derived_func m) (sym is) h in
    let shown : length c.self.inside.contents.items ≡ length c.args.self.now = λ i. length (is i) in
    let below : c.args.tv < length c.self.inside.children.items = omega (arith, c.requires, known.as_many, shown) in
    let at : slice_get c.self.inside.children.items c.args.tv ≡ Some c.index-2.result.now =
    slice_get_read c.self.inside.children.items (length c.self.inside.children.items) c.args.tv c.index-2.result.now
    refl below (c.index-2.ensures ∙ ap (λ k. slice_index_or c.self.inside.children.items k c.index-2.result.now) c.index.ensures) in
    let noted = known.complete c.args.tv m c.index-2.result.now c.args.derived_func at child in
    (cc)
