use Rattle.std.proofs.Common.{◌≡◌, ◌+◌, ◌<◌, ◌∙◌, ap, refl, arith, length, length-append}
use Rattle.meta_typevar.proofs.Growing.{kept_below, derived_added}
use Rattle.meta_typevar.proofs.Known.{derived_noted, both_stay}
use Rattle.meta_typevar.proofs.registry.TypeVars.add_derived.Goals as goal

pub invariant_of-self : goal.invariant_of-self
invariant_of-self c = both_stay _ _ _ _ c.in_err-push_both.ensures.content_stays c.in_err-push_both.ensures.children_stay c.self.invariant

pub invariant_of-self-2 : goal.invariant_of-self-2
invariant_of-self-2 c = (
  derived_added c.self.inside.contents.items c.args.self.now _ c.args.parent c.args.derived_func c.args.content
      c.self.view_is c.self.invariant.0 c.requires.derived c.masks-masks.ensures.sets c.requires.room c.requires.new
      c.in_ok-push_both.ensures.content,
  derived_noted c.self.inside.contents.items c.args.self.now _ c.self.inside.children.items _ _ c.args.parent _ _
      c.args.derived_func c.args.content _ _ _ c.self.view_is c.self.invariant.0 c.self.invariant.1 c.requires.derived
      c.requires.new c.in_ok-push_both.ensures.content refl c.in_ok-push_both.ensures.children c.index.ensures
      (c.number.ensures ∙ c.of-tv.ensures ∙ c.len.ensures
      ∙ c.self.inside.contents.ok.0) c.index_mut.ensures.value c.set.ensures.this c.set.ensures.others refl,
)

pub index_mut-requires : goal.index_mut-requires
index_mut-requires c =
    let below : c.args.parent < length c.args.self.now =
    kept_below c.args.self.now c.args.parent c.requires.derived.parent c.requires.derived.kept in
    let shown : length c.self.inside.contents.items ≡ length c.args.self.now = ap length c.self.view_is in
    let more : length c.push_both.new.children.items ≡ length c.self.inside.children.items + 1 =
    ap length c.in_ok-push_both.ensures.children ∙ length-append c.self.inside.children.items _ in
    omega (arith, below, shown, more, c.index.ensures, c.self.invariant.1.as_many, c.push_both.new.children.ok.0)
