use Rattle.std.proofs.Common.{◌∙◌, refl}
use Rattle.meta_typevar.proofs.Growing.{root_added}
use Rattle.meta_typevar.proofs.Known.{root_noted, both_stay}
use Rattle.meta_typevar.proofs.registry.TypeVars.add_root.Goals as goal

pub invariant_of-self : goal.invariant_of-self
invariant_of-self c = both_stay _ _ _ _ c.in_err-push_both.ensures.content_stays c.in_err-push_both.ensures.children_stay c.self.invariant

pub invariant_of-self-2 : goal.invariant_of-self-2
invariant_of-self-2 c = (
  root_added c.self.inside.contents.items c.args.self.now _ _ _ _ _ _ c.self.view_is c.self.invariant.0
      c.masks-masks.ensures.sets c.requires (c.of-tv.ensures ∙ c.len.ensures
      ∙ c.self.inside.contents.ok.0) c.new-chain.ensures c.in_ok-push_both.ensures.content,
  root_noted c.self.inside.contents.items _ c.self.inside.children.items _ _ _ c.self.invariant.0 c.self.invariant.1
      refl c.in_ok-push_both.ensures.content refl c.in_ok-push_both.ensures.children,
)
