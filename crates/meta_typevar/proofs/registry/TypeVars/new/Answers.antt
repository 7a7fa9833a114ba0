use Rattle.std.proofs.Common.{subst, sym, []}
use Rattle.std.specs.Prelude.{List}
use Rattle.meta_typevar.specs.Registry.{IsRegistry}
use Rattle.meta_typevar.specs.Children.{AreKnown}
use Rattle.meta_typevar.specs.declared.children.Children.{Children}
use Rattle.meta_typevar.specs.declared.content.TypeVarContent.{TypeVarContent}
use Rattle.meta_typevar.proofs.Growing.{empty_registry}
use Rattle.meta_typevar.proofs.Known.{known_empty}
use Rattle.meta_typevar.proofs.registry.TypeVars.new.Goals as goal

pub invariant_of-result : goal.invariant_of-result
invariant_of-result c =
    let known = subst (λ (v : List TypeVarContent). AreKnown v []) (sym c.new.ensures.items) known_empty in (
      subst IsRegistry (sym c.new.ensures.items) empty_registry,
      subst (λ (k : List Children). AreKnown c.new.result.items k) (sym c.new-2.ensures.items) known,
    )
