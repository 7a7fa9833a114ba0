use Rattle.std.proofs.Common.{◌∙◌, sym, subst}
use Rattle.meta_types.specs.TypeParts.{TypeParts}
use Rattle.meta_types.specs.ValueTypes.{type_parts_of}
use Rattle.meta_types.proofs.Numbers.{one_number}
use Rattle.meta_typevar.specs.Chained.{functions_of}
use Rattle.meta_typevar.specs.Reaching.{Reaches}
use Rattle.meta_typevar.proofs.fixed.member_reaches.Goals as goal

pub returns-in-Some : goal.returns-in-Some
returns-in-Some c =
    let found = c.in-Some.ensures.found in (
      λ t r h e. subst (λ (x : TypeParts). Reaches (functions_of c.args.chain.now) x (type_parts_of c.args.t))
          (one_number (type_parts_of c.in-Some.r) r found.0.is_type h.is_type (found.1 ∙ sym e)) (c.reaches.ensures.0 t),
      λ all. c.reaches.ensures.1 (all (type_parts_of c.in-Some.r) found.0 found.1),
    )
