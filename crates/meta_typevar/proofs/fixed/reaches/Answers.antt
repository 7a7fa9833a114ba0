use Rattle.std.proofs.Common.{◌∙◌, ap, sym, subst, eq-eqb, eqb-true}
use Rattle.meta_types.specs.TypeParts.{number_of}
use Rattle.meta_types.specs.ValueTypes.{type_parts_of}
use Rattle.meta_types.proofs.Numbers.{one_number}
use Rattle.meta_types.proofs.Typed.{typed}
use Rattle.meta_typevar.specs.Chained.{functions_of}
use Rattle.meta_typevar.specs.Reaching.{Reaches}
use Rattle.meta_typevar.proofs.Fixing.{one_reached}
use Rattle.meta_typevar.proofs.fixed.reaches.Goals as goal

pub returns-in-Some : goal.returns-in-Some
returns-in-Some c = (
  λ e.
      let same = one_number (type_parts_of c.in-Some.x) (type_parts_of c.args.t) (typed c.in-Some.x) (typed c.args.t)
      (sym c.number.ensures ∙ eqb-true _ _ e ∙ c.number-in-Some.ensures) in
      subst (Reaches (functions_of c.args.chain.now) (type_parts_of c.args.r)) same c.in-Some.ensures.found,
  λ h. eq-eqb _ _ (c.number.ensures ∙ ap number_of (one_reached _ _ _ _ c.in-Some.ensures.found h) ∙ sym c.number-in-Some.ensures),
)
