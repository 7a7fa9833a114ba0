-- Chains at their ends. Of types and chains alone.
use Rattle.std.proofs.Common.{List, [], ◌∷◌, ◌++◌, refl, sym, subst}
use Rattle.meta_types.specs.TypeParts.{TypeParts, IsType}
use Rattle.meta_types.specs.Function.{Function, StepsTypes}
use Rattle.meta_typevar.specs.Chain.{Agrees}

-- the last function of a chain leads on from where the rest leads to
pub agrees_to_end : (fs : List Function) (f : Function) (r t : TypeParts) → Agrees (fs ++ f ∷ []) r t
    → (u : TypeParts) × Agrees fs r u × StepsTypes f u t
agrees_to_end [] f r t (u, s, e) = (r, refl, subst (λ x. StepsTypes f r x) (sym e) s)
agrees_to_end (g ∷ fs) f r t (u, s, h) = let (v, a, b) = agrees_to_end fs f u t h in (v, (u, s, a), b)

-- where the rest of a chain leads to, its last function leads on from there
pub agrees_from_end : (fs : List Function) (f : Function) (r u t : TypeParts) → Agrees fs r u → StepsTypes f u t → Agrees (fs ++ f ∷ []) r t
agrees_from_end [] f r u t e s = (t, subst (λ x. StepsTypes f x t) e s, refl)
agrees_from_end (g ∷ fs) f r u t (v, a, h) s = (v, a, agrees_from_end fs f v u t h s)

-- a chain leads from a type to types alone
pub agrees_type : (fs : List Function) (r t : TypeParts) → IsType r → Agrees fs r t → IsType t
agrees_type [] r t is e = subst IsType (sym e) is
agrees_type (f ∷ fs) r t is (u, s, h) = agrees_type fs u t s.to h
