-- At most one constraint of an operand.
use Rattle.std.proofs.Common.{◌≡◌, List, Option, Some, refl, sym, ap, ap₂, ◌∙◌}
use Rattle.std.proofs.lemmas.List.{same_from_push}
use Rattle.meta_lists.proofs.Pushed.{not_empty}
use Rattle.meta_types.specs.TypeParts.{TypeParts}
use Rattle.meta_types.specs.Function.{Function}
use Rattle.meta_typevar.specs.TypeSetParts.{TypeSetParts}
use Rattle.meta_typevar.specs.Chain.{IsFixed}
use Rattle.meta_typevar.specs.Variable.{Variable, Sets}
use Rattle.meta_inst.specs.Which.{Which}
use Rattle.meta_inst.specs.Instruction.{Instruction, controls_of}
use Rattle.meta_inst.specs.Control.{IsControl, HasBadSecond}
use Rattle.meta_inst.specs.Constraint.{TypeConstraint, ConcreteType, FreeType, SameType, ByType, IsConstraint, IsBy}
use Rattle.meta_inst.proofs.Family.{Ruling}
use Rattle.meta_inst.proofs.ControlFamily.{ruling_of}

-- two fixed types of one variable are one
one_fixed : (s : TypeSetParts) (chain : List Function) (t u : TypeParts) → IsFixed s chain t → IsFixed s chain u → t ≡ u
one_fixed s chain t u a b = b.only a.member t a.inhabited (a.reached a.member a.inhabited)

module _ (sets : Sets) (i : Instruction) (controls : Which → Option Variable) (ruling : Ruling sets i controls) (w : Variable) where
  -- a control isn't one step from a control
  no_step : (a b : Which) (f : Function) → controls a ≡ Some w → IsBy sets controls w b f → ⊥
  no_step a b f is h = not_empty h.variable.chain f (sym h.derived.chain ∙ ruling.underived a w is)

  -- an operand has at most one constraint
  same_under : (x y : TypeConstraint) → IsConstraint sets controls w x → IsConstraint sets controls w y → x ≡ y
  same_under (ConcreteType t) (ConcreteType u) h k = ap ConcreteType (one_fixed (sets w.root) w.chain t u h k)
  same_under (ConcreteType t) (FreeType s) h k = absurd (k.not_fixed t h)
  same_under (ConcreteType t) (SameType b) h k = absurd (k.not_fixed t h)
  same_under (ConcreteType t) (ByType b g) h k = absurd (k.not_fixed t h)
  same_under (FreeType s) (ConcreteType u) h k = absurd (h.not_fixed u k)
  same_under (FreeType s) (FreeType q) h k = ap FreeType (h.set ∙ sym k.set)
  same_under (FreeType s) (SameType b) h k = absurd (h.other b k.controls_is)
  same_under (FreeType s) (ByType b g) h k = absurd (not_empty k.variable.chain g (sym k.derived.chain ∙ h.underived))
  same_under (SameType a) (ConcreteType u) h k = absurd (h.not_fixed u k)
  same_under (SameType a) (FreeType s) h k = absurd (k.other a h.controls_is)
  same_under (SameType a) (SameType b) h k = ap SameType (ruling.one a b w w h.controls_is k.controls_is refl)
  same_under (SameType a) (ByType b g) h k = absurd (no_step a b g h.controls_is k)
  same_under (ByType a f) (ConcreteType u) h k = absurd (h.not_fixed u k)
  same_under (ByType a f) (FreeType s) h k = absurd (not_empty h.variable.chain f (sym h.derived.chain ∙ k.underived))
  same_under (ByType a f) (SameType b) h k = absurd (no_step b a f k.controls_is h)
  same_under (ByType a f) (ByType b g) h k =
      ap₂ ByType (ruling.one a b h.variable k.variable h.controls_is k.controls_is (sym h.derived.root ∙ k.derived.root))
      (same_from_push h.variable.chain k.variable.chain f g (sym h.derived.chain ∙ k.derived.chain)).1

-- An operand has at most one constraint.
pub only_constraint : (sets : Sets) (i : Instruction) (control : Option Variable) → IsControl sets i control → (HasBadSecond sets i → ⊥)
    → (w : Variable) (x y : TypeConstraint) → IsConstraint sets (controls_of i control) w x → IsConstraint sets (controls_of i control) w y
    → x ≡ y
only_constraint sets i control h good w x y = same_under sets i (controls_of i control) (ruling_of sets i control h good) w x y
