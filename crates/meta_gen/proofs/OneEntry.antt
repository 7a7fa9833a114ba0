-- An instruction has one entry in tables of declarations, and one list of operand constraints.
use Rattle.std.proofs.Common.{◌≡◌, ◌<◌, ◌↔◌, ◌+◌, ◌/◌, ◌%◌, ℕ, List, slice_get, Option, None, Some, refl, sym, ap, ◌∙◌, subst}
use Rattle.std.proofs.Common.{⊎_elim, length-append, arith}
use Rattle.std.proofs.lemmas.Bool.{cases_lt}
use Rattle.meta_lists.proofs.Places.{get_there, same_places}
use Rattle.meta_typevar.specs.Registry.{HoldTypeSets}
use Rattle.meta_typevar.specs.TypeSetParts.{TypeSetParts, IsTypeSet}
use Rattle.meta_typevar.specs.Variable.{Variable}
use Rattle.meta_typevar.specs.declared.masks.Masks.{Masks}
use Rattle.meta_inst.specs.Instruction.{Instruction, operands, controls_of}
use Rattle.meta_inst.specs.Control.{IsControl, HasBadSecond}
use Rattle.meta_inst.specs.InstructionSet.{InstructionSet, root_sets}
use Rattle.meta_inst.specs.Constraint.{TypeConstraint, ConcreteType, FreeType, SameType, ByType, IsConstraint}
use Rattle.meta_inst.specs.Tables.{TableContents, NumberConstraint, FreeOf, AreFlagsOf, IsTypeSetOffset, HoldsSet, StandsFor}
use Rattle.meta_inst.proofs.Only.{only_constraint}
use Rattle.meta_build.specs.Needed.{AreNeededMasks}
use Rattle.meta_gen.specs.Constraint.{number_constraint_of}
use Rattle.meta_gen.specs.ConstraintLists.{IsConstraintAt, IsConstraintList}
use Rattle.meta_gen.specs.declared.constraint.Constraint.{Constraint}
use Rattle.meta_gen.proofs.OneNeed.{one_masked_place}
use Rattle.meta_gen.proofs.Sameness.{same_number}

-- ---- flags

-- a bit that says whether P holds is one bit
one_bit : (a b : ℕ) (P : Type 0) → (a % 2 ≡ 1) ↔ P → (b % 2 ≡ 1) ↔ P → a % 2 ≡ b % 2
one_bit a b P p q = ⊎_elim
    (λ (l : a % 2 < 1). ⊎_elim
    (λ (m : b % 2 < 1). omega arith)
    (λ m. let e = p.1 (q.0 (omega (arith, m))) in absurd (omega arith))
    (cases_lt (b % 2) 1))
    (λ l. let e = q.1 (p.0 (omega (arith, l))) in let f : a % 2 ≡ 1 = omega (arith, l) in omega arith)
    (cases_lt (a % 2) 1)

-- eight bits, by their parts
one_byte : (a b : ℕ) → a < 256 → b < 256 → a % 8 ≡ b % 8 → a / 8 % 2 ≡ b / 8 % 2 → a / 16 % 2 ≡ b / 16 % 2 → a / 32 % 8 ≡ b / 32 % 8 → a ≡ b
one_byte a b l m low third fourth high = omega arith

pub one_flags : (i : Instruction) (control : Option Variable) (a b : ℕ) → AreFlagsOf i control a → AreFlagsOf i control b → a ≡ b
one_flags i control a b h k =
    one_byte a b h.eight_bits k.eight_bits (h.results ∙ sym k.results) (one_bit (a / 8) (b / 8) _ h.designated k.designated)
    (one_bit (a / 16) (b / 16) _ h.differs k.differs) (h.values ∙ sym k.values)

module _ (d : InstructionSet) (s t : TableContents) (typed : HoldTypeSets d.vars) (needed : AreNeededMasks d t.type_sets)
    (sets_same : s.type_sets ≡ t.type_sets) where
  -- ---- places of type sets

  -- a set of types is held at one place
  one_place : (j k : ℕ) (x : TypeSetParts) → IsTypeSet x → HoldsSet s j x → HoldsSet t k x → j ≡ k
  one_place j k x is a b = one_masked_place d t.type_sets typed needed j k x a.masks b.masks is
      (ap (λ (ms : List Masks). slice_get ms j) (sym sets_same) ∙ a.is_set) a.are_masks b.is_set b.are_masks

  pub one_offset : (control : Option Variable) (a b : ℕ) → IsTypeSetOffset (root_sets d) control s a
      → IsTypeSetOffset (root_sets d) control t b → a ≡ b
  one_offset None a b h k = h ∙ sym k
  one_offset (Some v) a b (l, h) (m, k) = one_place a b (root_sets d v.root) (typed v.root) h k

  -- ---- operand constraints

  module _ (i : Instruction) (control : Option Variable) (is_control : IsControl (root_sets d) i control)
      (good : HasBadSecond (root_sets d) i → ⊥) where
    -- one number stands for one constraint
    one_number : (w : Variable) (x : TypeConstraint) (a b : NumberConstraint) → IsConstraint (root_sets d) (controls_of i control) w x
        → StandsFor s x a → StandsFor t x b → a ≡ b
    one_number w (ConcreteType u) a b is h k = h ∙ sym k
    one_number w (FreeType u) a b is (j, is_j, h) (l, is_l, k) = is_j
        ∙ ap FreeOf (one_place j l u (subst IsTypeSet (sym is.set) (typed w.root)) h k) ∙ sym is_l
    one_number w (SameType u) a b is h k = h ∙ sym k
    one_number w (ByType u f) a b is h k = h ∙ sym k

    -- what stands for the constraint of an operand is one
    one_at : (xs ys : List Constraint) (k : ℕ) (w : Variable) → IsConstraintAt (root_sets d) (controls_of i control) s xs k w
        → IsConstraintAt (root_sets d) (controls_of i control) t ys k w → slice_get xs k ≡ slice_get ys k
    one_at xs ys k w a b =
        let same : b.type_constraint ≡ a.type_constraint =
        only_constraint (root_sets d) i control is_control good w b.type_constraint a.type_constraint b.is_constraint a.is_constraint in
        let stands : StandsFor t a.type_constraint (number_constraint_of b.constraint) =
        subst (λ (x : TypeConstraint). StandsFor t x (number_constraint_of b.constraint)) same b.stands in
        a.placed ∙ ap Some (same_number a.constraint b.constraint (one_number w a.type_constraint (number_constraint_of a.constraint)
        (number_constraint_of b.constraint) a.is_constraint a.stands stands)) ∙ sym b.placed

    pub one_list : (xs ys : List Constraint) → IsConstraintList (root_sets d) control s i xs
        → IsConstraintList (root_sets d) control t i ys → xs ≡ ys
    one_list xs ys a b =
        same_places xs ys (a.count ∙ sym b.count) (λ k l.
        let (w, op) = get_there (operands i) k (omega (arith, l, a.count, length-append i.results i.values)) in
        one_at xs ys k w (a.each k w op) (b.each k w op))
