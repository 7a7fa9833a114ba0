-- The variables of operands.
use Rattle.std.proofs.Common.{◌≡◌, ℕ, ◌<◌, zero, suc, List, [], ◌∷◌, length, slice_get, get_or, Option, None, Some, sym, ap, ◌∙◌, arith}
use Rattle.std.specs.List.{cons_option}
use Rattle.meta_typevar.specs.declared.content.TypeVarContent.{TypeVarContent}
use Rattle.meta_operands.specs.declared.operand.Operand.{Operand}
use Rattle.meta_operands.specs.Operand.{variable_of, variables_of}
use Rattle.meta_inst.specs.Operands.{AreOf}

-- the variable of an operand is among those of all
pub among : (xs : List Operand) (i : ℕ) (x : Operand) (tv : ℕ) → i < length xs → x ≡ get_or xs i x → variable_of x ≡ Some tv
    → (k : ℕ) × (slice_get (variables_of xs) k ≡ Some tv)
among [] i x tv inside at has = absurd (omega (arith, inside))
among (y ∷ ys) zero x tv inside at has = by (variable_of y) (ap variable_of (sym at) ∙ has)
  where
    by : (o : Option ℕ) → o ≡ Some tv → (k : ℕ) × (slice_get (cons_option o (variables_of ys)) k ≡ Some tv)
    by None e = absurd (cc)
    by (Some v) e = (zero, e)
among (y ∷ ys) (suc i) x tv inside at has = by (variable_of y) (among ys i x tv (omega (arith, inside)) at has)
  where
    by : (o : Option ℕ) → (k : ℕ) × (slice_get (variables_of ys) k ≡ Some tv)
        → (k : ℕ) × (slice_get (cons_option o (variables_of ys)) k ≡ Some tv)
    by None (k, e) = (k, e)
    by (Some v) (k, e) = (suc k, e)

-- the variable of an operand is of the registry, if those of all are
pub operand_of_registry : (vars : List TypeVarContent) (xs : List Operand) (i : ℕ) (x : Operand) (tv : ℕ) → AreOf vars (variables_of xs)
    → i < length xs → x ≡ get_or xs i x → variable_of x ≡ Some tv → tv < length vars
operand_of_registry vars xs i x tv all inside at has = let (k, e) = among xs i x tv inside at has in all k tv e
