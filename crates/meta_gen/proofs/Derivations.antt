-- What a search for a bad derivation tells.
use Rattle.std.proofs.Common.{◌≡◌, ◌<◌, ◌≤◌, ◌+◌, ℕ, zero, suc, Option, List, length, slice_get, sym, ap, ◌∙◌, arith}
use Rattle.std.specs.Prelude.{option_map}
use Rattle.meta_typevar.specs.Variable.{Variable, Sets}
use Rattle.meta_typevar.specs.Registry.{sets_of, variable_at, IsRegistry}
use Rattle.meta_typevar.specs.declared.content.TypeVarContent.{TypeVarContent}
use Rattle.meta_inst.specs.Which.{both}
use Rattle.meta_inst.specs.Instruction.{Instruction}
use Rattle.meta_inst.specs.Operands.{OperandList, instruction_of_operands, AreOf, SecondIsOf}
use Rattle.meta_inst.specs.Control.{IsControl, HasBadSecond, HasBadDerivation, IsFirstBadDerivation, DerivesBadly}
use Rattle.meta_inst.proofs.Meaning.{operand_at}
use Rattle.meta_inst.proofs.Constrained.{has_constraint}
use Rattle.meta_gen.specs.Entries.{AreConstrained}

-- where no operand is the first that is badly derived none is
none_below : (sets : Sets) (i : Instruction) (control : Option Variable)
    → ((k : ℕ) → IsFirstBadDerivation sets i control k → ⊥) → (n k : ℕ) → k < n → HasBadDerivation sets i control k → ⊥
none_below sets i control none zero k l b = omega (arith, l)
none_below sets i control none (suc n) k l b =
    none k (record { bad = b; first = λ j less h. none_below sets i control none n j (omega (arith, less, l)) h })

pub no_bad_place : (sets : Sets) (i : Instruction) (control : Option Variable) → IsControl sets i control
    → ((place : ℕ) → DerivesBadly sets i place → ⊥) → (k : ℕ) → HasBadDerivation sets i control k → ⊥
no_bad_place sets i control is none k b =
    none_below sets i control (λ j f. none j (record { control = control; is_control = is; first = f })) (k + 1) k (omega arith) b

-- where no operand is badly derived there is a constraint for each
pub all_constrained : (vars : List TypeVarContent) (o : OperandList) → o.result_count ≤ length o.variables
    → IsRegistry vars → AreOf vars o.variables → SecondIsOf vars o.second → (control : Option ℕ)
    → IsControl (sets_of vars) (instruction_of_operands vars o) (option_map (variable_at vars) control)
    → (HasBadSecond (sets_of vars) (instruction_of_operands vars o) → ⊥)
    → ((place : ℕ) → DerivesBadly (sets_of vars) (instruction_of_operands vars o) place → ⊥) → (numbers : List ℕ)
    → numbers ≡ o.variables → AreConstrained vars (both control o.second) numbers
all_constrained vars o within registry are second_of control is good none numbers same k n at =
    has_constraint (sets_of vars) (instruction_of_operands vars o) (option_map (variable_at vars) control) is good
    (no_bad_place (sets_of vars) (instruction_of_operands vars o) (option_map (variable_at vars) control) is none) k (variable_at vars n)
    (operand_at vars o within registry are second_of k n (ap (λ ns. slice_get ns k) (sym same) ∙ at))
