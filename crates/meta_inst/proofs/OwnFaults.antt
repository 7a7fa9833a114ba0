-- The rules of one instruction, one after another.
use Rattle.std.proofs.Common.{◌≡◌, ◌↔◌, ◌+◌, ◌-◌, inr, ℕ, suc, List, length, length-append, Bool, true, false, IsTrue, Some, slice_get}
use Rattle.std.proofs.Common.{refl, sym, ap, ◌∙◌, subst, subst₂, arith}
use Rattle.std.proofs.lemmas.Bool.{false≢true}
use Rattle.std.proofs.lemmas.Option.{same_Some}
use Rattle.meta_types.specs.Name.{IsName}
use Rattle.meta_types.specs.declared.fault.DefinitionError.{DefinitionError}
use Rattle.meta_types.specs.FirstFault.{key_at, HasNoneBefore}
use Rattle.meta_types.proofs.FirstFault.{none_before_first, passed}
use Rattle.meta_typevar.specs.declared.content.TypeVarContent.{TypeVarContent}
use Rattle.meta_typevar.specs.Registry.{sets_of}
use Rattle.meta_operands.specs.Operand.{variables_of}
use Rattle.meta_operands.specs.declared.format.InstructionFormat.{InstructionFormat}
use Rattle.meta_inst.specs.Builder.{Builder, inputs_of, outputs_of}
use Rattle.meta_inst.specs.Control.{HasBadSecond, HasBadDerivation, IsFirstBadDerivation}
use Rattle.meta_inst.specs.FoundControl.{control_in, IsFound, AreOperandsOf}
use Rattle.meta_inst.specs.InstructionSet.{instruction_of_builder}
use Rattle.meta_inst.specs.Operands.{OperandList, instruction_of_operands}
use Rattle.meta_inst.specs.InstructionFaults.{HasBadOutput, LacksItsControl, NamesBadSecond, IsDerivedBadlyAt, AreTooMany}
use Rattle.meta_inst.specs.InstructionFaults.{HasTooManyOperands, TakesNoImmediate, HasBadImmMethod, Rule, NameRule, DuplicateRule}
use Rattle.meta_inst.specs.InstructionFaults.{OutputRule, MismatchRule, ControlRule, SecondRule, DerivationRule, CountRule, MethodRule}
use Rattle.meta_inst.specs.InstructionFaults.{rule_number, rule_key, Breaks, IsWellMade, KeepsRulesBefore}
use Rattle.meta_inst.specs.declared.operands.Controlling.{Controlling}
use Rattle.meta_inst.specs.declared.operands.Controlling.TheVariants.{Missing}
use Rattle.meta_inst.proofs.OneOwnFault.{few_rules, searchable}
use Rattle.meta_inst.proofs.Searching.{found_controls, search_found, search_clean}

-- what a test tells of, where it failed, isn't so
pub untrue : (P : Type 0) (r : Bool) → r ≡ false → (IsTrue r ↔ P) → P → ⊥
untrue P r failed told h = false≢true (sym failed ∙ told.1 h)

module _ (vars : List TypeVarContent) (formats : List InstructionFormat) (b : Builder) where
  -- no rule comes before the first
  pub begun : KeepsRulesBefore vars formats b NameRule
  begun n = none_before_first rule_key (Breaks vars formats b n)

  -- a rule is kept: on to the next
  pub kept : (rule : Rule) → KeepsRulesBefore vars formats b rule → ((n : ℕ) (e : DefinitionError) → Breaks vars formats b n rule e → ⊥)
      → (n : ℕ) → HasNoneBefore rule_key (Breaks vars formats b n) (key_at 0 0 (suc (rule_number rule)))
  kept rule before never n = passed (searchable vars formats b n) rule (before n) (never n)

  pub kept_name : IsName b.name → KeepsRulesBefore vars formats b OutputRule
  kept_name named = kept DuplicateRule (kept NameRule begun (λ n e h. h.1 named)) (λ n e h. h)

  pub kept_output : KeepsRulesBefore vars formats b OutputRule → ((place : ℕ) → HasBadOutput b place → ⊥)
      → KeepsRulesBefore vars formats b MismatchRule
  kept_output before none = kept OutputRule before (λ n e h. none h.0 h.2)

  -- the last rule is kept too
  well_made : KeepsRulesBefore vars formats b MethodRule → (HasBadImmMethod formats b → ⊥) → IsWellMade vars formats b
  well_made before good n rule e h = kept MethodRule before (λ n e h. good h.1) n rule e (inr (refl, inr (refl, few_rules rule))) h

-- the rules for the operands, by what was found of these
module _ {vars : List TypeVarContent} {formats : List InstructionFormat} {b : Builder} {o : OperandList}
    (operands : AreOperandsOf vars formats b o) where
  module _ (c : Controlling) (found : IsFound vars (instruction_of_builder vars formats b) c) (there : c ≡ Missing → ⊥) where
    has_control : LacksItsControl vars formats b → ⊥
    has_control = found_controls vars (instruction_of_builder vars formats b) c found there

    pub kept_control : KeepsRulesBefore vars formats b ControlRule → KeepsRulesBefore vars formats b SecondRule
    kept_control before = kept vars formats b ControlRule before (λ n e h. has_control h.1)

    -- the test of the second control found it bad, or not
    pub broken_second : HasBadSecond (sets_of vars) (instruction_of_operands vars o) → NamesBadSecond vars formats b
    broken_second bad = subst (λ i. HasBadSecond (sets_of vars) i) operands.meaning bad

    pub kept_second : KeepsRulesBefore vars formats b ControlRule → (HasBadSecond (sets_of vars) (instruction_of_operands vars o) → ⊥)
        → KeepsRulesBefore vars formats b DerivationRule
    kept_second before none = kept vars formats b SecondRule (kept_control before)
        (λ n e h. none (subst (λ i. HasBadSecond (sets_of vars) i) (sym operands.meaning) h.1))

    -- the search for a bad derivation found one, or none
    pub broken_derivation : (place : ℕ) → IsFirstBadDerivation (sets_of vars) (instruction_of_operands vars o) (control_in vars c) place
        → IsDerivedBadlyAt vars formats b place
    broken_derivation place h = search_found vars (instruction_of_builder vars formats b) c found has_control place
        (subst (λ i. IsFirstBadDerivation (sets_of vars) i (control_in vars c) place) operands.meaning h)

    well_derived : ((k : ℕ) → HasBadDerivation (sets_of vars) (instruction_of_operands vars o) (control_in vars c) k → ⊥) → (place : ℕ)
        → IsDerivedBadlyAt vars formats b place → ⊥
    well_derived none = search_clean vars (instruction_of_builder vars formats b) c found has_control
        (λ k h. none k (subst (λ i. HasBadDerivation (sets_of vars) i (control_in vars c) k) (sym operands.meaning) h))

    pub kept_derivation : KeepsRulesBefore vars formats b ControlRule → (HasBadSecond (sets_of vars) (instruction_of_operands vars o) → ⊥)
        → ((k : ℕ) → HasBadDerivation (sets_of vars) (instruction_of_operands vars o) (control_in vars c) k → ⊥)
        → KeepsRulesBefore vars formats b CountRule
    kept_derivation before second none = kept vars formats b DerivationRule (kept_second before second) (λ n e h. well_derived none h.0 h.2)

  module _ (results : ℕ) (variables : List ℕ) (count : results ≡ o.result_count) (is : variables ≡ o.variables) where
    -- how many value inputs there are
    value_count : length variables - results ≡ length (variables_of (inputs_of b))
    value_count =
        let lengths : length variables ≡ length (variables_of (outputs_of b)) + length (variables_of (inputs_of b)) =
        ap length (is ∙ operands.variables) ∙ length-append (variables_of (outputs_of b)) (variables_of (inputs_of b)) in
        omega (arith, lengths, count, operands.result_count)

    -- what is so of the counts that were found is so of those that were declared, and the other way round
    declared : (P : ℕ → ℕ → Type 0) → P results (length variables - results)
        → P (length (variables_of (outputs_of b))) (length (variables_of (inputs_of b)))
    declared P = subst₂ P (count ∙ operands.result_count) value_count

    counted : (P : ℕ → ℕ → Type 0) → P (length (variables_of (outputs_of b))) (length (variables_of (inputs_of b)))
        → P results (length variables - results)
    counted P = subst₂ P (sym (count ∙ operands.result_count)) (sym value_count)

    -- the test of the counts found too many, or not
    pub broken_count : (n : ℕ) → AreTooMany results (length variables - results) n → HasTooManyOperands b n
    broken_count n = declared (λ r v. AreTooMany r v n)

    pub kept_count : KeepsRulesBefore vars formats b CountRule → ((n : ℕ) → AreTooMany results (length variables - results) n → ⊥)
        → KeepsRulesBefore vars formats b MethodRule
    kept_count before none = kept vars formats b CountRule before (λ n e h. none h.0 (counted (λ r v. AreTooMany r v h.0) h.2))

    module _ (format : InstructionFormat) (id : ℕ) (at : slice_get formats id ≡ Some format) (same_id : id ≡ b.format) where
      -- so of the method
      pub broken_method : (b.marks.inst_builder_imm_method ≡ true) × TakesNoImmediate format results (length variables - results)
          → HasBadImmMethod formats b
      broken_method h = (h.0, format, sym (ap (slice_get formats) same_id) ∙ at, declared (TakesNoImmediate format) h.1)

      pub kept_method : KeepsRulesBefore vars formats b MethodRule
          → ((b.marks.inst_builder_imm_method ≡ true) × TakesNoImmediate format results (length variables - results) → ⊥)
          → IsWellMade vars formats b
      kept_method before never = well_made vars formats b before (λ h.
          let same : h.1 ≡ format = same_Some h.1 format (sym h.2 ∙ sym (ap (slice_get formats) same_id) ∙ at) in
          never (
            h.0,
            counted (TakesNoImmediate format)
                (subst (λ (f : InstructionFormat). TakesNoImmediate f (length (variables_of (outputs_of b)))
                (length (variables_of (inputs_of b)))) same h.3),
          ))
