-- What is built of valid declarations can have its entries.
use Rattle.std.proofs.Common.{◌≡◌, ◌<◌, ◌≤◌, ◌+◌, inl, inr, ℕ, List, length, length-append, refl, sym, ap, ◌∙◌, subst, arith}
use Rattle.meta_typevar.specs.TypeSetParts.{TypeSetParts}
use Rattle.meta_operands.specs.Operand.{variables_of}
use Rattle.meta_inst.specs.Builder.{Builder, inputs_of, outputs_of}
use Rattle.meta_inst.specs.Built.{BuiltInstruction}
use Rattle.meta_inst.specs.Control.{HasBadSecond, DerivesBadly}
use Rattle.meta_inst.specs.Instruction.{Instruction}
use Rattle.meta_inst.specs.InstructionFaults.{CountRule, HasTooManyOperands}
use Rattle.meta_inst.specs.InstructionSet.{InstructionSet, root_sets, AreOfRegistries}
use Rattle.meta_inst.specs.Faults.{IsValid, OfInstruction}
use Rattle.meta_inst.specs.Operands.{OperandList}
use Rattle.meta_inst.proofs.ValidControls.{good_second, well_derived}
use Rattle.meta_build.specs.BuiltInstructions.{IsBuiltAt}
use Rattle.meta_build.specs.Needed.{AreSetsByNeed}
use Rattle.meta_build.proofs.BuiltOperands.{operands_are, within_is, meaning, variables_are, built_control_is, controls_are}
use Rattle.meta_gen.specs.Entries.{CanEnter, HoldNeeded}
use Rattle.meta_gen.proofs.Held.{needed_held}

-- few results, and few inputs
pub few_results : (b : Builder) → ((count : ℕ) → HasTooManyOperands b count → ⊥) → length (variables_of (outputs_of b)) ≤ 7
few_results b small =
    let few : 7 < length (variables_of (outputs_of b)) → ⊥ = λ l. small (length (variables_of (outputs_of b))) (inl (l, refl)) in
    omega arith

pub few_values : (b : Builder) → ((count : ℕ) → HasTooManyOperands b count → ⊥) → length (variables_of (inputs_of b)) ≤ 7
few_values b small =
    let results = few_results b small in
    let few : 7 < length (variables_of (inputs_of b)) → ⊥ = λ l. small (length (variables_of (inputs_of b))) (inr (results, l, refl)) in
    omega arith

module _ (d : InstructionSet) (valid : IsValid d) (fits : AreOfRegistries d.vars d.formats d.instructions) (sets : List TypeSetParts)
    (needed : AreSetsByNeed d sets) (k : ℕ) (c : BuiltInstruction) (h : IsBuiltAt d k c) where
  small : (count : ℕ) → HasTooManyOperands h.builder count → ⊥
  small count many = valid (OfInstruction k CountRule) _ (inl (record { builder = h.builder; at = h.at; breaks = (count, refl, many) }))

  pub can_enter : CanEnter d.vars sets c
  can_enter =
      let list = operands_are d h.builder c h.is in
      let means = meaning d h.builder c h.is in
      let count : c.value_operands.result_count ≡ length (variables_of (outputs_of h.builder)) =
      ap (λ (o : OperandList). o.result_count) list in
      let all : length c.value_operands.variables ≡ length (variables_of (outputs_of h.builder))
      + length (variables_of (inputs_of h.builder)) = ap (λ (o : OperandList). length o.variables) list
      ∙ length-append (variables_of (outputs_of h.builder)) (variables_of (inputs_of h.builder)) in
      let results = few_results h.builder small in
      let values = few_values h.builder small in
      record {
        variables = variables_are d h.builder c h.is (fits k h.builder h.at);
        is_control = built_control_is d h.builder c h.is;
        controls = controls_are d h.builder c h.is (fits k h.builder h.at);
        good = subst (λ (i : Instruction). HasBadSecond (root_sets d) i → ⊥) (sym means) (good_second d valid k h.builder h.at);
        derived = subst (λ (i : Instruction). (place : ℕ) → DerivesBadly (root_sets d) i place
            → ⊥) (sym means) (well_derived d valid k h.builder h.at);
        results = omega arith;
        values = omega arith;
        within = within_is d h.builder c h.is;
        held = subst (λ (i : Instruction). HoldNeeded sets (root_sets d) i) (sym means)
            (needed_held d sets needed.are_needed k h.builder h.at);
      }
