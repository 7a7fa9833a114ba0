-- The flags of an instruction, by the numbers of its variables.
use Rattle.std.proofs.Common.{◌≡◌, ◌↔◌, ◌≤◌, ◌<◌, ◌-◌, ℕ, List, Bool, true, false, IsTrue, length, take, drop, slice_get, Option, Some}
use Rattle.std.proofs.Common.{refl, sym, ap, ◌∙◌, length-drop}
use Rattle.std.specs.Prelude.{option_map}
use Rattle.std.proofs.lemmas.Bool.{false≢true}
use Rattle.std.proofs.lemmas.Option.{slice_get-map}
use Rattle.std.proofs.lemmas.List.{length-map}
use Rattle.meta_lists.proofs.Mapped.{get_mapped}
use Rattle.meta_lists.proofs.Places.{get_taken}
use Rattle.meta_typevar.specs.Registry.{variable_at, IsRegistry}
use Rattle.meta_typevar.specs.declared.content.TypeVarContent.{TypeVarContent}
use Rattle.meta_inst.specs.Which.{Which, First}
use Rattle.meta_inst.specs.Controls.{AreControlsOf, controls_at}
use Rattle.meta_inst.specs.Instruction.{Instruction}
use Rattle.meta_inst.specs.Operands.{OperandList, instruction_of_operands, designated_number, AreOf, SecondIsOf}
use Rattle.meta_inst.proofs.Meaning.{results_length, designated_is, designated_from, designated_of}
use Rattle.meta_inst.specs.Tables.{AreFlagsOf, DesignatedControls, FirstResultDiffers, result_count, value_count, SaysDesignated}
use Rattle.meta_inst.specs.Tables.{SaysDiffers}
use Rattle.meta_inst.proofs.ControlLemmas.{control_is, control_from}

-- what isn't true is false
not_true : (b : Bool) → (IsTrue b → ⊥) → b ≡ false
not_true true h = absurd (h refl)
not_true false h = refl

module _ (vars : List TypeVarContent) (o : OperandList) (within : o.result_count ≤ length o.variables) (registry : IsRegistry vars)
    (are : AreOf vars o.variables) (second_of : SecondIsOf vars o.second)
    (controls : Which → Option ℕ) (of : AreControlsOf vars controls) where
  abbrev i : Instruction
  i = instruction_of_operands vars o

  -- the number of the control is that of the designated operand's variable, and of the first result's
  abbrev IsDesignatedNumber : Type 0
  IsDesignatedNumber = (v : ℕ) × (controls First ≡ Some v) × (designated_number o ≡ Some v)

  abbrev IsFirstNumber : Type 0
  IsFirstNumber = (v : ℕ) × (controls First ≡ Some v) × (slice_get (take o.result_count o.variables) 0 ≡ Some v)

  designated_controls : IsDesignatedNumber → DesignatedControls i (controls_at vars controls First)
  designated_controls (v, is, at) =
      (variable_at vars v, control_is vars controls First v is, designated_is vars o within registry are second_of v at)

  number_controls : DesignatedControls i (controls_at vars controls First) → IsDesignatedNumber
  number_controls (w, is, designated) =
      let (d, at, e) = designated_from vars o within registry are second_of w designated in
      (d, control_from vars controls registry of First d (designated_of vars o within registry are second_of d at) (is ∙ ap Some e), at)

  first_differs : (IsFirstNumber → ⊥) → FirstResultDiffers i (controls_at vars controls First)
  first_differs other w at is =
      let (v, at_v, e) = get_mapped (variable_at vars) (take o.result_count o.variables) 0 w at in
      other (
        v,
        control_from vars controls registry of First v (are 0 v (get_taken o.variables o.result_count 0 v at_v)) (is
            ∙ ap Some (sym e)),
        at_v,
      )

  no_first_number : FirstResultDiffers i (controls_at vars controls First) → IsFirstNumber → ⊥
  no_first_number differs (v, is, at) = differs (variable_at vars v) (slice_get-map (variable_at vars) (take o.result_count o.variables) 0
      ∙ ap (option_map (variable_at vars)) at) (control_is vars controls First v is)

  values_length : length i.values ≡ length o.variables - o.result_count
  values_length = length-map (drop o.result_count o.variables) (variable_at vars) ∙ length-drop o.result_count o.variables

  -- flags with the two counts, and marks by the numbers
  pub are_flags : (flags results values : ℕ) (designated first : Bool)
      → results ≡ o.result_count → values ≡ length o.variables - o.result_count
      → IsTrue designated ↔ IsDesignatedNumber → IsTrue first ↔ IsFirstNumber
      → result_count flags ≡ results → value_count flags ≡ values
      → SaysDesignated flags ↔ IsTrue designated → SaysDiffers flags ↔ (IsTrue designated × (first ≡ false)) → flags < 256
      → AreFlagsOf i (controls_at vars controls First) flags
  are_flags flags results values designated first is_results is_values is_designated is_first count_results count_values bit_designated
      bit_differs byte = record {
        eight_bits = byte;
        results = count_results ∙ is_results ∙ sym (results_length vars o within registry are second_of);
        values = count_values ∙ is_values ∙ sym values_length;
        designated = (
          (λ h. designated_controls (is_designated.0 (bit_designated.0 h))),
          (λ h. bit_designated.1 (is_designated.1 (number_controls h))),
        );
        differs = (
          (λ h. let both = bit_differs.0 h in
              (designated_controls (is_designated.0 both.0), first_differs (λ n. false≢true (sym both.1 ∙ is_first.1 n)))),
          (λ h. bit_differs.1 (is_designated.1 (number_controls h.0), not_true first (λ t. no_first_number h.1 (is_first.0 t)))),
        );
      }
