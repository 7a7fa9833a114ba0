-- What is kept of a control is the instruction's.
use Rattle.std.proofs.Common.{◌≡◌, ◌<◌, ◌↔◌, ◌∙◌, ℕ, List, length, IsTrue, Option, IfSome, refl, sym, subst}
use Rattle.std.proofs.lemmas.Option.{MatchOption-at_some}
use Rattle.meta_types.specs.declared.fault.DefinitionError.TheVariants.{NoControl}
use Rattle.meta_typevar.specs.Registry.{sets_of, variable_at}
use Rattle.meta_typevar.specs.declared.content.TypeVarContent.{TypeVarContent}
use Rattle.meta_operands.specs.declared.format.InstructionFormat.{InstructionFormat}
use Rattle.meta_inst.specs.Builder.{Builder}
use Rattle.meta_inst.specs.Instruction.{Instruction, IsDesignated}
use Rattle.meta_inst.specs.InstructionSet.{instruction_of_builder}
use Rattle.meta_inst.specs.Control.{IsControl}
use Rattle.meta_inst.specs.FoundControl.{control_in, IsFound}
use Rattle.meta_inst.specs.InstructionFaults.{LacksItsControl, ControlRule, IsWellMade}
use Rattle.meta_inst.specs.Content.{control_kept, IsPolymorphicInfoOf}
use Rattle.meta_inst.specs.declared.operands.Controlling.{Controlling}
use Rattle.meta_inst.specs.declared.polymorphic.PolymorphicInfo.{PolymorphicInfo}
use Rattle.meta_inst.proofs.Searching.{is_found}

-- a well made instruction has its control
controlled : (vars : List TypeVarContent) (formats : List InstructionFormat) (b : Builder) → IsWellMade vars formats b
    → LacksItsControl vars formats b → ⊥
controlled vars formats b well lack = well 0 ControlRule (NoControl 0) (refl, lack)

pub info_of : (vars : List TypeVarContent) (formats : List InstructionFormat) (b : Builder) (i : Instruction) (c : Controlling)
    (info kept : Option PolymorphicInfo) → i ≡ instruction_of_builder vars formats b → IsWellMade vars formats b → IsFound vars i c
    → kept ≡ info
    → control_kept vars info ≡ control_in vars c → IfSome info (λ p. p.ctrl_typevar < length vars) → (s : Option ℕ) → s ≡ b.second
    → IfSome info (λ p. p.second_typevar ≡ s) → IfSome info (λ p. IsTrue p.use_typevar_operand
    ↔ IsDesignated i (variable_at vars p.ctrl_typevar)) → IsPolymorphicInfoOf vars formats b kept
info_of vars formats b i c info kept meaning well found same control of s named second designated =
    let found_in : IsFound vars (instruction_of_builder vars formats b) c = subst (λ (x : Instruction). IsFound vars x c) meaning found in
    let is : IsControl (sets_of vars) (instruction_of_builder vars formats b) (control_in vars c) =
    is_found vars (instruction_of_builder vars formats b) c found_in (controlled vars formats b well) in
    subst (IsPolymorphicInfoOf vars formats b) (sym same) (record {
      control = subst (IsControl (sets_of vars) (instruction_of_builder vars formats b)) (sym control) is;
      of_registry = λ p e. MatchOption-at_some (Unit {0}) (λ p. p.ctrl_typevar < length vars) p e of;
      second = λ p e. MatchOption-at_some (Unit {0}) (λ p. p.second_typevar ≡ s) p e second ∙ named;
      designated = λ p e. MatchOption-at_some (Unit {0}) (λ p. IsTrue p.use_typevar_operand
          ↔ IsDesignated (instruction_of_builder vars formats b) (variable_at vars p.ctrl_typevar)) p e
          (subst (λ (x : Instruction). IfSome info (λ p. IsTrue p.use_typevar_operand ↔ IsDesignated x (variable_at vars p.ctrl_typevar)))
          meaning designated);
    })
