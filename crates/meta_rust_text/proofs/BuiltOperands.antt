-- The variables of the operands of built instructions.
use Rattle.std.proofs.Common.{◌≡◌, ℕ, List, sym, subst, ap, ◌∙◌}
use Rattle.meta_typevar.specs.declared.content.TypeVarContent.{TypeVarContent}
use Rattle.meta_operands.specs.Operand.{variables_of}
use Rattle.meta_inst.specs.Built.{BuiltInstruction}
use Rattle.meta_inst.specs.Operands.{AreOf}
use Rattle.meta_inst.specs.InstructionSet.{InstructionSet, AreOfRegistries}
use Rattle.meta_build.specs.AllDeclared.{Declared}
use Rattle.meta_build.specs.BuiltInstructions.{IsBuiltAt, AreInstructionsOf}
use Rattle.meta_rust_text.specs.BuilderText.{HasVariablesOf, HaveVariablesOf}

-- they are of the registry, since those of the declared instruction are
of_declared : (d : InstructionSet) (k : ℕ) (c : BuiltInstruction) → AreOfRegistries d.vars d.formats d.instructions → IsBuiltAt d k c
    → HasVariablesOf d.vars c
of_declared d k c fits built =
    let declared = fits k built.builder built.at in
    record {
      inputs = subst (λ operands. AreOf d.vars (variables_of operands))
          (sym (ap (λ (b : BuiltInstruction). b.operands_in) built.is.content)) declared.inputs;
      outputs = subst (λ operands. AreOf d.vars (variables_of operands))
          (sym (ap (λ (b : BuiltInstruction). b.operands_out) built.is.content)) declared.outputs;
    }

each_of_declared : (d : InstructionSet) (built : List BuiltInstruction) → AreOfRegistries d.vars d.formats d.instructions
    → AreInstructionsOf d built → HaveVariablesOf d.vars built
each_of_declared d built fits all k c at = of_declared d k c fits (all.each k c at)

-- the same, where the declarations, their variables and the instructions are lent
pub each_of_registry : (d lent : Declared) (vars : List TypeVarContent) (built given : List BuiltInstruction) → lent ≡ d
    → vars ≡ lent.set.vars → given ≡ built → AreOfRegistries lent.set.vars lent.set.formats lent.set.instructions
    → AreInstructionsOf d.set built → HaveVariablesOf vars given
each_of_registry d lent vars built given same of_lent given_is fits all =
    subst (λ (v : List TypeVarContent). HaveVariablesOf v given) (sym (of_lent ∙ ap (λ (e : Declared). e.set.vars) same))
    (subst (HaveVariablesOf d.set.vars) (sym given_is)
    (each_of_declared d.set built (subst (λ (e : Declared). AreOfRegistries e.set.vars e.set.formats e.set.instructions) same fits) all))
