use Rattle.std.proofs.Common.{◌≡◌, ◌++◌, ℕ, List, Bool, Option, ap, ◌∙◌, append_assoc}
use Rattle.std.proofs.Math.Path.{fun_ext}
use Rattle.std.proofs.lemmas.Result.{on_ok_weaker}
use Rattle.std.specs.List.{flat_map}
use Rattle.meta_types.specs.declared.fault.Place.{Place}
use Rattle.meta_typevar.specs.declared.content.TypeVarContent.{TypeVarContent}
use Rattle.meta_operands.specs.declared.operand.Operand.{Operand}
use Rattle.meta_operands.specs.declared.format.InstructionFormat.{InstructionFormat}
use Rattle.meta_inst.specs.Built.{BuiltInstruction}
use Rattle.meta_rust_text.specs.MethodArguments.{asked_control}
use Rattle.meta_rust_names.specs.declared.refused.Why.{Why}
use Rattle.meta_rust_names.specs.declared.refused.Part.TheVariants.{Doc}
use Rattle.meta_rust_names.specs.declared.refused.RefusedName.{RefusedName}
use Rattle.meta_rust_names.specs.Refused.{refused}
use Rattle.meta_rust_names.specs.Comments.{doc_why}
use Rattle.meta_rust_names.specs.Known.{known}
use Rattle.meta_rust_names.specs.Methods.{is_form}
use Rattle.meta_rust_names.specs.Inputs.{inputs_refused, names_of_input}
use Rattle.meta_rust_names.specs.Instructions.{outputs_refused, control_refused, operands_refused}
use Rattle.meta_rust_names.proofs.instructions.push_operands.Goals as goal

regrouped : {Y : Type 0} (out a b c d : List Y) → (((out ++ a) ++ b) ++ c) ++ d ≡ out ++ (a ++ (b ++ (c ++ d)))
regrouped out a b c d = simp append_assoc

-- the four parts, each after those before it
parts_added : (vars : List TypeVarContent) (i : BuiltInstruction) (f : InstructionFormat) (place : Place) (inputs outputs : List Operand)
    (why : Option Why) (control : Option ℕ) (is_known : List ℕ → Bool) (out first second third fourth : List RefusedName)
    → inputs ≡ i.operands_in → outputs ≡ i.operands_out → why ≡ doc_why i.doc → control ≡ asked_control i.polymorphic_info
    → ((text : List ℕ) → is_known text ≡ is_form (flat_map names_of_input inputs) text)
    → first ≡ out ++ inputs_refused vars i f place inputs
    → second ≡ first ++ outputs_refused vars place outputs
    → third ≡ second ++ refused place Doc why
    → fourth ≡ third ++ control_refused vars i f place is_known control
    → fourth ≡ out ++ operands_refused vars i f place
unfolding operands_refused
parts_added vars i f place inputs outputs why control is_known out first second third fourth
    of_inputs of_outputs of_doc of_control names with_inputs with_outputs with_doc with_control =
    let same_names : is_known ≡ is_form (flat_map names_of_input inputs) = fun_ext names in
    let parts = regrouped out (inputs_refused vars i f place inputs) (outputs_refused vars place outputs) (refused place Doc why)
    (control_refused vars i f place is_known control) in
    cc

pub returns : goal.returns
returns c =
    on_ok_weaker c.push_control.result
    (parts_added c.args.vars.now c.args.instruction.now c.args.format.now c.args.place c.operands_in-inputs.result.now
    c.operands_out.result.now c.doc_why.result c.asked_control-control.result (known c.in_ok-names.names) c.args.out.now.items _ _ _ _
    c.operands_in-inputs.ensures c.operands_out.ensures
    (c.doc_why.ensures ∙ ap doc_why (c.as_str.ensures ∙ c.doc.ensures))
    (c.asked_control-control.ensures ∙ ap asked_control c.polymorphic_info.ensures)
    c.in_ok-names.ensures.names c.in_ok-names.ensures.pushed c.in_ok-push_outputs.ensures c.in_ok-push_refused.ensures)
    c.push_control.ensures
