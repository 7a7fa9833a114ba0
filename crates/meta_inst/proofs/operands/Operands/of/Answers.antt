use Rattle.std.proofs.Common.{◌≡◌, ◌++◌, List, ℕ, length, slice_get, ap, sym, ◌∙◌, subst, rules}
use Rattle.meta_operands.specs.Operand.{variables_of}
use Rattle.meta_operands.specs.declared.operand.Operand.{Operand}
use Rattle.meta_inst.specs.Builder.{inputs_of, outputs_of}
use Rattle.meta_inst.specs.InstructionSet.{designated_in, begins_with_value}
use Rattle.meta_inst.specs.Operands.{AreOf}
use Rattle.meta_inst.proofs.OperandsOf.{are_of_both}
use Rattle.meta_inst.proofs.operands.Operands.of.Goals as goal

-- the variables of the results, and of all
results : (c : goal.After-second) → c.push_variables.new.out.items ≡ variables_of (outputs_of c.args.builder.now)
results c = c.in_ok-push_variables.ensures
    ∙ ap (λ (xs : List ℕ). xs ++ variables_of c.outputs.result.now) c.in_ok-variables.ensures.items ∙ ap variables_of c.outputs.ensures

variables : (c : goal.After-second)
    → c.push_variables-2.new.out.items ≡ variables_of (outputs_of c.args.builder.now) ++ variables_of (inputs_of c.args.builder.now)
variables c =
    c.in_ok-push_variables-2.ensures
    ∙ ap (λ (xs : List ℕ). xs ++ variables_of c.inputs.result.now) (results c)
    ∙ ap (λ (os : List Operand). variables_of (outputs_of c.args.builder.now) ++ variables_of os) c.inputs.ensures

pub returns-clause-operands : goal.returns-clause-operands
returns-clause-operands c =
    let all = variables c in
    let count = c.len-result_count.ensures ∙ c.push_variables.new.out.ok.0 ∙ ap length (results c) in
    let place = ap designated_in (sym c.get.ensures) ∙ ap (λ n. designated_in (slice_get c.args.formats.now n)) c.format.ensures in
    let begins = c.begins_with_value.ensures ∙ ap begins_with_value c.outputs-2.ensures in
    let second = c.second.ensures in
    λ i. record { variables = all i; result_count = count i; designated = place i; begins_with_value = begins i; second = second i }

pub returns-clause-fits : goal.returns-clause-fits
returns-clause-fits c = λ vars fits.
    subst (AreOf vars) (sym (variables c)) (are_of_both vars (variables_of (outputs_of c.args.builder.now))
    (variables_of (inputs_of c.args.builder.now)) fits.outputs fits.inputs)

pub returns-clause-variables : goal.returns-clause-variables
returns-clause-variables c = variables c

pub invariant_of-result : goal.invariant_of-result
invariant_of-result c = search rules
