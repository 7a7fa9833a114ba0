use Rattle.std.proofs.Common.{ap, sym, subst, ◌∙◌}
use Rattle.meta_inst.specs.Built.{BuiltInstruction}
use Rattle.meta_inst.specs.Content.{content_of}
use Rattle.meta_inst.specs.FoundControl.{IsFound}
use Rattle.meta_inst.specs.Instruction.{Instruction}
use Rattle.meta_inst.specs.Operands.{instruction_of_operands}
use Rattle.meta_inst.proofs.KeptControl.{info_of}
use Rattle.meta_inst.proofs.OnlyMemory.{only_memory}
use Rattle.meta_inst.proofs.builder.InstructionBuilder.build.Goals as goal

pub returns-clause-control : goal.returns-clause-control
returns-clause-control c =
    info_of c.args.vars.now c.args.formats.now c.args.self.now
    (instruction_of_operands c.args.vars.now c.in_ok-operands.operands) c.control-control.result
    c.polymorphic_info-polymorphic_info.result c.in_ok-content.field-0.polymorphic_info
    (c.in_ok-operands.ensures.meaning c.args.vars.now) c.in_default-operands_fault.ensures.none
    c.control-control.ensures.found (ap (λ (x : BuiltInstruction). x.polymorphic_info)
    (c.in_ok-content.ensures c.args.formats.now c.in_ok-operands.ensures.operands))
    c.polymorphic_info-polymorphic_info.ensures.kept c.polymorphic_info-polymorphic_info.ensures.of_registry
    c.in_ok-operands.operands.second c.in_ok-operands.ensures.second
    c.polymorphic_info-polymorphic_info.ensures.second c.polymorphic_info-polymorphic_info.ensures.designated

pub returns-clause-content : goal.returns-clause-content
returns-clause-content c =
    let is = c.in_ok-content.ensures c.args.formats.now c.in_ok-operands.ensures.operands in
    is ∙ ap (content_of c.args.formats.now c.args.self.now) (sym (ap (λ (x : BuiltInstruction). x.polymorphic_info) is))

pub control-control-requires-clause-variables : goal.control-control-requires-clause-variables
control-control-requires-clause-variables c = c.in_ok-operands.ensures.fits c.args.vars.now c.requires

pub polymorphic_info-polymorphic_info-requires-clause-variables : goal.polymorphic_info-polymorphic_info-requires-clause-variables
polymorphic_info-polymorphic_info-requires-clause-variables c = c.in_ok-operands.ensures.fits c.args.vars.now c.requires

pub operands_fault-requires-clause-operands : goal.operands_fault-requires-clause-operands
operands_fault-requires-clause-operands c = record {
  meaning = c.in_ok-operands.ensures.meaning c.args.vars.now;
  variables = c.in_ok-operands.ensures.variables;
  result_count = c.in_ok-operands.ensures.result_count;
  of_registry = c.in_ok-operands.ensures.fits c.args.vars.now c.requires;
  second = c.in_ok-operands.ensures.second;
}

pub returns-in-Some-clause-refused : goal.returns-in-Some-clause-refused
returns-in-Some-clause-refused c = λ other. c.in-Some.ensures.found c.args.vars.now

pub operands_fault-requires-clause-found : goal.operands_fault-requires-clause-found
operands_fault-requires-clause-found c =
    subst (λ (i : Instruction). IsFound c.args.vars.now i c.control-control.result)
    (c.in_ok-operands.ensures.meaning c.args.vars.now) c.control-control.ensures.found

pub operands_fault-requires-clause-control : goal.operands_fault-requires-clause-control
operands_fault-requires-clause-control c = c.control-control.ensures.of_registry

pub returns-in_err-operands-clause-refused : goal.returns-in_err-operands-clause-refused
returns-in_err-operands-clause-refused c = only_memory c.from_residual.result _ c.from_residual.ensures.1

pub returns-in_err-content-clause-refused : goal.returns-in_err-content-clause-refused
returns-in_err-content-clause-refused c = only_memory c.from_residual-in_err-content.result _ c.from_residual-in_err-content.ensures.1
