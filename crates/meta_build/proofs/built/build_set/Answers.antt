use Rattle.std.proofs.Common.{◌≤◌, ◌<◌, length, arith, rules, sym, subst}
use Rattle.std.proofs.lemmas.Result.{IfOk-from_err}
use Rattle.meta_types.specs.declared.fault.DefinitionError.TheVariants.{TooManyTypeSets}
use Rattle.meta_inst.specs.Faults.{IsFirstFault}
use Rattle.meta_typevar.specs.TypeSetParts.{TypeSetParts}
use Rattle.meta_inst.proofs.OnlyMemory.{only_memory}
use Rattle.meta_build.proofs.FirstFault.{first_of_type_sets, valid}
use Rattle.meta_build.proofs.Refusals.{handed_on}
use Rattle.meta_build.proofs.built.build_set.Goals as goal

pub built_instructions-requires : goal.built_instructions-requires
built_instructions-requires c = search rules

pub returns-then-len-gt-MAX_TYPE_SETS-clause-refused : goal.returns-then-len-gt-MAX_TYPE_SETS-clause-refused
returns-then-len-gt-MAX_TYPE_SETS-clause-refused c = λ other.
    let many = c.if-len-gt-MAX_TYPE_SETS.true in
    let tested = c.len.ensures.count in
    let above : 4095 < length {A = TypeSetParts} c.in_ok-type_sets.type_sets = omega arith in
    subst (λ n. IsFirstFault c.args.set.now (TooManyTypeSets n)) (sym c.len-then-len-gt-MAX_TYPE_SETS.ensures.count)
    (first_of_type_sets c.args.set.now c.in_ok-formats.ensures.clean c.in_ok-type_sets.type_sets c.in_ok-type_sets.ensures.are_needed above)

pub returns-clause-valid : goal.returns-clause-valid
returns-clause-valid c =
    let few = c.if-len-gt-MAX_TYPE_SETS.false in
    let tested = c.len.ensures.count in
    let below : length {A = TypeSetParts} c.in_ok-type_sets.type_sets ≤ 4095 = omega arith in
    valid c.args.set.now c.in_ok-formats.ensures.clean c.in_ok-type_sets.type_sets c.in_ok-type_sets.ensures.are_needed below

pub returns-in_err-instructions-clause-valid : goal.returns-in_err-instructions-clause-valid
returns-in_err-instructions-clause-valid c = IfOk-from_err c.from_residual.result _ c.from_residual.ensures.0

pub returns-in_err-instructions-clause-instructions : goal.returns-in_err-instructions-clause-instructions
returns-in_err-instructions-clause-instructions c = IfOk-from_err c.from_residual.result _ c.from_residual.ensures.0

pub returns-in_err-instructions-clause-formats : goal.returns-in_err-instructions-clause-formats
returns-in_err-instructions-clause-formats c = IfOk-from_err c.from_residual.result _ c.from_residual.ensures.0

pub returns-in_err-instructions-clause-type_sets : goal.returns-in_err-instructions-clause-type_sets
returns-in_err-instructions-clause-type_sets c = IfOk-from_err c.from_residual.result _ c.from_residual.ensures.0

pub returns-in_err-instructions-clause-few : goal.returns-in_err-instructions-clause-few
returns-in_err-instructions-clause-few c = IfOk-from_err c.from_residual.result _ c.from_residual.ensures.0

pub returns-in_err-formats-clause-valid : goal.returns-in_err-formats-clause-valid
returns-in_err-formats-clause-valid c = IfOk-from_err c.from_residual-in_err-formats.result _ c.from_residual-in_err-formats.ensures.0

pub returns-in_err-formats-clause-instructions : goal.returns-in_err-formats-clause-instructions
returns-in_err-formats-clause-instructions c =
    IfOk-from_err c.from_residual-in_err-formats.result _ c.from_residual-in_err-formats.ensures.0

pub returns-in_err-formats-clause-formats : goal.returns-in_err-formats-clause-formats
returns-in_err-formats-clause-formats c = IfOk-from_err c.from_residual-in_err-formats.result _ c.from_residual-in_err-formats.ensures.0

pub returns-in_err-formats-clause-type_sets : goal.returns-in_err-formats-clause-type_sets
returns-in_err-formats-clause-type_sets c = IfOk-from_err c.from_residual-in_err-formats.result _ c.from_residual-in_err-formats.ensures.0

pub returns-in_err-formats-clause-few : goal.returns-in_err-formats-clause-few
returns-in_err-formats-clause-few c = IfOk-from_err c.from_residual-in_err-formats.result _ c.from_residual-in_err-formats.ensures.0

pub returns-in_err-type_sets-clause-valid : goal.returns-in_err-type_sets-clause-valid
returns-in_err-type_sets-clause-valid c = IfOk-from_err c.from_residual-in_err-type_sets.result _ c.from_residual-in_err-type_sets.ensures.0

pub returns-in_err-type_sets-clause-instructions : goal.returns-in_err-type_sets-clause-instructions
returns-in_err-type_sets-clause-instructions c =
    IfOk-from_err c.from_residual-in_err-type_sets.result _ c.from_residual-in_err-type_sets.ensures.0

pub returns-in_err-type_sets-clause-formats : goal.returns-in_err-type_sets-clause-formats
returns-in_err-type_sets-clause-formats c =
    IfOk-from_err c.from_residual-in_err-type_sets.result _ c.from_residual-in_err-type_sets.ensures.0

pub returns-in_err-type_sets-clause-type_sets : goal.returns-in_err-type_sets-clause-type_sets
returns-in_err-type_sets-clause-type_sets c =
    IfOk-from_err c.from_residual-in_err-type_sets.result _ c.from_residual-in_err-type_sets.ensures.0

pub returns-in_err-type_sets-clause-few : goal.returns-in_err-type_sets-clause-few
returns-in_err-type_sets-clause-few c = IfOk-from_err c.from_residual-in_err-type_sets.result _ c.from_residual-in_err-type_sets.ensures.0

pub returns-in_err-instructions-clause-refused : goal.returns-in_err-instructions-clause-refused
returns-in_err-instructions-clause-refused c =
    handed_on _ c.from_residual.result (IsFirstFault c.args.set.now) c.from_residual.ensures.1 c.in_err-instructions.ensures.refused

pub returns-in_err-formats-clause-refused : goal.returns-in_err-formats-clause-refused
returns-in_err-formats-clause-refused c =
    handed_on _ c.from_residual-in_err-formats.result (IsFirstFault c.args.set.now) c.from_residual-in_err-formats.ensures.1
    c.in_err-formats.ensures.refused

pub returns-in_err-type_sets-clause-refused : goal.returns-in_err-type_sets-clause-refused
returns-in_err-type_sets-clause-refused c = only_memory c.from_residual-in_err-type_sets.result _ c.from_residual-in_err-type_sets.ensures.1
