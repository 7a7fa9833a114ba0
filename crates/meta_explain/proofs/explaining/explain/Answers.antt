use Rattle.std.proofs.Common.{refl}
use Rattle.std.proofs.lemmas.Result.{IfOk-from_err}
use Rattle.meta_explain.proofs.Failing.{all_accepted, refused, types_of_operand, few_operands}
use Rattle.meta_explain.specs.Parts.{FailsFirst}
use Rattle.meta_explain.specs.declared.explained.Explained.TheVariants.{Refuse}
use Rattle.meta_explain.proofs.Told.{told_types}
use Rattle.meta_explain.proofs.explaining.explain.Goals as goal

pub wanted_of-requires-clause-few : goal.wanted_of-requires-clause-few
wanted_of-requires-clause-few c = few_operands _ _ _ _ _ _ c.in-Some-first_failing.ensures.some

pub wanted_of-requires-clause-types : goal.wanted_of-requires-clause-types
wanted_of-requires-clause-types c =
    types_of_operand _ _ _ _ _ _ c.in-Some-first_failing.ensures.some c.opcode_count-count.ensures.well_formed

pub returns-in_default-first_failing-clause-explained : goal.returns-in_default-first_failing-clause-explained
returns-in_default-first_failing-clause-explained c =
    all_accepted _ _ _ _ _ _ c.in-Some.ensures.entry c.in_default-first_failing.ensures.none

pub returns-in_default-first_failing-clause-accept : goal.returns-in_default-first_failing-clause-accept
returns-in_default-first_failing-clause-accept c = (
  λ e. all_accepted _ _ _ _ _ _ c.in-Some.ensures.entry c.in_default-first_failing.ensures.none,
  λ a. refl,
)

pub returns-clause-explained : goal.returns-clause-explained
returns-clause-explained c = (
  record { entry = _; is_opcode = c.in-Some.ensures.entry; first = c.in-Some-first_failing.ensures.some },
  c.in_ok-wanted.ensures,
)

pub returns-clause-types : goal.returns-clause-types
returns-clause-types c =
    let t = c.args.tables.now in
    let first : FailsFirst t c.args.opcode c.args.controls c.args.results.now c.args.values.now c.in-Some-first_failing.part =
    record { entry = _; is_opcode = c.in-Some.ensures.entry; first = c.in-Some-first_failing.ensures.some } in
    told_types t c.args.opcode c.args.controls c.args.results.now c.args.values.now
    (Refuse c.in-Some-first_failing.part c.in_ok-wanted.wanted) c.opcode_count-count.ensures.well_formed (first, c.in_ok-wanted.ensures)

pub returns-clause-accept : goal.returns-clause-accept
returns-clause-accept c = (
  λ e. absurd (cc),
  λ a. absurd (refused _ _ _ _ _ _
      (record { entry = _; is_opcode = c.in-Some.ensures.entry; first = c.in-Some-first_failing.ensures.some }) a),
)

pub returns-in_err-wanted-clause-opcode : goal.returns-in_err-wanted-clause-opcode
returns-in_err-wanted-clause-opcode c = IfOk-from_err c.from_residual.result _ c.from_residual.ensures.0

pub returns-in_err-wanted-clause-explained : goal.returns-in_err-wanted-clause-explained
returns-in_err-wanted-clause-explained c = IfOk-from_err c.from_residual.result _ c.from_residual.ensures.0

pub returns-in_err-wanted-clause-types : goal.returns-in_err-wanted-clause-types
returns-in_err-wanted-clause-types c = IfOk-from_err c.from_residual.result _ c.from_residual.ensures.0

pub returns-in_err-wanted-clause-accept : goal.returns-in_err-wanted-clause-accept
returns-in_err-wanted-clause-accept c = IfOk-from_err c.from_residual.result _ c.from_residual.ensures.0
