use Rattle.std.proofs.Common.{refl}
use Rattle.meta_inst.specs.InstructionFaults.{ControlRule, SecondRule, DerivationRule, CountRule, MethodRule}
use Rattle.meta_inst.proofs.OwnFaults.{untrue, kept_control, broken_second, kept_second, broken_derivation, kept_derivation, broken_count}
use Rattle.meta_inst.proofs.OwnFaults.{kept_count, broken_method, kept_method}
use Rattle.meta_inst.proofs.Searching.{missing_lacks}
use Rattle.meta_inst.proofs.builder.InstructionBuilder.operands_fault.Goals as goal

pub returns-then-is_missing-clause-found : goal.returns-then-is_missing-clause-found
returns-then-is_missing-clause-found c = record {
  position = ControlRule;
  shows = (refl, missing_lacks c.args.vars.now _ c.args.control.now c.requires.found (c.is_missing.ensures.0 c.if-is_missing.true));
  first = c.requires.form c.args.number;
}

pub returns-then-has_bad_second-clause-found : goal.returns-then-has_bad_second-clause-found
returns-then-has_bad_second-clause-found c = record {
  position = SecondRule;
  shows = (
    refl,
    broken_second c.requires.operands c.args.control.now c.requires.found
        (untrue _ _ c.if-is_missing.false c.is_missing.ensures) (c.has_bad_second.ensures.0 c.if-has_bad_second.true),
  );
  first = kept_control c.requires.operands c.args.control.now c.requires.found
      (untrue _ _ c.if-is_missing.false c.is_missing.ensures) c.requires.form c.args.number;
}

pub returns-in-Some-clause-found : goal.returns-in-Some-clause-found
returns-in-Some-clause-found c =
    let there = untrue _ _ c.if-is_missing.false c.is_missing.ensures in
    record {
      position = DerivationRule;
      shows = (
        c.in-Some.place,
        refl,
        broken_derivation c.requires.operands c.args.control.now c.requires.found there c.in-Some.place c.in-Some.ensures.found,
      );
      first = kept_second c.requires.operands c.args.control.now c.requires.found there c.requires.form
          (untrue _ _ c.if-has_bad_second.false c.has_bad_second.ensures) c.args.number;
    }

pub returns-in-Some-too_many-clause-found : goal.returns-in-Some-too_many-clause-found
returns-in-Some-too_many-clause-found c = record {
  position = CountRule;
  shows = (
    c.in-Some-too_many.count,
    refl,
    broken_count c.requires.operands _ _ c.result_count-results.ensures.count c.variables.ensures _ c.in-Some-too_many.ensures.found,
  );
  first = kept_derivation c.requires.operands c.args.control.now c.requires.found
      (untrue _ _ c.if-is_missing.false c.is_missing.ensures) c.requires.form
      (untrue _ _ c.if-has_bad_second.false c.has_bad_second.ensures) c.in_default.ensures.none c.args.number;
}

pub returns-then-has_bad_imm_method-clause-found : goal.returns-then-has_bad_imm_method-clause-found
returns-then-has_bad_imm_method-clause-found c =
    let before = kept_derivation c.requires.operands c.args.control.now c.requires.found
    (untrue _ _ c.if-is_missing.false c.is_missing.ensures) c.requires.form
    (untrue _ _ c.if-has_bad_second.false c.has_bad_second.ensures) c.in_default.ensures.none in
    record {
      position = MethodRule;
      shows = (
        refl,
        broken_method c.requires.operands _ _ c.result_count-results.ensures.count c.variables.ensures _ _ c.get.ensures
            c.format.ensures (c.has_bad_imm_method.ensures.0 c.if-has_bad_imm_method.true),
      );
      first = kept_count c.requires.operands _ _ c.result_count-results.ensures.count c.variables.ensures before
          c.in_default-too_many.ensures.none c.args.number;
    }

pub returns-clause-none : goal.returns-clause-none
returns-clause-none c =
    let derived = kept_derivation c.requires.operands c.args.control.now c.requires.found
    (untrue _ _ c.if-is_missing.false c.is_missing.ensures) c.requires.form
    (untrue _ _ c.if-has_bad_second.false c.has_bad_second.ensures) c.in_default.ensures.none in
    let counted = kept_count c.requires.operands _ _ c.result_count-results.ensures.count c.variables.ensures derived
    c.in_default-too_many.ensures.none in
    kept_method c.requires.operands _ _ c.result_count-results.ensures.count c.variables.ensures _ _ c.get.ensures c.format.ensures counted
    (untrue _ _ c.if-has_bad_imm_method.false c.has_bad_imm_method.ensures)
