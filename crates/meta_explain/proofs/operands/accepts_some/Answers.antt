use Rattle.std.proofs.Common.{◌≡◌, ℕ, List, Option, None, replicate, take, refl, sym, ◌∙◌, ap}
use Rattle.std.proofs.lemmas.Bool.{false≢true}
use Rattle.std.proofs.lemmas.List.{take-replicate}
use Rattle.meta_gen.specs.Constraint.{entry_of}
use Rattle.meta_inst.specs.Tables.{result_count, value_count}
use Rattle.meta_explain.proofs.Choosing.{is_opcode}
use Rattle.meta_explain.proofs.Combining.{some_by, by_some, some_first, some_second}
use Rattle.meta_explain.proofs.Typed.{fitting_types}
use Rattle.meta_explain.proofs.operands.accepts_some.Goals as goal

pub returns-in_default : goal.returns-in_default
returns-in_default c = (
  λ t. absurd (false≢true t),
  λ some. absurd (false≢true (c.in_default.ensures.opcode.1
      (is_opcode c.args.tables.now.entries c.args.opcode some.accepts.entry some.accepts.is_opcode))),
)

pub returns-then-not-control_fits : goal.returns-then-not-control_fits
returns-then-not-control_fits c = (
  λ t. absurd (false≢true t),
  λ some. absurd (false≢true (sym c.if-not-control_fits.true ∙ c.control_fits.ensures.1
      (some_first c.args.tables.now c.args.opcode c.args.controls (entry_of c.in-Some.entry) c.in-Some.ensures.entry some))),
)

pub returns-then-not-control_fits-2 : goal.returns-then-not-control_fits-2
returns-then-not-control_fits-2 c = (
  λ t. absurd (false≢true t),
  λ some. absurd (false≢true (sym c.if-not-control_fits-2.true ∙ c.control_fits-2.ensures.1
      (some_second c.args.tables.now c.args.opcode c.args.controls (entry_of c.in-Some.entry) c.in-Some.ensures.entry some))),
)

pub all_can_pass-requires-clause-types : goal.all_can_pass-requires-clause-types
all_can_pass-requires-clause-types c =
    fitting_types c.args.tables.now (entry_of c.in-Some.entry) c.args.controls c.opcode_count-count.ensures.well_formed
    (c.control_fits.ensures.0 c.if-not-control_fits.false) (c.control_fits-2.ensures.0 c.if-not-control_fits-2.false)

pub all_can_pass-requires-2-clause-types : goal.all_can_pass-requires-2-clause-types
all_can_pass-requires-2-clause-types c =
    fitting_types c.args.tables.now (entry_of c.in-Some.entry) c.args.controls c.opcode_count-count.ensures.well_formed
    (c.control_fits.ensures.0 c.if-not-control_fits.false) (c.control_fits-2.ensures.0 c.if-not-control_fits-2.false)

pub returns-then-not-all_can_pass : goal.returns-then-not-all_can_pass
returns-then-not-all_can_pass c =
    let e = entry_of c.in-Some.entry in
    let r : List (Option ℕ) = take c.result_count.result (replicate 7 None) in
    let any : r ≡ replicate (result_count e.flags) None =
    take-replicate c.result_count.result 7 None c.result_count.ensures.few ∙ ap (λ n. replicate n None) c.result_count.ensures.count in (
      λ t. absurd (false≢true t),
      λ some. absurd (false≢true (sym c.if-not-all_can_pass.true ∙ c.all_can_pass.ensures.1
          (some_by c.args.tables.now c.args.opcode e c.in-Some.ensures.entry r (replicate (value_count e.flags) None) any refl
          c.args.controls some).results_pass)),
    )

pub returns : goal.returns
returns c =
    let t = c.args.tables.now in
    let e = entry_of c.in-Some.entry in
    let r : List (Option ℕ) = take c.result_count.result (replicate 7 None) in
    let v : List (Option ℕ) = take c.value_count.result (replicate 7 None) in
    let any : r ≡ replicate (result_count e.flags) None =
    take-replicate c.result_count.result 7 None c.result_count.ensures.few ∙ ap (λ n. replicate n None) c.result_count.ensures.count in
    let any_too : v ≡ replicate (value_count e.flags) None =
    take-replicate c.value_count.result 7 None c.value_count.ensures.few ∙ ap (λ n. replicate n None) c.value_count.ensures.count in (
      λ true_is. by_some t c.args.opcode e c.in-Some.ensures.entry r v any any_too c.args.controls
          (c.control_fits.ensures.0 c.if-not-control_fits.false) (c.control_fits-2.ensures.0 c.if-not-control_fits-2.false)
          (c.all_can_pass.ensures.0 c.if-not-all_can_pass.false) (c.all_can_pass-2.ensures.0 true_is),
      λ some. c.all_can_pass-2.ensures.1 (some_by t c.args.opcode e c.in-Some.ensures.entry r v any any_too
          c.args.controls some).values_pass,
    )
