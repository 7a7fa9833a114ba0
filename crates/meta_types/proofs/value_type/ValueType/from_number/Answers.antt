use Rattle.std.proofs.Common.{arith, ◌∙◌, ap}
use Rattle.meta_types.specs.TypeParts.{number_of}
use Rattle.meta_types.proofs.Rows.{none_below, no_code, no_row, no_least_row, lane_number, number_found}
use Rattle.meta_types.proofs.value_type.ValueType.from_number.Goals as goal

pub returns-in_err-above-clause-none : goal.returns-in_err-above-clause-none
returns-in_err-above-clause-none c = rw c.from_residual.ensures (λ t h. none_below _ t c.in_err-above.ensures)

pub returns-in_err-lane-clause-none : goal.returns-in_err-lane-clause-none
returns-in_err-lane-clause-none c =
    rw c.from_residual-in_err-lane.ensures (λ t h. no_code _ c.in_ok-above.above t h
    (omega (arith, c.in_ok-above.ensures)) c.in_err-lane.ensures.none)

pub returns-then-row-eq0-clause-found : goal.returns-then-row-eq0-clause-found
returns-then-row-eq0-clause-found c = lane_number c.in_ok-lane.lane
    ∙ number_found c.args.n c.in_ok-above.above _ 0 0 (omega (arith, c.in_ok-above.ensures)) c.in_ok-lane.ensures.found
    (omega (arith, c.if-row-eq0.true))

pub returns-in_err-lanes-clause-none : goal.returns-in_err-lanes-clause-none
returns-in_err-lanes-clause-none c =
    rw c.from_residual-in_err-lanes.ensures (λ t h. no_row _ c.in_ok-above.above t h (omega (arith, c.in_ok-above.ensures))
    (omega (arith, c.if-row-eq0.false)) c.if-row-le8.true c.in_err-lanes.ensures.none)

pub returns-then-row-le8-clause-found : goal.returns-then-row-le8-clause-found
returns-then-row-le8-clause-found c = ap number_of c.of.ensures
    ∙ number_found c.args.n c.in_ok-above.above _ _ 0 (omega (arith, c.in_ok-above.ensures)) c.in_ok-lane.ensures.found
    (omega (arith, c.in_ok-lanes.ensures.found))

pub returns-in_err-least-clause-none : goal.returns-in_err-least-clause-none
returns-in_err-least-clause-none c =
    rw c.from_residual-in_err-least.ensures (λ t h. no_least_row _ c.in_ok-above.above t h
    (omega (arith, c.in_ok-above.ensures)) c.if-row-le8.false c.in_err-least.ensures.none)

pub returns-clause-found : goal.returns-clause-found
returns-clause-found c = ap number_of c.of-2.ensures
    ∙ number_found c.args.n c.in_ok-above.above _ _ 128 (omega (arith, c.in_ok-above.ensures)) c.in_ok-lane.ensures.found
    (omega (arith, c.in_ok-least.ensures.found, c.if-row-le8.false))
