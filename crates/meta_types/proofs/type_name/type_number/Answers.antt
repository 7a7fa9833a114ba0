use Rattle.std.proofs.Common.{sym, ap, ◌∙◌}
use Rattle.std.specs.Prelude.{Some}
use Rattle.meta_types.proofs.TypeNumbers.{named_by, no_lane, no_row}
use Rattle.meta_types.proofs.type_name.type_number.Goals as goal

pub returns-in_err-code-clause-none : goal.returns-in_err-code-clause-none
returns-in_err-code-clause-none c =
    rw c.from_residual.ensures
    (no_lane c.args.name.now _ _ _ c.lane_len.ensures.length c.split_at.ensures.front c.split_at.ensures.back
    (sym c.in_err-code.ensures))

pub returns-in_err-row-clause-none : goal.returns-in_err-row-clause-none
returns-in_err-row-clause-none c =
    rw c.from_residual-in_err-row.ensures
    (no_row c.args.name.now _ _ _ c.lane_len.ensures.length c.split_at.ensures.front c.split_at.ensures.back (sym c.in_err-row.ensures))

pub returns-clause-found : goal.returns-clause-found
returns-clause-found c =
    named_by c.args.name.now _ _ _ c.lane_len.ensures.length c.split_at.ensures.front c.split_at.ensures.back
    c.from.result c.from-2.result (sym c.in_ok-code.ensures ∙ ap Some (sym c.from.ensures))
    (sym c.in_ok-row.ensures ∙ ap Some (sym c.from-2.ensures))
