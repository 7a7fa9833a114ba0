use Rattle.std.proofs.Common.{refl}
use Rattle.meta_text.proofs.LineParts.{head_parts}
use Rattle.meta_text.proofs.Writing.{starts, goes_on, stops, ends, left_as}
use Rattle.meta_text.proofs.line_writer.put_arm_head.Goals as goal

pub returns-in_err-put_line-in-len1-up : goal.returns-in_err-put_line-in-len1-up
returns-in_err-put_line-in-len1-up g c =
    stops _ c.from_residual.ensures.1
    (left_as (head_parts c.args.level c.args.name.now c.args.fields.now c.first-item.result c.first-item.result
    c.in-len1-up.len_at_least c.first-item.is refl) (starts _ _ _ _)) c.in_err-put_line-in-len1-up.ensures

pub returns-in_err-put-in-len1-up : goal.returns-in_err-put-in-len1-up
returns-in_err-put-in-len1-up g c =
    stops _ c.from_residual-in_err-put-in-len1-up.ensures.1
    (goes_on (left_as (head_parts c.args.level c.args.name.now c.args.fields.now c.first-item.result c.as_bytes.result.now
    c.in-len1-up.len_at_least c.first-item.is c.as_bytes.ensures) (starts _ _ _ _)) c.in_ok-put_line-in-len1-up.ensures)
    c.in_err-put-in-len1-up.ensures

pub returns-in_err-put_fields-in-len1-up : goal.returns-in_err-put_fields-in-len1-up
returns-in_err-put_fields-in-len1-up g c =
    stops _ c.from_residual-in_err-put_fields-in-len1-up.ensures.1
    (goes_on (goes_on (left_as (head_parts c.args.level c.args.name.now c.args.fields.now c.first-item.result c.as_bytes.result.now
    c.in-len1-up.len_at_least c.first-item.is c.as_bytes.ensures) (starts _ _ _ _)) c.in_ok-put_line-in-len1-up.ensures)
    c.in_ok-put-in-len1-up.ensures)
    c.in_err-put_fields-in-len1-up.ensures

pub returns-in_ok-put_fields-in-len1-up : goal.returns-in_ok-put_fields-in-len1-up
returns-in_ok-put_fields-in-len1-up g c =
    ends
    (goes_on (goes_on (goes_on (left_as
    (head_parts c.args.level c.args.name.now c.args.fields.now c.first-item.result c.as_bytes.result.now c.in-len1-up.len_at_least
    c.first-item.is c.as_bytes.ensures) (starts _ _ _ _)) c.in_ok-put_line-in-len1-up.ensures) c.in_ok-put-in-len1-up.ensures)
    c.in_ok-put_fields-in-len1-up.ensures)
    c.put-in-len1-up.ensures
