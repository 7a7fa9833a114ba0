use Rattle.meta_text.proofs.LineParts.{arm_parts}
use Rattle.meta_text.proofs.Writing.{starts, goes_on, stops, ends, left_as}
use Rattle.meta_text.proofs.line_writer.put_arm.Goals as goal

pub returns-in_err-put_arm_head : goal.returns-in_err-put_arm_head
returns-in_err-put_arm_head g c = stops _ c.from_residual.ensures.1
    (left_as (arm_parts c.args.level c.args.name.now c.args.fields.now c.args.body.now) (starts _ _ _ _)) c.in_err-put_arm_head.ensures

pub returns : goal.returns
returns g c = ends (goes_on (left_as (arm_parts c.args.level c.args.name.now c.args.fields.now c.args.body.now)
    (starts _ _ _ _)) c.in_ok-put_arm_head.ensures) c.put_both.ensures
