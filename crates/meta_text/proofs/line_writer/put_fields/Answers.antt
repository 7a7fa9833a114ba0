use Rattle.meta_text.proofs.LineParts.{next_field, no_field}
use Rattle.meta_text.proofs.Writing.{starts, goes_on, stops, left_as, all_written}
use Rattle.meta_text.proofs.line_writer.put_fields.Goals as goal

pub loop-field-init : goal.loop-field-init
loop-field-init g c = starts _ _ _ _

pub loop-field-preserved : goal.loop-field-preserved
loop-field-preserved g c =
    goes_on (left_as (next_field c.args.fields.now c.loop-field.field-index c.field-item.result c.as_bytes.result.now
    c.loop-field-test.true c.field-item.is c.as_bytes.ensures) c.loop-field.invariant) c.in_ok-put_both.ensures

pub returns-in_err-put_both : goal.returns-in_err-put_both
returns-in_err-put_both g c =
    stops _ c.from_residual.ensures.1
    (left_as (next_field c.args.fields.now c.loop-field.field-index c.field-item.result c.as_bytes.result.now c.loop-field-test.true
    c.field-item.is c.as_bytes.ensures) c.loop-field.invariant) c.in_err-put_both.ensures

pub returns : goal.returns
returns g c = all_written c.loop-field.invariant (no_field c.args.fields.now _ c.loop-field-test.false)
