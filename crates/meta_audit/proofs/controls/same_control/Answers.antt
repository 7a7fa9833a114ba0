use Rattle.std.proofs.Common.{◌≡◌, ◌↔◌, ℕ, Some, ◌∙◌, arith}
use Rattle.meta_inst.specs.Tables.{ControlNumberFits}
use Rattle.meta_audit.proofs.Typed.{same_control}
use Rattle.meta_audit.proofs.OneForm.{same_masks_fit, none_there}
use Rattle.meta_audit.proofs.Deciding.{granted, both_decide, one_more, compared_equal}
use Rattle.meta_audit.proofs.controls.same_control.Goals as goal

pub returns-then-is_absent : goal.returns-then-is_absent
returns-then-is_absent c =
    let absent = c.control_fits-is_absent.ensures.0 c.if-is_absent.true in
    granted (none_there c.args.own.now c.args.other.now c.args.offset c.args.other_offset absent
    ((both_decide c.control_fits.result c.control_fits-is_absent.result c.control_fits.ensures c.control_fits-is_absent.ensures
    (compared_equal _ _ c.if-control_fits-is_absent.false)).1 absent))

pub returns-then-same_masks : goal.returns-then-same_masks
returns-then-same_masks c =
    granted (same_masks_fit c.args.own.now c.args.other.now c.args.offset c.args.other_offset c.requires.own c.requires.other
    (c.same_masks.ensures.0 c.if-same_masks.true))

pub loop-n-preserved : goal.loop-n-preserved
loop-n-preserved c =
    one_more (λ m. ControlNumberFits c.args.own.now c.args.offset (Some m)
    ↔ ControlNumberFits c.args.other.now c.args.other_offset (Some m)) 112 c.loop-n.n c.loop-n.invariant
    (both_decide c.control_fits-in-loop-n.result c.control_fits-in-loop-n-2.result c.control_fits-in-loop-n.ensures
    c.control_fits-in-loop-n-2.ensures (compared_equal _ _ c.if-control_fits.false))

pub returns : goal.returns
returns c =
    let absent = both_decide c.control_fits.result c.control_fits-is_absent.result c.control_fits.ensures c.control_fits-is_absent.ensures
    (compared_equal _ _ c.if-control_fits-is_absent.false) in
    granted (same_control c.args.own.now c.args.other.now c.args.offset c.args.other_offset ((λ f. absent.1 f), (λ f. absent.0 f))
    (λ n low less. let past = c.loop-n-test.false in c.loop-n.invariant n low (omega (arith, less, past))))
