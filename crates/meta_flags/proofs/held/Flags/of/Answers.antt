use Rattle.std.proofs.Common.{length, map, ap, arith}
use Rattle.meta_setting_tables.proofs.Inside.{all_kinds}
use Rattle.meta_flags.specs.Held.{value_of}
use Rattle.meta_flags.proofs.Defaults.{all_defaults, held}
use Rattle.meta_flags.proofs.held.Flags.of.Goals as goal

pub invariant_of-result : goal.invariant_of-result
invariant_of-result c =
    let t = c.args.group.now in
    let kinds = all_kinds t.descriptors in
    let count = ap length c.descriptors-entries.ensures.entries in
    let past = c.loop-index-test.false in
    held t (map value_of c.loop-index.values.items) c.descriptors-entries.ensures.well_formed (omega (arith, kinds))
    (all_defaults t t.descriptors c.loop-index.index _ _ (omega (arith, count, past)) c.loop-index.invariant)
