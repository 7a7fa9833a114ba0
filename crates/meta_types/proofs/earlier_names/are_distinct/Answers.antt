use Rattle.std.proofs.Common.{length, refl}
use Rattle.std.proofs.lemmas.Option.{slice_get_read}
use Rattle.meta_lists.proofs.Options.{told_some, told_none}
use Rattle.meta_types.proofs.NamesSoFar.{none_kept, one_kept, not_distinct, all_kept}
use Rattle.meta_types.proofs.earlier_names.are_distinct.Goals as goal

pub loop-name-init : goal.loop-name-init
loop-name-init c = none_kept c.args.names.now _ c.new-earlier.ensures

pub returns-then-is_some : goal.returns-then-is_some
returns-then-is_some c =
    let names = c.args.names.now in
    let k = c.loop-name.name-index in
    let at = slice_get_read names (length names) k c.name-item.result refl c.loop-name-test.true c.name-item.is in
    let (j, shared) = told_some _ _ c.if-is_some.ensures c.in_ok-add.ensures.shared in
    not_distinct names k _ at _ c.loop-name.invariant j shared

pub loop-name-preserved : goal.loop-name-preserved
loop-name-preserved c =
    let names = c.args.names.now in
    let k = c.loop-name.name-index in
    let at = slice_get_read names (length names) k c.name-item.result refl c.loop-name-test.true c.name-item.is in
    one_kept names k _ at _ c.loop-name.invariant _ (told_none _ _ c.if-is_some.ensures c.in_ok-add.ensures.added)
    (told_none _ _ c.if-is_some.ensures c.in_ok-add.ensures.unshared)

pub returns : goal.returns
returns c = all_kept c.args.names.now c.loop-name.name-index _ c.loop-name.invariant c.loop-name-test.false
