use Rattle.std.proofs.Common.{[], length, refl, sym, arith}
use Rattle.std.proofs.lemmas.Option.{slice_get_read, get_or_from_slice_get}
use Rattle.meta_flags.proofs.Defaults.{num_default, no_num_default, enum_default, has_values}
use Rattle.meta_flags.proofs.values.default_of.Goals as goal

pub returns-in_err-default-in-Num : goal.returns-in_err-default-in-Num
returns-in_err-default-in-Num c =
    let d = c.args.entry.now in
    absurd (no_num_default c.args.group.now c.args.index d c.requires.there c.default_value.result c.in-Num.is
    (c.default_value.ensures.entry d c.requires.there) c.in_err-default-in-Num.was)

pub returns-in-empty : goal.returns-in-empty
returns-in-empty c =
    let d = c.args.entry.now in
    let few = c.in-empty.len_below in
    absurd (has_values c.args.group.now c.args.index d c.requires.there _ _ c.in-Enum.is c.values.result.now
    (c.values.ensures.entry d c.requires.there) c.requires.well_formed (omega (arith, few)))

pub returns-in-len1-up : goal.returns-in-len1-up
returns-in-len1-up c =
    let d = c.args.entry.now in
    let values = c.values.result.now in
    let some = c.in-len1-up.len_at_least in
    let there = slice_get_read values (length values) 0 c.first-item.result refl (omega (arith, some)) c.first-item.is in
    enum_default c.args.group.now c.args.index d c.requires.there _ _ c.in-Enum.is values
    (c.values.ensures.entry d c.requires.there) c.first-item.result (sym (get_or_from_slice_get values 0 c.first-item.result [] there))

pub returns-in_ok-default-in-Num : goal.returns-in_ok-default-in-Num
returns-in_ok-default-in-Num c =
    let d = c.args.entry.now in
    num_default c.args.group.now c.args.index d c.requires.there c.default_value.result _ c.in-Num.is
    (c.default_value.ensures.entry d c.requires.there) c.in_ok-default-in-Num.was
