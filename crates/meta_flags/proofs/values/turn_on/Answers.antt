use Rattle.std.proofs.Common.{◌≡◌, true, length, map, slice_get, Some, refl, sym, ap, ◌∙◌, arith}
use Rattle.std.proofs.lemmas.List.{map-set}
use Rattle.std.proofs.lemmas.Option.{slice_get_read}
use Rattle.meta_lists.proofs.Mapped.{get_map}
use Rattle.meta_setting_tables.specs.declared.descriptor.Descriptor.{Descriptor}
use Rattle.meta_setting_tables.specs.EntryValues.{is_on}
use Rattle.meta_flags.specs.declared.flag_value.FlagValue.TheVariants.{Bool}
use Rattle.meta_flags.specs.Held.{value_of}
use Rattle.meta_flags.proofs.TurningOn.{one_on, one_off}
use Rattle.meta_flags.proofs.values.turn_on.Goals as goal
use Rattle.meta_flags.proofs.values.turn_on.Goals.{then-is_on, else-is_on}

pub loop-k-preserved : goal.loop-k-preserved
loop-k-preserved c =
    let ds = c.args.entries.now in
    let k = c.loop-k.k in
    let d = c.index-entries-k.result in
    let on = λ (x : Descriptor). is_on c.args.bytes.now x.offset x.detail in
    let less = c.loop-k-test.true in
    let count = c.requires in
    let there = slice_get_read ds (length ds) k d refl (omega (arith, less, count)) c.index-entries-k.is in
    let at : slice_get (map on ds) k ≡ Some (on d) = get_map on ds k d there in
    elim c.if-is_on.branch [
      | then-is_on w ↦ ap (map value_of) w.values-is ∙ map-set value_of c.loop-k.values k (Bool true)
          ∙ one_on (map on ds) k (map value_of c.args.values.now) (map value_of c.loop-k.values) (at
          ∙ ap Some (sym c.is_on.ensures ∙ w.if-is_on.true)) c.loop-k.invariant
      | else-is_on w ↦ ap (map value_of) w.values-is
          ∙ one_off (map on ds) k (map value_of c.args.values.now) (map value_of c.loop-k.values) (at
          ∙ ap Some (sym c.is_on.ensures ∙ w.if-is_on.false)) c.loop-k.invariant
    ]
