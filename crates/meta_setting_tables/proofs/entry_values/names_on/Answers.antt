use Rattle.std.proofs.Common.{◌+◌, ◌++◌, List, append-nil, length, map, drop, refl, sym, ap, ◌∙◌}
use Rattle.std.proofs.lemmas.Option.{slice_get_read, slice_get_past}
use Rattle.meta_lists.proofs.Places.{drop_past}
use Rattle.meta_setting_tables.specs.declared.descriptor.Descriptor.{Descriptor}
use Rattle.meta_setting_tables.specs.EntryValues.{names_on}
use Rattle.meta_setting_tables.proofs.NamesOn.{name_added, one_on, one_off, at_preset}
use Rattle.meta_setting_tables.proofs.entry_values.names_on.Goals as goal
use Rattle.meta_setting_tables.proofs.entry_values.names_on.Goals.{then-is_on+in_ok-push, else-is_on}

pub returns-then-is_preset : goal.returns-then-is_preset
returns-then-is_preset c =
    let ds = c.args.entries.now in
    let there = slice_get_read ds (length ds) c.loop-entry.entry-index c.entry-item.result refl c.loop-entry-test.true c.entry-item.is in
    at_preset c.args.bytes.now ds c.loop-entry.entry-index _ c.entry-item.result there c.loop-entry.invariant c.requires
    (c.is_preset.ensures.0 c.if-is_preset.true)

pub loop-entry-preserved : goal.loop-entry-preserved
loop-entry-preserved c =
    let ds = c.args.entries.now in
    let d = c.entry-item.result in
    let there = slice_get_read ds (length ds) c.loop-entry.entry-index d refl c.loop-entry-test.true c.entry-item.is in
    let left = names_on (drop (c.loop-entry.entry-index + 1) ds) c.args.bytes.now in
    elim c.if-is_on.branch [
      | then-is_on+in_ok-push w ↦
          ap (λ ns. ns ++ left) (name_added c.loop-entry.names.items c.if-is_on.names.items w.as_str.result d.name
          (ap (λ v. v.items) w.names-is ∙ w.in_ok-push.ensures.items) w.as_str.ensures)
          ∙ one_on c.args.bytes.now ds c.loop-entry.entry-index _ d there c.loop-entry.invariant (sym c.is_on.ensures ∙ w.if-is_on.true)
      | else-is_on w ↦
          ap (λ v. map (λ n. n.now) v.items ++ left) w.names-is
          ∙ one_off c.args.bytes.now ds c.loop-entry.entry-index _ d there c.loop-entry.invariant (sym c.is_on.ensures ∙ w.if-is_on.false)
    ]

pub returns : goal.returns
returns c =
    let ds = c.args.entries.now in
    let none = drop_past ds c.loop-entry.entry-index (slice_get_past ds c.loop-entry.entry-index c.loop-entry-test.false) in
    sym (ap (λ (es : List Descriptor). map (λ n. n.now) c.loop-entry.names.items ++ names_on es c.args.bytes.now) none ∙ append-nil _)
    ∙ c.loop-entry.invariant
