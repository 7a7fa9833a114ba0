use Rattle.std.proofs.Common.{◌≡◌, ◌∙◌, ◌+◌, ◌-◌, ◌≤◌, sym, ap, subst, refl, arith, true, false, Some, None, length, take, drop}
use Rattle.std.specs.Prelude.{slice_get}
use Rattle.std.proofs.lemmas.List.{length-take, length-drop}
use Rattle.std.proofs.lemmas.Option.{slice_get_past, same_Some}
use Rattle.meta_setting_tables.specs.GroupTables.{GroupContents, IsInside}
use Rattle.meta_setting_tables.proofs.EntriesRead.{read_at}
use Rattle.meta_setting_tables.proofs.Inside.{inside_of}
use Rattle.meta_setting_tables.proofs.group_tables.GroupTables.masks_of.Goals as goal

pub returns-in_err-descriptor-clause-none : goal.returns-in_err-descriptor-clause-none
returns-in_err-descriptor-clause-none c =
    let ds = c.args.self.now.descriptors in
    let same : c.deref.result.now ≡ ds = c.deref.ensures.value ∙ ap (λ (t : GroupContents). t.descriptors) c.self.view_is in
    let none : slice_get ds c.args.preset ≡ None = ap (λ w. slice_get w c.args.preset) (sym same)
    ∙ slice_get_past c.deref.result.now c.args.preset c.in_err-descriptor.ensures.lookup.3 in
    rw c.from_residual.ensures (λ d p. let e : None ≡ Some d = sym none ∙ p.there in absurd (cc))

pub returns-then-not-is_preset-clause-none : goal.returns-then-not-is_preset-clause-none
returns-then-not-is_preset-clause-none c = λ d p.
    let h = c.in_ok-descriptor.ensures.lookup in
    let there = c.in_ok-descriptor.descriptor.now in
    let at = read_at c.args.self.now.descriptors c.deref.result.now c.args.preset there (c.deref.ensures.value
    ∙ ap (λ (t : GroupContents). t.descriptors) c.self.view_is) h.3.0 (h.3.1 there) in
    let bad : false ≡ true = c.if-not-is_preset.ensures.1 (ap (λ w. w.detail) (same_Some _ _ (sym at ∙ p.there)) ∙ p.is_preset) in
    absurd (cc)

pub returns-clause-masks : goal.returns-clause-masks
returns-clause-masks c =
    let h = c.in_ok-descriptor.ensures.lookup in
    let d = c.in_ok-descriptor.descriptor.now in
    let at = read_at c.args.self.now.descriptors c.deref.result.now c.args.preset d (c.deref.ensures.value
    ∙ ap (λ (t : GroupContents). t.descriptors) c.self.view_is) h.3.0 (h.3.1 d) in
    let size : c.len.result ≡ length c.args.self.now.defaults = c.len.ensures ∙ c.self.inside.defaults.ok.0
    ∙ ap (λ (t : GroupContents). length t.defaults) c.self.view_is in
    let count : (d.offset + c.len.result) - d.offset ≡ length c.args.self.now.defaults = omega arith in (
      d,
      record { there = at; is_preset = c.if-not-is_preset.ensures.0 refl },
      ap (λ n. take n (drop d.offset c.deref-2.result.now)) count
          ∙ ap (λ w. take (length c.args.self.now.defaults) (drop d.offset w)) (c.deref-2.ensures.value
          ∙ ap (λ (t : GroupContents). t.preset_masks) c.self.view_is),
    )

pub returns-clause-size : goal.returns-clause-size
returns-clause-size c =
    let h = c.in_ok-descriptor.ensures.lookup in
    let d = c.in_ok-descriptor.descriptor.now in
    let at = read_at c.self.inside.descriptors.items c.deref.result.now c.args.preset d c.deref.ensures.value h.3.0 (h.3.1 d) in
    let inside : d.offset + length c.self.inside.defaults.items ≤ length c.self.inside.preset_masks.items =
    subst (IsInside (length c.self.inside.defaults.items) (length c.self.inside.preset_masks.items) d.offset)
    (c.if-not-is_preset.ensures.0 refl) (inside_of _ c.self.invariant.well_formed c.args.preset d at) in
    let size : c.len.result ≡ length c.self.inside.defaults.items = c.len.ensures ∙ c.self.inside.defaults.ok.0 in
    let same = ap (λ (t : GroupContents). length t.defaults) c.self.view_is in
    let masks = ap length c.deref-2.ensures.value in
    omega (
      arith,
      length-take ((d.offset + c.len.result) - d.offset) (drop d.offset c.deref-2.result.now),
      length-drop d.offset c.deref-2.result.now,
    )

pub slice_bounds-result-end : goal.slice_bounds-result-end
slice_bounds-result-end c =
    let h = c.in_ok-descriptor.ensures.lookup in
    let d = c.in_ok-descriptor.descriptor.now in
    let at = read_at c.self.inside.descriptors.items c.deref.result.now c.args.preset d c.deref.ensures.value h.3.0 (h.3.1 d) in
    let inside : d.offset + length c.self.inside.defaults.items ≤ length c.self.inside.preset_masks.items =
    subst (IsInside (length c.self.inside.defaults.items) (length c.self.inside.preset_masks.items) d.offset)
    (c.if-not-is_preset.ensures.0 refl) (inside_of _ c.self.invariant.well_formed c.args.preset d at) in
    let size : c.len.result ≡ length c.self.inside.defaults.items = c.len.ensures ∙ c.self.inside.defaults.ok.0 in
    let masks = ap length c.deref-2.ensures.value in
    omega arith
