use Rattle.std.proofs.Common.{map, slice_set, refl, sym, ◌∙◌, subst, arith}
use Rattle.std.proofs.lemmas.Bool.{false≢true}
use Rattle.std.proofs.lemmas.List.{length-map, map-set}
use Rattle.std.proofs.lemmas.Option.{none-some}
use Rattle.meta_lists.proofs.Mapped.{get_mapped}
use Rattle.meta_setting_tables.specs.declared.descriptor.Descriptor.{Descriptor}
use Rattle.meta_flags.specs.Served.{State, served_in, kind_in}
use Rattle.meta_flags.specs.Changes.{HasNone, IsSet, IsOfPreset, IsNoValue}
use Rattle.meta_flags.specs.Held.{FlagContents, value_of, AreHeld}
use Rattle.meta_flags.proofs.Entries.{has_none, is_entry}
use Rattle.meta_flags.proofs.SetLemmas.{preset_kind, setting_detail, setting_kind}
use Rattle.meta_flags.proofs.OfKinds.{text_kind, held_set}
use Rattle.meta_flags.proofs.held.Flags.set.Goals as goal

pub returns-in_default-clause-set : goal.returns-in_default-clause-set
returns-in_default-clause-set c =
    let t = c.self.inside.group.now in (
      subst (λ (f : FlagContents). HasNone (served_in f.group) c.args.name.now) c.self.view_is
          (has_none t c.args.name.now c.in_default.ensures.found),
      refl,
    )

pub returns-in_default-descriptor-clause-set : goal.returns-in_default-descriptor-clause-set
returns-in_default-descriptor-clause-set c =
    let t = c.self.inside.group.now in
    let (d, at, _) = get_mapped (λ (x : Descriptor). x.name) t.descriptors c.in-Some.index c.args.name.now c.in-Some.ensures.found.holds in
    absurd (none-some d (c.in_default-descriptor.ensures.entry ∙ at))

pub returns-then-is_preset-clause-set : goal.returns-then-is_preset-clause-set
returns-then-is_preset-clause-set c =
    let t = c.self.inside.group.now in
    let d = c.in-Some-descriptor.entry.now in (
      subst (λ (f : FlagContents). IsOfPreset (served_in f.group) c.args.name.now) c.self.view_is (record {
        place = c.in-Some.index;
        kind = kind_in t d.offset d.detail;
        entry = is_entry t c.args.name.now c.in-Some.index d c.in-Some.ensures.found (sym c.in-Some-descriptor.ensures.entry);
        is_preset = preset_kind t d.offset d.detail (c.is_preset.ensures.0 c.if-is_preset.true);
      }),
      refl,
    )

pub returns-in_default-value_in-clause-set : goal.returns-in_default-value_in-clause-set
returns-in_default-value_in-clause-set c =
    let t = c.self.inside.group.now in
    let d = c.in-Some-descriptor.entry.now in (
      subst (λ (f : FlagContents). IsNoValue (served_in f.group) c.args.name.now c.args.value.now) c.self.view_is (record {
        place = c.in-Some.index;
        kind = kind_in t d.offset d.detail;
        entry = is_entry t c.args.name.now c.in-Some.index d c.in-Some.ensures.found (sym c.in-Some-descriptor.ensures.entry);
        setting = setting_kind t d.offset d.detail (λ e. false≢true (sym c.if-is_preset.false ∙ c.is_preset.ensures.1 e));
        none = c.in_default-value_in.ensures.none;
      }),
      refl,
    )

pub index_mut-requires : goal.index_mut-requires
index_mut-requires c =
    let d = c.in-Some-descriptor.entry.now in
    let at = sym c.in-Some-descriptor.ensures.entry in
    let less = (c.self.invariant.settings c.in-Some.index d at).0
    (setting_detail d.detail (λ e. false≢true (sym c.if-is_preset.false ∙ c.is_preset.ensures.1 e))) in
    let mapped = length-map c.self.inside.values.items value_of in
    omega (arith, less, mapped)

-- the setting gets a value that it can have
pub invariant_of-self : goal.invariant_of-self
invariant_of-self c =
    let t = c.self.inside.group.now in
    let items = c.self.inside.values.items in
    let index = c.in-Some.index in
    let d = c.in-Some-descriptor.entry.now in
    let v = c.in-Some-value_in.written in
    subst (λ (s : State). AreHeld (record { group = t; state = s })) (sym (map-set value_of items index v))
    (held_set t (map value_of items) index d (value_of v) c.self.invariant (sym c.in-Some-descriptor.ensures.entry)
    (text_kind (kind_in t d.offset d.detail) c.args.value.now (value_of v) c.in-Some-value_in.ensures.some))

pub returns-clause-set : goal.returns-clause-set
returns-clause-set c =
    let t = c.self.inside.group.now in
    let d = c.in-Some-descriptor.entry.now in
    let v = c.in-Some-value_in.written in
    subst (λ (f : FlagContents). IsSet (served_in f.group) c.args.name.now c.args.value.now f.state
    (map value_of (slice_set c.self.inside.values.items c.in-Some.index v))) c.self.view_is (record {
      place = c.in-Some.index;
      kind = kind_in t d.offset d.detail;
      entry = is_entry t c.args.name.now c.in-Some.index d c.in-Some.ensures.found (sym c.in-Some-descriptor.ensures.entry);
      value = value_of v;
      is_text = c.in-Some-value_in.ensures.some;
      changed = map-set value_of c.self.inside.values.items c.in-Some.index v;
    })
