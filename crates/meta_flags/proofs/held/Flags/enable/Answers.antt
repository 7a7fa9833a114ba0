use Rattle.std.proofs.Common.{inl, inr, true, map, slice_set, refl, sym, ap, ◌∙◌, subst, arith}
use Rattle.std.proofs.lemmas.List.{length-map, map-set}
use Rattle.std.proofs.lemmas.Option.{none-some}
use Rattle.meta_lists.proofs.Mapped.{get_mapped}
use Rattle.meta_setting_tables.specs.declared.descriptor.Detail.{Detail}
use Rattle.meta_setting_tables.specs.declared.descriptor.Descriptor.{Descriptor}
use Rattle.meta_setting_tables.specs.GroupTables.{IsPresetIn}
use Rattle.meta_setting_tables.specs.WellFormed.{is_preset}
use Rattle.meta_flags.specs.declared.flag_value.FlagValue.TheVariants.{Bool}
use Rattle.meta_flags.specs.Served.{BoolValue, State, served_in, kind_in}
use Rattle.meta_flags.specs.Changes.{CanHave, HasNone, IsNamedEntry, IsOfNoSwitch, IsEnabled, Enabled}
use Rattle.meta_flags.specs.Held.{FlagContents, value_of, AreHeld}
use Rattle.meta_flags.proofs.Entries.{has_none, is_entry}
use Rattle.meta_flags.proofs.OfKinds.{held_set}
use Rattle.meta_flags.proofs.held.Flags.enable.Goals as goal

pub returns-in_default-clause-enabled : goal.returns-in_default-clause-enabled
returns-in_default-clause-enabled c =
    let t = c.self.inside.group.now in (
      subst (λ (f : FlagContents). HasNone (served_in f.group) c.args.name.now) c.self.view_is
          (has_none t c.args.name.now c.in_default.ensures.found),
      refl,
    )

pub returns-in_default-descriptor-clause-enabled : goal.returns-in_default-descriptor-clause-enabled
returns-in_default-descriptor-clause-enabled c =
    let t = c.self.inside.group.now in
    let (d, at, _) = get_mapped (λ (x : Descriptor). x.name) t.descriptors c.in-Some.index c.args.name.now c.in-Some.ensures.found.holds in
    absurd (none-some d (c.in_default-descriptor.ensures.entry ∙ at))

pub index_mut-requires : goal.index_mut-requires
index_mut-requires c =
    let at = sym c.in-Some-descriptor.ensures.entry in
    let less = (c.self.invariant.settings c.in-Some.index c.in-Some-descriptor.entry.now at).0 (ap is_preset c.in-Bool.is) in
    let mapped = length-map c.self.inside.values.items value_of in
    omega (arith, less, mapped)

-- the boolean becomes true
pub invariant_of-self : goal.invariant_of-self
invariant_of-self c =
    let t = c.self.inside.group.now in
    let items = c.self.inside.values.items in
    let index = c.in-Some.index in
    let d = c.in-Some-descriptor.entry.now in
    subst (λ (s : State). AreHeld (record { group = t; state = s })) (sym (map-set value_of items index (Bool true)))
    (held_set t (map value_of items) index d (BoolValue true) c.self.invariant (sym c.in-Some-descriptor.ensures.entry)
    (subst (λ (x : Detail). CanHave (kind_in t d.offset x) (BoolValue true)) (sym c.in-Bool.is) (true, refl)))

pub returns-in-Bool-clause-enabled : goal.returns-in-Bool-clause-enabled
returns-in-Bool-clause-enabled c =
    let t = c.self.inside.group.now in
    let d = c.in-Some-descriptor.entry.now in
    let new = map value_of (slice_set c.self.inside.values.items c.in-Some.index (Bool true)) in
    subst (λ (f : FlagContents). Enabled (served_in f.group) c.args.name.now f.state new) c.self.view_is (record {
      place = c.in-Some.index;
      kind = kind_in t d.offset d.detail;
      entry = is_entry t c.args.name.now c.in-Some.index d c.in-Some.ensures.found (sym c.in-Some-descriptor.ensures.entry);
      changed = subst (λ (x : Detail). IsEnabled (kind_in t d.offset x) c.in-Some.index (map value_of c.self.inside.values.items) new)
          (sym c.in-Bool.is) (map-set value_of c.self.inside.values.items c.in-Some.index (Bool true));
    })

pub returns-in-Enum-clause-enabled : goal.returns-in-Enum-clause-enabled
returns-in-Enum-clause-enabled c =
    let t = c.self.inside.group.now in
    let d = c.in-Some-descriptor.entry.now in (
      subst (λ (f : FlagContents). IsOfNoSwitch (served_in f.group) c.args.name.now) c.self.view_is (record {
        place = c.in-Some.index;
        kind = kind_in t d.offset d.detail;
        entry = is_entry t c.args.name.now c.in-Some.index d c.in-Some.ensures.found (sym c.in-Some-descriptor.ensures.entry);
        no_switch = inr (_, ap (kind_in t d.offset) c.in-Enum.is);
      }),
      refl,
    )

pub returns-in-Num-clause-enabled : goal.returns-in-Num-clause-enabled
returns-in-Num-clause-enabled c =
    let t = c.self.inside.group.now in
    let d = c.in-Some-descriptor.entry.now in (
      subst (λ (f : FlagContents). IsOfNoSwitch (served_in f.group) c.args.name.now) c.self.view_is (record {
        place = c.in-Some.index;
        kind = kind_in t d.offset d.detail;
        entry = is_entry t c.args.name.now c.in-Some.index d c.in-Some.ensures.found (sym c.in-Some-descriptor.ensures.entry);
        no_switch = inl (_, ap (kind_in t d.offset) c.in-Num.is);
      }),
      refl,
    )

pub returns-in-Preset-clause-enabled : goal.returns-in-Preset-clause-enabled
returns-in-Preset-clause-enabled c =
    let t = c.self.inside.group.now in
    let own = c.args.self.now in
    let d = c.in-Some-descriptor.entry.now in
    let index = c.in-Some.index in
    let there = sym c.in-Some-descriptor.ensures.entry in
    let entry = is_entry t c.args.name.now index d c.in-Some.ensures.found there in
    let preset = subst (λ (f : FlagContents). IsPresetIn f.group.descriptors index d) c.self.view_is
    (record { there = there; is_preset = c.in-Preset.is }) in
    record {
      place = index;
      kind = kind_in own.group d.offset d.detail;
      entry = subst (λ (f : FlagContents). IsNamedEntry (served_in f.group) c.args.name.now index (kind_in f.group d.offset d.detail))
          c.self.view_is entry;
      changed = subst (λ (x : Detail). IsEnabled (kind_in own.group d.offset x) index own.state c.turn_on_by.new.self.state)
          (sym c.in-Preset.is) (c.turn_on_by.ensures.on d preset);
    }
