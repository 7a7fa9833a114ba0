use Rattle.std.proofs.Common.{◌≡◌, List, ◌++◌, length, map, take, drop, sym, ap, ◌∙◌, subst}
use Rattle.std.proofs.Math.Seq.{take-append_seam}
use Rattle.std.proofs.lemmas.List.{length-map}
use Rattle.std.proofs.lemmas.Option.{same_Some}
use Rattle.meta_setting_tables.specs.declared.descriptor.Descriptor.{Descriptor}
use Rattle.meta_setting_tables.specs.EntryValues.{is_on, masks_from}
use Rattle.meta_setting_tables.specs.GroupTables.{IsPresetIn}
use Rattle.meta_flags.specs.declared.flag_value.FlagValue.{FlagValue}
use Rattle.meta_flags.specs.Served.{marks_in}
use Rattle.meta_flags.specs.Changes.{with_marked_true}
use Rattle.meta_flags.specs.Held.{FlagContents, value_of, AreHeld}
use Rattle.meta_flags.proofs.TurningOn.{turned_by}
use Rattle.meta_flags.proofs.OfKinds.{held_turned}
use Rattle.meta_flags.proofs.held.Flags.turn_on_by.Goals as goal

-- booleans alone become true
pub invariant_of-self : goal.invariant_of-self
invariant_of-self c =
    let t = c.self.inside.group.now in
    let items = c.self.inside.values.items in
    let new = c.turn_on.new.values in
    let same : length new ≡ c.self.inside.values.len = c.turn_on.auto.values ∙ c.deref_mut.ensures.len in
    let whole = ap (λ n. take n (new ++ drop (length new) items)) (sym same) ∙ take-append_seam new (drop (length new) items) in
    let count = c.len-count.ensures ∙ sym c.deref_mut.ensures.len ∙ ap length c.deref_mut.ensures.value ∙ sym (length-map items value_of) in
    let some = take c.len-count.result c.descriptors.result.now in
    let on = c.turn_on.ensures ∙ ap (λ (vs : List FlagValue). with_marked_true
    (map (λ (x : Descriptor). is_on c.in-Some.masks.now x.offset x.detail) some) (map value_of vs)) c.deref_mut.ensures.value in
    subst (λ (vs : List FlagValue). AreHeld (record { group = t; state = map value_of vs })) (sym whole)
    (held_turned t (map value_of items) (map value_of new) c.in-Some.masks.now some c.self.invariant
    (λ i. take (count i) (c.descriptors.ensures.entries i)) on)

pub returns-clause-on : goal.returns-clause-on
returns-clause-on c = λ d is.
    let t = c.self.inside.group.now in
    let items = c.self.inside.values.items in
    let new = c.turn_on.new.values in
    let same : length new ≡ c.self.inside.values.len = c.turn_on.auto.values ∙ c.deref_mut.ensures.len in
    let whole = ap (λ n. take n (new ++ drop (length new) items)) (sym same) ∙ take-append_seam new (drop (length new) items) in
    let m = c.in-Some.ensures.masks in
    let own = subst (λ (f : FlagContents). IsPresetIn f.group.descriptors c.args.preset d) (sym c.self.view_is) is in
    let one : m.0 ≡ d = same_Some m.0 d (sym m.1.there ∙ own.there) in
    let masks = m.2 ∙ ap (λ (x : Descriptor). masks_from (length t.defaults) t.preset_masks x.offset) one in
    let count = c.len-count.ensures ∙ sym c.deref_mut.ensures.len ∙ ap length c.deref_mut.ensures.value ∙ sym (length-map items value_of) in
    let some = take c.len-count.result c.descriptors.result.now in
    let on = c.turn_on.ensures ∙ ap (λ (vs : List FlagValue). with_marked_true
    (map (λ (x : Descriptor). is_on c.in-Some.masks.now x.offset x.detail) some) (map value_of vs)) c.deref_mut.ensures.value in
    ap (map value_of) whole
    ∙ subst (λ (f : FlagContents). map value_of new ≡ with_marked_true (marks_in f.group d.offset) f.state) c.self.view_is
    (turned_by t (map value_of items) (map value_of new) d.offset c.in-Some.masks.now some c.self.invariant.settings masks
    (λ i. take (count i) (c.descriptors.ensures.entries i)) on)
