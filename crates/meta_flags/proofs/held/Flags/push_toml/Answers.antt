use Rattle.std.proofs.Common.{◌≡◌, ◌++◌, ◌∷◌, [], length, slice_get, Some, refl, sym, ap, ◌∙◌, string_bytes, arith}
use Rattle.std.proofs.lemmas.List.{length-map}
use Rattle.std.proofs.lemmas.Option.{slice_get_read}
use Rattle.meta_lists.proofs.Mapped.{get_map}
use Rattle.meta_setting_tables.specs.declared.descriptor.Descriptor.{Descriptor}
use Rattle.meta_flags.specs.Served.{served_entry, served_in}
use Rattle.meta_flags.specs.Toml.{toml_line}
use Rattle.meta_flags.specs.Held.{FlagContents, value_of}
use Rattle.meta_flags.proofs.Tomls.{head_written, line_added, all_lines}
use Rattle.meta_flags.proofs.held.Flags.push_toml.Goals as goal

pub loop-k-init : goal.loop-k-init
loop-k-init c =
    let own = c.args.self.now in
    let name = c.as_str-name.ensures ∙ c.name.ensures ∙ ap (λ (f : FlagContents). f.group.name) c.self.view_is in
    head_written (string_bytes c.args.out.now) own.group.name _ (string_bytes c.write.new.self) (c.in_ok-write.ensures.bytes
    ∙ ap (λ n. string_bytes c.args.out.now ++ (91 ∷ (n ++ (93 ∷ 10 ∷ [])))) name)

pub loop-k-preserved : goal.loop-k-preserved
loop-k-preserved c =
    let own = c.args.self.now in
    let items = c.self.inside.values.items in
    let entries = c.descriptors-entries.result.now in
    let k = c.loop-k.k in
    let d = c.index-entries-k.result in
    let v = c.index.result.now in
    let less = c.loop-k-test.true in
    let count = c.len-k-end.ensures in
    let long = c.self.inside.values.ok.0 in
    let within = c.self.invariant.within in
    let mapped = length-map items value_of in
    let all = ap length c.descriptors-entries.ensures.entries in
    let read =
    slice_get_read entries (length entries) k d refl (omega (arith, less, count, long, within, mapped, all)) c.index-entries-k.is in
    let there : slice_get own.group.descriptors k ≡ Some d =
    sym (ap (λ (f : FlagContents). slice_get f.group.descriptors k) c.self.view_is)
    ∙ sym (ap (λ w. slice_get w k) c.descriptors-entries.ensures.entries) ∙ read in
    let value =
    get_map value_of items k v (slice_get_read items (length items) k v refl (omega (arith, less, count, long)) c.index.ensures) in
    let held = sym (ap (λ (f : FlagContents). slice_get f.state k) c.self.view_is) ∙ value in
    let name = ap (λ (x : Descriptor). x.name) (sym c.index-entries-k.is) in
    line_added (served_in own.group).entries own.state k (served_entry own.group d) (value_of v) (string_bytes c.loop-k.out)
    (string_bytes c.push_line.new.out) _ (get_map (served_entry own.group) own.group.descriptors k d there) held
    (c.in_ok-push_line.ensures ∙ ap (λ n. string_bytes c.loop-k.out ++ toml_line n (value_of v)) name) c.loop-k.invariant

pub returns : goal.returns
returns c =
    let own = c.args.self.now in
    let items = c.self.inside.values.items in
    let past = c.loop-k-test.false in
    let count = c.len-k-end.ensures in
    let long = c.self.inside.values.ok.0 in
    let mapped = length-map items value_of in
    let shown = ap (λ (f : FlagContents). length f.state) c.self.view_is in
    all_lines (served_in own.group).entries own.state c.loop-k.k (string_bytes c.loop-k.out) _
    (omega (arith, past, count, long, mapped, shown)) c.loop-k.invariant
