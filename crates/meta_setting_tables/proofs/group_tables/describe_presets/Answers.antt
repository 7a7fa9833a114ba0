use Rattle.std.proofs.Common.{◌≡◌, ◌*◌, ℕ, List, length, refl, ap₂, ◌∙◌}
use Rattle.std.proofs.lemmas.Option.{slice_get_read}
use Rattle.meta_settings.specs.Layout.{BuiltPreset}
use Rattle.meta_setting_tables.specs.Descriptor.{preset_descriptor}
use Rattle.meta_setting_tables.specs.declared.descriptor.Descriptor.{Descriptor}
use Rattle.meta_setting_tables.specs.declared.descriptor.Detail.TheVariants.{Preset}
use Rattle.meta_setting_tables.proofs.DescribedSoFar.{presets_next, presets_done}
use Rattle.meta_setting_tables.proofs.group_tables.describe_presets.Goals as goal

abbrev of_preset : List ℕ → List ℕ → ℕ → Descriptor
of_preset name description offset = record { name = name; description = description; offset = offset; detail = Preset }

described : (size k : ℕ) (p : BuiltPreset) (name description : List ℕ) (offset : ℕ) → name ≡ p.name → description ≡ p.description
    → offset ≡ k * size → of_preset name description offset ≡ preset_descriptor size k p
described size k p name description offset a b e = λ i. of_preset (a i) (b i) (e i)

pub loop-k-preserved : goal.loop-k-preserved
loop-k-preserved c =
    let k = c.loop-k.k in
    let presets = c.args.presets.now in
    let at = slice_get_read presets (length presets) k c.index-presets-k.result refl c.loop-k-test.true c.index-presets-k.is in
    let is = described c.args.size k c.index-presets-k.result _ _ _ (c.in_ok-copy.ensures ∙ c.name.ensures)
    (c.in_ok-copy-2.ensures ∙ c.description.ensures) (ap₂ (λ x y. x * y) c.from.ensures c.from-in-loop-k.ensures) in
    presets_next presets c.args.size k c.index-presets-k.result _
    c.loop-k.descriptors.items c.push.new.self.items at is c.in_ok-push.ensures.items c.loop-k.invariant

pub returns-clause-names : goal.returns-clause-names
returns-clause-names c =
    (presets_done c.args.presets.now c.args.size c.loop-k.k c.loop-k.descriptors.items c.loop-k-test.false c.loop-k.invariant).0

pub returns-clause-described : goal.returns-clause-described
returns-clause-described c =
    (presets_done c.args.presets.now c.args.size c.loop-k.k c.loop-k.descriptors.items c.loop-k-test.false c.loop-k.invariant).1
