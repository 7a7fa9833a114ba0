-- The laws on what presets turn on.
use Rattle.std.proofs.Common.{◌≡◌, ◌↔◌, ◌<◌, ◌≤◌, ◌+◌, inl, inr, ⊎_elim, ℕ, List, [], length, take, slice_get, Option, Some, Contains, sym}
use Rattle.std.proofs.Common.{ap, subst, arith}
use Rattle.std.specs.Prelude.{option_map, unwrap_or}
use Rattle.std.specs.List.{flat_map}
use Rattle.std.proofs.lemmas.Bool.{cases_lt}
use Rattle.std.proofs.lemmas.List.{length-take}
use Rattle.std.proofs.lemmas.Option.{slice_get_past}
use Rattle.meta_lists.proofs.Places.{get_take}
use Rattle.meta_lists.proofs.Contained.{contains_cases, contains_first, contains_none}
use Rattle.meta_settings.specs.declared.index.PresetType.{PresetType}
use Rattle.meta_settings.specs.declared.index.PresetType.TheVariants.{BoolSetting, OtherPreset}
use Rattle.meta_settings.specs.GroupDeclaration.{PresetDeclaration}
use Rattle.meta_settings.specs.Layout.{BuiltPreset}
use Rattle.meta_settings.specs.TurnedOn.{booleans_at, meant_by, turned_on, built_preset, built_presets}
use Rattle.meta_settings.specs.Laws.{TurnsOn, IsNamedIn, IsEachOnce}
use Rattle.meta_settings.proofs.Turning.{meant_from, meant_to, built_at}
use Rattle.meta_settings.proofs.Once.{firsts_from, firsts_to, firsts_once}

-- what stands at a place among the presets
abbrev booleans_of : Option BuiltPreset → List ℕ
booleans_of o = unwrap_or (option_map (λ (p : BuiltPreset). p.booleans) o) []

module _ (presets : List PresetDeclaration) (k : ℕ) where
  abbrev before : List BuiltPreset
  before = take k (built_presets presets)

  here : (p : PresetDeclaration) → slice_get presets k ≡ Some p → booleans_at (built_presets presets) k ≡ turned_on before p.args
  here p at =
      let place : length {A = BuiltPreset} [] + k ≡ k = omega arith in
      let built = subst (λ n. slice_get (built_presets presets) n ≡ Some (built_preset (take n (built_presets presets)) p)) place
      (built_at [] presets k p at) in
      ap booleans_of built

  -- an earlier preset is among those before
  earlier : (q : ℕ) → q < k → booleans_at before q ≡ booleans_at (built_presets presets) q
  earlier q l = ap booleans_of (get_take (built_presets presets) k q l)

  -- a later one isn't
  later : (q : ℕ) → k ≤ q → booleans_at before q ≡ []
  later q l = ap booleans_of (slice_get_past before q (omega (arith, length-take k (built_presets presets))))

  named_from : (p : PresetDeclaration) (b : ℕ) (a : PresetType) → Contains p.args a → Contains (meant_by before a) b
      → IsNamedIn presets k p b
  named_from p b (BoolSetting n) at meant =
      ⊎_elim (λ same. inl (subst (λ z. Contains p.args (BoolSetting z)) same at)) (λ c. absurd (contains_none b c))
      (contains_cases n b [] meant)
  named_from p b (OtherPreset q) at meant =
      ⊎_elim
      (λ l. inr (q, at, l, subst (λ bs. Contains bs b) (earlier q l) meant))
      (λ g. absurd (contains_none b (subst (λ bs. Contains bs b) (later q g) meant)))
      (cases_lt q k)

  named_to : (p : PresetDeclaration) (b : ℕ) → IsNamedIn presets k p b → Contains (flat_map (meant_by before) p.args) b
  named_to p b (inl at) = meant_to before p.args b (BoolSetting b) at (contains_first b [])
  named_to p b (inr h) = meant_to before p.args b (OtherPreset h.0) h.1 (subst (λ bs. Contains bs b) (sym (earlier h.0 h.2)) h.3)

  pub turned_named : (b : ℕ) (p : PresetDeclaration) → slice_get presets k ≡ Some p → TurnsOn presets k b ↔ IsNamedIn presets k p b
  turned_named b p at = (
    λ on. let (a, named, meant) = meant_from before p.args b
        (firsts_from (flat_map (meant_by before) p.args) b (subst (λ bs. Contains bs b) (here p at) on)) in named_from p b a named meant,
    λ named. subst (λ bs. Contains bs b) (sym (here p at)) (firsts_to (flat_map (meant_by before) p.args) b (named_to p b named)),
  )

  pub turned_once : (p : PresetDeclaration) → slice_get presets k ≡ Some p → IsEachOnce (booleans_at (built_presets presets) k)
  turned_once p at = subst IsEachOnce (sym (here p at)) (firsts_once (flat_map (meant_by before) p.args))
