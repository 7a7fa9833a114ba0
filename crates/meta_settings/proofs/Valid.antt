-- What a group without faults has.
use Rattle.std.proofs.Common.{◌≡◌, ◌∙◌, ◌≤◌, ◌+◌, ◌-◌, ℕ, List, length, length-append, drop, slice_get, slice_index_or, Some, refl, sym, ap}
use Rattle.std.proofs.Common.{subst, arith, ◌⊎◌, inl, inr, ⊎_elim}
use Rattle.std.specs.Prelude.{map, option_map}
use Rattle.std.proofs.Math.Seq.{drop-append_seam}
use Rattle.std.proofs.lemmas.Bool.{cases_lt}
use Rattle.std.proofs.lemmas.List.{length-map}
use Rattle.std.proofs.lemmas.Option.{slice_get-map}
use Rattle.meta_lists.proofs.Places.{get_right}
use Rattle.meta_settings.specs.declared.index.PresetType.{PresetType}
use Rattle.meta_settings.specs.declared.index.PresetType.TheVariants.{BoolSetting, OtherPreset}
use Rattle.meta_settings.specs.GroupDeclaration.{GroupDeclaration, PresetDeclaration, entries_of, setting_entry, preset_entry}
use Rattle.meta_settings.specs.GroupDeclaration.{boolean_count, byte_count, start_of, booleans_among, others_among}
use Rattle.meta_settings.specs.GroupFaults.{IsMet, AreMet, PresetRule, OfEntry, OfCounts, IsValidGroup}
use Rattle.meta_settings.specs.Searched.{AreAllMet}
use Rattle.meta_settings.specs.Layout.{Layout, IsSized}
use Rattle.meta_settings.specs.TurnedOn.{built_presets}
use Rattle.meta_settings.specs.LaidOut.{in_bytes, in_bits, laid_out, built_of}
use Rattle.meta_settings.proofs.Placing.{length-in_bytes, length-in_bits}

-- a bound on a name in a preset can be told, so it holds where it can't fail
met_or_not : (booleans earlier : ℕ) (a : PresetType) → IsMet booleans earlier a ⊎ (IsMet booleans earlier a → ⊥)
met_or_not booleans earlier (BoolSetting b) = ⊎_elim (λ l. inl l) (λ l. inr (λ m. omega (arith, l, m))) (cases_lt b booleans)
met_or_not booleans earlier (OtherPreset q) = ⊎_elim (λ l. inl l) (λ l. inr (λ m. omega (arith, l, m))) (cases_lt q earlier)

all_met : (booleans earlier : ℕ) (args : List PresetType) → ((AreMet booleans earlier args → ⊥) → ⊥) → AreMet booleans earlier args
all_met booleans earlier args h = λ k d l. ⊎_elim (λ met. met) (λ not_met. absurd (h (λ all. not_met (all k d l))))
    (met_or_not booleans earlier (slice_index_or args k d))

-- a greater bound
met_below : (booleans more earlier : ℕ) (a : PresetType) → booleans ≤ more → IsMet booleans earlier a → IsMet more earlier a
met_below booleans more earlier (BoolSetting b) l m = omega (arith, m)
met_below booleans more earlier (OtherPreset q) l m = m

module _ (d : GroupDeclaration) (valid : IsValidGroup d) where
  pub few_booleans : boolean_count d ≤ 248
  few_booleans = ⊎_elim (λ l. absurd (valid 0 OfCounts _ (refl, inl l))) (λ l. l) (cases_lt 248 (boolean_count d))

  pub few_bytes : byte_count d ≤ 255
  few_bytes = ⊎_elim (λ l. absurd (valid 0 OfCounts _ (refl, inr (inl l)))) (λ l. l) (cases_lt 255 (byte_count d))

  -- the entry of a preset stands after those of the settings
  pub preset_at : (k : ℕ) (p : PresetDeclaration) → slice_get d.presets k ≡ Some p
      → slice_get (entries_of d) (length d.settings + k) ≡ Some (preset_entry p)
  preset_at k p at =
      ap (λ n. slice_get (entries_of d) (n + k)) (sym (length-map d.settings setting_entry))
      ∙ get_right (map setting_entry d.settings) (map preset_entry d.presets) k
      ∙ slice_get-map preset_entry d.presets k ∙ ap (option_map preset_entry) at

  met : (k : ℕ) (p : PresetDeclaration) → slice_get d.presets k ≡ Some p → AreMet (boolean_count d) k p.args
  met k p at =
      let place : length d.settings + k - length d.settings ≡ k = omega arith in
      all_met (boolean_count d) k p.args (λ bad. valid 0 (OfEntry (length d.settings + k) PresetRule) _
      (preset_entry p, preset_at k p at, (refl, λ all. bad (subst (λ n. AreMet (boolean_count d) n p.args) place all))))

  -- the numbers that presets name fit eight bits
  pub all_met_below : AreAllMet 256 d.presets
  all_met_below = λ k p at i x l. met_below (boolean_count d) 256 k (slice_index_or p.args i x)
      (let few = few_booleans in omega arith) (met k p at i x l)

  pub start_length : length (in_bytes 0 (others_among d.settings)) ≡ start_of d
  start_length = length-in_bytes 0 (others_among d.settings)

  after : drop (start_of d) (laid_out d) ≡ in_bits (start_of d) 0 (booleans_among d.settings)
  after = ap (λ n. drop n (laid_out d)) (sym start_length)
      ∙ drop-append_seam (in_bytes 0 (others_among d.settings)) (in_bits (start_of d) 0 (booleans_among d.settings))

  pub sized : IsSized (laid_out d) (start_of d) (byte_count d)
  sized =
      let count = ap length after ∙ length-in_bits (start_of d) 0 (booleans_among d.settings) in
      let whole = length-append (in_bytes 0 (others_among d.settings)) (in_bits (start_of d) 0 (booleans_among d.settings)) in
      let start = start_length in
      let few = few_booleans in
      record { within = omega arith; few = omega arith; bytes = omega arith }

-- the group from its parts
pub whole_group : (d : GroupDeclaration) (g : Layout) → g.name ≡ d.name → g.settings ≡ laid_out d
    → g.bool_start_byte_offset ≡ start_of d → g.settings_size ≡ byte_count d → g.presets ≡ built_presets d.presets → g ≡ built_of d
whole_group d g a b c e f i = record { name = a i; settings = b i; bool_start_byte_offset = c i; settings_size = e i; presets = f i }
