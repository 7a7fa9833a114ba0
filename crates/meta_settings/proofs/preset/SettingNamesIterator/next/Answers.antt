use Rattle.std.proofs.Common.{◌≡◌, ◌∙◌, ◌<◌, ℕ, zero, suc, List, ◌∷◌, [], length, slice_index_or, All, refl, sym, ap, subst, arith}
use Rattle.std.specs.Prelude.{map, unwrap_or, option_map}
use Rattle.std.proofs.lemmas.Option.{slice_get_read}
use Rattle.meta_settings.specs.Layout.{PlacedSetting}
use Rattle.meta_settings.specs.PresetLayout.{boolean_name}
use Rattle.meta_settings.proofs.preset.SettingNamesIterator.next.Goals as goal

-- the numbers after the first are below the bound, as all are
all_after : (n : ℕ) (numbers rest : List ℕ) (number : ℕ) → numbers ≡ number ∷ rest → All (λ b. b < n) numbers → All (λ b. b < n) rest
all_after n numbers rest number e h = λ k d l. subst (λ ns. All (λ b. b < n) ns) e h (suc k) d (omega (arith, l))

first_below : (n : ℕ) (numbers rest : List ℕ) (number : ℕ) → numbers ≡ number ∷ rest → All (λ b. b < n) numbers → number < n
first_below n numbers rest number e h = subst (λ ns. All (λ b. b < n) ns) e h zero 0 (omega arith)

name_of : (booleans : List PlacedSetting) (n : ℕ) (s : PlacedSetting) → n < length booleans
    → s ≡ slice_index_or booleans n s → boolean_name booleans n ≡ s.name
name_of booleans n s l is = ap (λ o. unwrap_or (option_map (λ (s : PlacedSetting). s.name) o) [])
    (slice_get_read booleans (length booleans) n s refl l is)

pub invariant_of-self : goal.invariant_of-self
invariant_of-self c = all_after _ _ _ _ c.in_ok-number.ensures.cases.0 c.self.invariant

pub returns-clause-steps : goal.returns-clause-steps
returns-clause-steps c =
    let booleans = c.self.inside.booleans.now in
    let below = first_below (length booleans) _ _ _ c.in_ok-number.ensures.cases.0 c.self.invariant in
    let named = name_of booleans c.in_ok-number.number.now c.index-self-number.result below c.index-self-number.is in
    sym c.self.view_is ∙ ap (map (boolean_name booleans)) c.in_ok-number.ensures.cases.0
    ∙ ap (λ name. name ∷ map (boolean_name booleans) c.in_ok-number.rest.now)
    (named ∙ sym (c.as_str.ensures ∙ c.name.ensures ∙ ap (λ (s : PlacedSetting). s.name) (sym c.index-self-number.is)))
