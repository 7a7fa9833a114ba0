-- The masks of the presets, one preset after another.
use Rattle.std.proofs.Common.{◌≡◌, ℕ, ◌+◌, ◌*◌, ◌<◌, ◌≤◌, List, [], ◌∷◌, ◌++◌, length, length-append, map, slice_get, Some, zero, suc, refl}
use Rattle.std.proofs.Common.{sym, ap, ◌∙◌, subst, arith, inl, inr}
use Rattle.std.proofs.Math.Nat.{mul-le-mul_right}
use Rattle.std.proofs.lemmas.Bool.{cases_order}
use Rattle.std.proofs.lemmas.List.{length-map}
use Rattle.std.proofs.lemmas.Option.{slice_get_within, same_Some}
use Rattle.meta_lists.proofs.Places.{get_left, get_right}
use Rattle.meta_settings.specs.Layout.{Layout, BuiltPreset}
use Rattle.meta_settings.specs.PresetLayout.{IsLayoutOf, HasBitsOf}
use Rattle.meta_setting_tables.specs.PresetMasks.{ArePresetMasks}

-- these are the masks of the first `count` presets
pub record AreMasksTo (g : Layout) (count : ℕ) (masks : List ℕ) : Type 0 where
  pub size : length masks ≡ count * g.settings_size
  pub bits : (k byte m : ℕ) (p : BuiltPreset) → k < count → slice_get g.presets k ≡ Some p → byte < g.settings_size
      → slice_get masks (k * g.settings_size + byte) ≡ Some m → HasBitsOf g.bool_start_byte_offset p.booleans byte m

-- byte b of preset k stands before preset n, where k is before n
pub place_before : (k n size byte : ℕ) → k < n → byte < size → k * size + byte < n * size
place_before k n size byte l b =
    let m : (k + 1) * size ≤ n * size = mul-le-mul_right size (omega arith) in omega (arith, m)

mask_of : (layout : List (ℕ × ℕ)) (byte m : ℕ) → slice_get (map (λ (pair : ℕ × ℕ). pair.0) layout) byte ≡ Some m
    → (pair : ℕ × ℕ) × (slice_get layout byte ≡ Some pair) × (pair.0 ≡ m)
mask_of [] byte m e = absurd (cc)
mask_of (pair ∷ layout) zero m e = (pair, refl, same_Some pair.0 m e)
mask_of (pair ∷ layout) (suc byte) m e = mask_of layout byte m e

pub masks_none : (g : Layout) (masks : List ℕ) → masks ≡ [] → AreMasksTo g 0 masks
masks_none g masks e = record { size = let long = ap length e in omega (arith, long); bits = λ k byte m p l. absurd (omega (arith, l)) }

pub masks_more : (g : Layout) (count : ℕ) (p : BuiltPreset) (layout : List (ℕ × ℕ)) (old new : List ℕ)
    → slice_get g.presets count ≡ Some p → IsLayoutOf g p layout → AreMasksTo g count old
    → new ≡ old ++ map (λ pair. pair.0) layout → AreMasksTo g (count + 1) new
masks_more g count p layout old new at l so e = record {
  size =
      let long = ap length e ∙ length-append old (map (λ (pair : ℕ × ℕ). pair.0) layout) in
      let own = length-map layout (λ (pair : ℕ × ℕ). pair.0) in
      let size = l.size_is in let before = so.size in omega (arith, long, own, size, before);
  bits = λ k byte m q l' at' b e'. elim (cases_order k count) [
    | inl same ↦
        let here : slice_get new (length old + byte) ≡ Some m =
        subst (λ n. slice_get new n ≡ Some m) (ap (λ n. n * g.settings_size + byte) same ∙ ap (λ n. n + byte) (sym so.size)) e' in
        let own : slice_get (map (λ (pair : ℕ × ℕ). pair.0) layout) byte ≡ Some m =
        sym (get_right old (map (λ (pair : ℕ × ℕ). pair.0) layout) byte) ∙ ap (λ w. slice_get w (length old + byte)) (sym e) ∙ here in
        let pair = mask_of layout byte m own in
        let one : p ≡ q = same_Some p q (sym at ∙ ap (slice_get g.presets) (sym same) ∙ at') in
        subst (λ (r : BuiltPreset). HasBitsOf g.bool_start_byte_offset r.booleans byte m) one
        (subst (HasBitsOf g.bool_start_byte_offset p.booleans byte) pair.2 (l.masks byte pair.0 pair.1))
    | inr differ ↦ elim differ [
      | inl before ↦
          let place = place_before k count g.settings_size byte before b in
          let size = so.size in
          so.bits k byte m q before at' b
          (sym (get_left old (map (λ (pair : ℕ × ℕ). pair.0) layout) (k * g.settings_size + byte)
          (omega (arith, place, size))) ∙ ap (λ w. slice_get w (k * g.settings_size + byte)) (sym e) ∙ e')
      | inr after ↦ absurd (omega arith)
    ]
  ];
}

pub masks_all : (g : Layout) (count : ℕ) (masks : List ℕ) → length g.presets ≤ count → count ≤ length g.presets
    → AreMasksTo g count masks → ArePresetMasks g masks
masks_all g count masks most least so =
    let all : count ≡ length g.presets = omega arith in
    record {
      size = so.size ∙ ap (λ n. n * g.settings_size) all;
      bits = λ k byte m p at b e. let l = slice_get_within g.presets k p at in so.bits k byte m p (omega (arith, l)) at b e;
    }
