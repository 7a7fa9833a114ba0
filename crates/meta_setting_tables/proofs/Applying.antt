-- What a preset does to setting bytes.
use Rattle.std.proofs.Common.{◌≡◌, ◌⊎◌, ◌↔◌, ℕ, ◌+◌, ◌*◌, ◌<◌, max, true, false, List, length, take, drop, slice_get, Some, inl, inr, refl}
use Rattle.std.proofs.Common.{sym, ap, ◌∙◌, arith}
use Rattle.std.specs.Int.{bit_at}
use Rattle.std.specs.Int.RustNames.{bit_or}
use Rattle.std.proofs.lemmas.Bool.{cases_eq}
use Rattle.std.proofs.lemmas.Nat.Bits.{bit_at_or, bit_at-lt}
use Rattle.std.proofs.lemmas.Option.{slice_get_within, same_Some}
use Rattle.meta_lists.proofs.Places.{get_take, get_drop, get_there}
use Rattle.meta_settings.specs.Layout.{Layout}
use Rattle.meta_setting_tables.specs.declared.descriptor.Descriptor.{Descriptor}
use Rattle.meta_setting_tables.specs.PresetMasks.{AreJoined}
use Rattle.meta_setting_tables.specs.GroupTables.{GroupContents, IsPresetIn, AreTablesOfGroup, Applies}
use Rattle.meta_setting_tables.proofs.EntriesRead.{preset_entry, preset_there, preset_is}

-- a bit of two bytes joined
joined_bit : (x y m : ℕ) → m ≡ max x y → x < 2 → y < 2 → (m ≡ 1) ↔ ((x ≡ 1) ⊎ (y ≡ 1))
joined_bit x y m e a b =
    (λ one. cases one (cases_eq x 1), λ on. back on)
  where
    cases : m ≡ 1 → (x ≡ 1) ⊎ (x ≡ 1 → ⊥) → (x ≡ 1) ⊎ (y ≡ 1)
    cases one (inl h) = inl h
    cases one (inr n) = inr (omega arith)

    back : (x ≡ 1) ⊎ (y ≡ 1) → m ≡ 1
    back (inl h) = omega arith
    back (inr h) = omega arith

pub refused : (g : Layout) (t : GroupContents) (e : ℕ) (old : List ℕ) → ((d : Descriptor) → IsPresetIn t.descriptors e d → ⊥)
    → AreTablesOfGroup g t → Applies g e old old false
refused g t e old none h = record {
  applied = λ p is size. let d = preset_there g t e p h is in absurd (none d.0 d.1);
  no_preset = λ n. refl;
  other_size = λ n. refl;
  unchanged = λ f. refl;
}

pub applies : (g : Layout) (t : GroupContents) (e : ℕ) (d : Descriptor) (old masks new : List ℕ) → IsPresetIn t.descriptors e d
    → masks ≡ take (length t.defaults) (drop d.offset t.preset_masks) → length old ≡ length masks → length masks ≡ length t.defaults
    → AreJoined old masks new → AreTablesOfGroup g t → Applies g e old new true
applies g t e d old masks new at m long size joined h = record {
  applied = λ p is n. (
    refl,
    record {
      size = joined.size;
      bits = λ byte b c bit at_old at_new low.
          let inside : byte < length masks = let l = slice_get_within old byte b at_old in omega (arith, l, long) in
          let mask = get_there masks byte inside in
          let within : byte < g.settings_size = let s = h.defaults.size in omega (arith, inside, size, s) in
          let offset : d.offset ≡ is.number * g.settings_size = ap (λ (d : Descriptor). d.offset) (preset_entry g t e p d h is at.there) in
          let there : slice_get t.preset_masks (is.number * g.settings_size + byte) ≡ Some mask.0 =
          ap (λ k. slice_get t.preset_masks (k + byte)) (sym offset) ∙ sym (get_drop t.preset_masks d.offset byte)
          ∙ sym (get_take (drop d.offset t.preset_masks) (length t.defaults) byte (omega (arith, inside, size)))
          ∙ ap (λ w. slice_get w byte) (sym m) ∙ mask.1 in
          let own = (h.masks.bits is.number byte mask.0 p is.there within there).bits bit low in
          let value : c ≡ bit_or b mask.0 = same_Some c (bit_or b mask.0) (sym at_new ∙ joined.each byte b mask.0 at_old mask.1) in
          let both = joined_bit (bit_at b bit) (bit_at mask.0 bit) (bit_at c bit) (ap (λ n. bit_at n bit) value
          ∙ bit_at_or b mask.0 bit) (bit_at-lt b bit) (bit_at-lt mask.0 bit) in
          (λ on. right own.0 (both.0 on), λ on. both.1 (right own.1 on));
    },
  );
  no_preset = λ none. let p = preset_is g t e d h at in absurd (none p.0 p.1);
  other_size = λ n. absurd (n (long ∙ size ∙ h.defaults.size));
  unchanged = λ f. absurd (cc);
}
  where
    right : {A B C : Type 0} → (B → C) → A ⊎ B → A ⊎ C
    right f (inl a) = inl a
    right f (inr b) = inr (f b)
