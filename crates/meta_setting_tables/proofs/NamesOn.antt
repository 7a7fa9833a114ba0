-- Booleans that are on, one entry after another.
use Rattle.std.proofs.Common.{◌≡◌, ℕ, suc, ◌+◌, ◌≤◌, ◌==◌, ltb, Bool, true, false, List, [], ◌∷◌, ◌++◌, append_assoc, append-nil, map, drop}
use Rattle.std.proofs.Common.{slice_get, get_or, Some, Bor, Fits, w8, refl, sym, ap, ◌∙◌, subst, arith}
use Rattle.std.proofs.lemmas.Bool.{cond-true, cond-false, le-ltb}
use Rattle.std.proofs.lemmas.Nat.Bits.{bit_at_above}
use Rattle.meta_lists.proofs.Places.{drop_next, get_drop}
use Rattle.meta_setting_tables.specs.declared.descriptor.Detail.{Detail}
use Rattle.meta_setting_tables.specs.declared.descriptor.Detail.TheVariants.{Bool as BoolDetail, Enum as EnumDetail, Num as NumDetail}
use Rattle.meta_setting_tables.specs.declared.descriptor.Detail.TheVariants.{Preset}
use Rattle.meta_setting_tables.specs.declared.descriptor.Descriptor.{Descriptor}
use Rattle.meta_setting_tables.specs.EntryValues.{is_on, names_on}
use Rattle.meta_setting_tables.specs.WellFormed.{own_byte_count, described_boolean_count, described_byte_count, StandsAtMasks, IsPlaced}
use Rattle.meta_setting_tables.specs.WellFormed.{ArePlaced}

-- a byte has no bit from 8 on
pub not_above : (bytes : List ℕ) (byte bit : ℕ) (detail : Detail) → detail ≡ BoolDetail bit → 8 ≤ bit
    → ((i : ℕ) → Fits w8 (get_or bytes i 0)) → ltb bit 8 ≡ is_on bytes byte detail
not_above bytes byte bit detail is above fits =
    let small = fits byte in
    le-ltb bit 8 above ∙ sym (ap (is_on bytes byte) is
    ∙ ap (λ n. n == 1) (bit_at_above (get_or bytes byte 0) 8 bit (omega (arith, small)) above))

-- one more name is added
pub name_added : (old new : List (Bor (List ℕ))) (text : Bor (List ℕ)) (name : List ℕ) → new ≡ old ++ text ∷ [] → text.now ≡ name
    → map (λ (n : Bor (List ℕ)). n.now) new ≡ map (λ (n : Bor (List ℕ)). n.now) old ++ name ∷ []
name_added old new text name e is = ap (map (λ (n : Bor (List ℕ)). n.now)) e ∙ go old
  where
    go : (ns : List (Bor (List ℕ))) → map (λ (n : Bor (List ℕ)). n.now) (ns ++ text ∷ [])
        ≡ map (λ (n : Bor (List ℕ)). n.now) ns ++ name ∷ []
    go [] = ap (λ t. t ∷ []) is
    go (n ∷ ns) = ap (λ ts. n.now ∷ ts) (go ns)

module _ (bytes : List ℕ) where
  abbrev on : Descriptor → Bool
  on d = is_on bytes d.offset d.detail

  -- where none is on there is no name
  none_on : (ds : List Descriptor) → ((k : ℕ) (d : Descriptor) → slice_get ds k ≡ Some d → on d ≡ false) → names_on ds bytes ≡ []
  none_on [] off = refl
  none_on (d ∷ ds) off = ap (map (λ (d : Descriptor). d.name)) (cond-false (on d) _ _ (off 0 d refl)) ∙ none_on ds (λ k d. off (suc k) d)

  -- the bits of what comes after a preset are off: booleans stand before presets
  off_after : (ds : List Descriptor) (i j : ℕ) (c d : Descriptor) → ArePlaced ds → i ≤ j → slice_get ds i ≡ Some c
      → slice_get ds j ≡ Some d → c.detail ≡ Preset → on d ≡ false
  off_after ds i j c d placed order c_at d_at is = of_detail d.detail refl
    where
      preset : StandsAtMasks (own_byte_count ds + described_boolean_count ds) (described_byte_count ds) i c.offset
      preset = subst (IsPlaced (own_byte_count ds) (described_boolean_count ds) (described_byte_count ds) i c.offset) is (placed i c c_at)

      of_detail : (detail : Detail) → d.detail ≡ detail → is_on bytes d.offset detail ≡ false
      of_detail (BoolDetail bit) e =
          let at = subst (IsPlaced (own_byte_count ds) (described_boolean_count ds) (described_byte_count ds) j d.offset) e
          (placed j d d_at) in
          let within = at.within in
          let after = at.after in
          let front = preset.after in
          absurd (omega (arith, within, after, front, order))
      of_detail (EnumDetail last place) e = refl
      of_detail NumDetail e = refl
      of_detail Preset e = refl

  module _ (ds : List Descriptor) (i : ℕ) (names : List (List ℕ)) (d : Descriptor) (at : slice_get ds i ≡ Some d)
      (so_far : names ++ names_on (drop i ds) bytes ≡ names_on ds bytes) where
    next : names_on (drop i ds) bytes ≡ names_on (d ∷ drop (i + 1) ds) bytes
    next = ap (λ (es : List Descriptor). names_on es bytes) (drop_next ds i d at)

    pub one_on : on d ≡ true → (names ++ d.name ∷ []) ++ names_on (drop (i + 1) ds) bytes ≡ names_on ds bytes
    one_on is = append_assoc names (d.name ∷ []) (names_on (drop (i + 1) ds) bytes)
        ∙ ap (λ ns. names ++ ns) (sym (next ∙ ap (map (λ (d : Descriptor). d.name)) (cond-true (on d) _ _ is))) ∙ so_far

    pub one_off : on d ≡ false → names ++ names_on (drop (i + 1) ds) bytes ≡ names_on ds bytes
    one_off is = ap (λ ns. names ++ ns) (sym (next ∙ ap (map (λ (d : Descriptor). d.name)) (cond-false (on d) _ _ is))) ∙ so_far

    -- all are found at a preset
    pub at_preset : ArePlaced ds → d.detail ≡ Preset → names ≡ names_on ds bytes
    at_preset placed is =
        let none = none_on (drop i ds) (λ k e there. off_after ds i (i + k) d e placed (omega arith) at (sym (get_drop ds i k)
        ∙ there) is) in
        sym (ap (λ ns. names ++ ns) none ∙ append-nil names) ∙ so_far
