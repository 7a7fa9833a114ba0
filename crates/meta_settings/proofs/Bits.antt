-- One more boolean turned on in a layout.
use Rattle.std.proofs.Common.{◌≡◌, ◌≢◌, ◌↔◌, ℕ, ◌+◌, ◌<◌, ◌/◌, ◌%◌, ◌^◌, ◌*◌, List, [], ◌∷◌, ◌++◌, length, length-append, take, drop, All}
use Rattle.std.proofs.Common.{slice_get, slice_index_or, Some, zero, suc, refl, sym, ap, ◌∙◌, subst, arith, inl, inr, ◌⊎◌, ⊎_elim, Contains}
use Rattle.std.specs.Int.{bit_at, w8}
use Rattle.std.proofs.lemmas.Nat.{or_lt}
use Rattle.std.proofs.lemmas.Nat.Bits.{bit_at_set_same, bit_at_set_other, bit_at-zero}
use Rattle.std.proofs.lemmas.Bool.{cases_eq}
use Rattle.std.proofs.lemmas.List.Elements.{Contains-append_left, Contains-append_right, Contains-append_cases}
use Rattle.std.proofs.lemmas.Option.{slice_get-get_or, same_Some}
use Rattle.std.proofs.lemmas.List.{length-set, drop_all, take_all, append-nil}
use Rattle.meta_lists.proofs.Places.{get_set_here, get_set_other}
use Rattle.meta_lists.proofs.Pushed.{get_pushed}
use Rattle.meta_settings.specs.Layout.{Layout, BuiltPreset, IsSized}
use Rattle.meta_settings.specs.PresetLayout.{HasAll, IsOnAt, HasBitsOf, IsLayoutOn, with_bit, with_bit_at}

-- ---- the new boolean

module _ (start : ℕ) (bs : List ℕ) (b : ℕ) where
  same_element : (c : ℕ) → Contains (b ∷ []) c → b ≡ c
  same_element c (zero, l, e) = e
  same_element c (suc k, l, e) = absurd (omega (arith, l))

  new_on : IsOnAt start (bs ++ b ∷ []) (start + b / 8) (b % 8)
  new_on = record { boolean = b; is_on = Contains-append_right bs (b ∷ []) b (0, omega arith, refl); byte_is = refl; bit_is = refl }

  on_before : (byte bit : ℕ) → IsOnAt start bs byte bit → IsOnAt start (bs ++ b ∷ []) byte bit
  on_before byte bit h = record {
    boolean = h.boolean;
    is_on = Contains-append_left bs (b ∷ []) h.boolean h.is_on;
    byte_is = h.byte_is;
    bit_is = h.bit_is;
  }

  -- what is on is the new boolean, or was on before
  on_after : (byte bit : ℕ) → IsOnAt start (bs ++ b ∷ []) byte bit → IsOnAt start bs byte bit ⊎ ((byte ≡ start + b / 8) × (bit ≡ b % 8))
  on_after byte bit h =
      ⊎_elim
      (λ c. inl (record { boolean = h.boolean; is_on = c; byte_is = h.byte_is; bit_is = h.bit_is }))
      (λ c. let s = same_element h.boolean c in inr (h.byte_is ∙ ap (λ z. start + z / 8) (sym s), h.bit_is ∙ ap (λ z. z % 8) (sym s)))
      (Contains-append_cases bs (b ∷ []) h.boolean h.is_on)

  -- another byte keeps its bits
  other_byte : (byte m : ℕ) → byte ≢ start + b / 8 → HasBitsOf start bs byte m → HasBitsOf start (bs ++ b ∷ []) byte m
  other_byte byte m n h = record {
    fits = h.fits;
    bits = λ bit l. (
      λ e. on_before byte bit ((h.bits bit l).0 e),
      λ on. ⊎_elim (λ o. (h.bits bit l).1 o) (λ o. absurd (n o.0)) (on_after byte bit on),
    );
  }

  -- its byte gets its bit
  own_byte : (m : ℕ) → HasBitsOf start bs (start + b / 8) m → HasBitsOf start (bs ++ b ∷ []) (start + b / 8) (with_bit m (b % 8))
  own_byte m h = record { fits = or_lt 8 m (1 * 2 ^ (b % 8) % 256) h.fits (omega arith); bits = bits }
    where
      below : b % 8 < 8
      below = omega arith

      bits : (bit : ℕ) → bit < 8 → ((bit_at (with_bit m (b % 8)) bit ≡ 1) ↔ IsOnAt start (bs ++ b ∷ []) (start + b / 8) bit)
      bits bit l =
          ⊎_elim
          (λ s. (
            λ e. subst (λ z. IsOnAt start (bs ++ b ∷ []) (start + b / 8) z) (sym s) new_on,
            λ on. subst (λ z. bit_at (with_bit m (b % 8)) z ≡ 1) (sym s) (bit_at_set_same w8 m (b % 8) below),
          ))
          (λ n.
          let same = bit_at_set_other w8 m (b % 8) below bit n in (
            λ e. on_before (start + b / 8) bit ((h.bits bit l).0 (sym same ∙ e)),
            λ on. same
                ∙ ⊎_elim (λ o. (h.bits bit l).1 o) (λ o. absurd (n o.1)) (on_after (start + b / 8) bit on),
          ))
          (cases_eq bit (b % 8))

  -- one more boolean is turned on
  pub turned_on_more : (size : ℕ) (layout : List (ℕ × ℕ)) → start + b / 8 < size → IsLayoutOn start size bs layout
      → IsLayoutOn start size (bs ++ b ∷ []) (with_bit_at layout (start + b / 8) (b % 8))
  turned_on_more size layout l h = record { size_is = size_is; masks = masks; values = values }
    where
      old : ℕ × ℕ
      old = slice_index_or layout (start + b / 8) (0, 0)

      new : ℕ × ℕ
      new = (with_bit old.0 (b % 8), with_bit old.1 (b % 8))

      within : start + b / 8 < length layout
      within = let s = h.size_is in omega arith

      old_at : slice_get layout (start + b / 8) ≡ Some old
      old_at = slice_get-get_or layout (start + b / 8) (0, 0) within

      -- what stands at the byte now
      found : (pair : ℕ × ℕ) → slice_get (with_bit_at layout (start + b / 8) (b % 8)) (start + b / 8) ≡ Some pair → new ≡ pair
      found pair e = same_Some new pair (sym (get_set_here layout (start + b / 8) new within) ∙ e)

      size_is : length (with_bit_at layout (start + b / 8) (b % 8)) ≡ size
      size_is = length-set layout (start + b / 8) new ∙ h.size_is

      masks : (byte : ℕ) (pair : ℕ × ℕ) → slice_get (with_bit_at layout (start + b / 8) (b % 8)) byte ≡ Some pair
          → HasBitsOf start (bs ++ b ∷ []) byte pair.0
      masks byte pair e =
          ⊎_elim
          (λ s.
          let same = found pair (ap (slice_get (with_bit_at layout (start + b / 8) (b % 8))) (sym s) ∙ e) in
          subst (λ z. HasBitsOf start (bs ++ b ∷ []) z pair.0) (sym s)
          (subst (λ (p : ℕ × ℕ). HasBitsOf start (bs ++ b ∷ []) (start + b / 8) p.0) same
          (own_byte old.0 (h.masks (start + b / 8) old old_at))))
          (λ n. other_byte byte pair.0 n (h.masks byte pair (sym (get_set_other layout (start + b / 8) byte new n) ∙ e)))
          (cases_eq byte (start + b / 8))

      values : (byte : ℕ) (pair : ℕ × ℕ) → slice_get (with_bit_at layout (start + b / 8) (b % 8)) byte ≡ Some pair → pair.1 ≡ pair.0
      values byte pair e =
          ⊎_elim
          (λ s.
          let same = found pair (ap (slice_get (with_bit_at layout (start + b / 8) (b % 8))) (sym s) ∙ e) in
          subst (λ (p : ℕ × ℕ). p.1 ≡ p.0) same (ap (λ z. with_bit z (b % 8)) (h.values (start + b / 8) old old_at)))
          (λ n. h.values byte pair (sym (get_set_other layout (start + b / 8) byte new n) ∙ e))
          (cases_eq byte (start + b / 8))

-- nothing is on in a byte that is 0
no_bits : (start byte : ℕ) → HasBitsOf start [] byte 0
no_bits start byte = record {
  fits = omega arith;
  bits = λ bit l. (λ e. absurd (omega (arith, e, bit_at-zero bit)), λ on. absurd (omega (arith, on.is_on.1)));
}

-- one more byte with nothing on
pub empty_more : (start n : ℕ) (layout : List (ℕ × ℕ)) → IsLayoutOn start n [] layout → IsLayoutOn start (n + 1) [] (layout ++ (0, 0) ∷ [])
empty_more start n layout h = record {
  size_is = length-append layout ((0, 0) ∷ []) ∙ ap (λ z. z + 1) h.size_is;
  masks = λ byte pair e. ⊎_elim (λ old. h.masks byte pair old)
      (λ new. subst (λ (p : ℕ × ℕ). HasBitsOf start [] byte p.0) new.1 (no_bits start byte)) (get_pushed layout (0, 0) byte pair e);
  values = λ byte pair e. ⊎_elim (λ old. h.values byte pair old) (λ new. subst (λ (p : ℕ × ℕ). p.1 ≡ p.0) new.1 refl)
      (get_pushed layout (0, 0) byte pair e);
}

pub length-with_bit : (layout : List (ℕ × ℕ)) (byte bit : ℕ) → length (with_bit_at layout byte bit) ≡ length layout
length-with_bit layout byte bit =
    length-set layout byte (with_bit (slice_index_or layout byte (0, 0)).0 bit, with_bit (slice_index_or layout byte (0, 0)).1 bit)

-- a list that was written whole through a reference to its elements
pub written_back : {X : Type 0} (n : ℕ) (new old : List X) → length new ≡ length old → n ≡ length old
    → take n (new ++ drop (length new) old) ≡ new
written_back n new old e l =
    ap (λ z. take n (new ++ z)) (drop_all (length new) old (omega (arith, e))) ∙ ap (take n) (append-nil new)
    ∙ take_all n new (omega (arith, e, l))

-- the byte of a boolean of the group is one of its bytes
pub byte_within : (g : Layout) (p : BuiltPreset) (bytes : ℕ) → IsSized g.settings g.bool_start_byte_offset g.settings_size
    → bytes ≡ g.settings_size → HasAll g p → All (λ b. g.bool_start_byte_offset + b / 8 < bytes) p.booleans
byte_within g p bytes sized e all = λ k d l. let below = all k d l in let size = sized.bytes in omega arith
