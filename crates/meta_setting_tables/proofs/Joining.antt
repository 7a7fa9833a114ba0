-- Default bytes, joined setting by setting.
use Rattle.std.proofs.Common.{◌≡◌, ◌≢◌, ℕ, ◌+◌, ◌-◌, ◌/◌, ◌%◌, ◌^◌, ◌<◌, ◌≤◌, max, zero, suc, Bool, true, false, cond, List, [], ◌∷◌, ◌++◌}
use Rattle.std.proofs.Common.{length, take, slice_get, slice_set, get_or, Some, ◌⊎◌, refl, sym, ap, ◌∙◌, subst, inl, inr, arith}
use Rattle.std.specs.Prelude.{fold, filter}
use Rattle.std.specs.Int.{bit_at}
use Rattle.std.specs.Int.RustNames.{bit_or}
use Rattle.std.specs.Int.Bits.{or_zero_l}
use Rattle.std.proofs.lemmas.Bool.{cases_eq, cases_lt, eq-eqb, ne_eqb, eqb-true}
use Rattle.std.proofs.lemmas.List.{take_more}
use Rattle.std.proofs.lemmas.Nat.Bits.{bit_at_or, bit_at-zero, bit_at-pow_same, bit_at-pow_other, bit_at-lt}
use Rattle.std.proofs.lemmas.List.Elements.{filter-append}
use Rattle.std.proofs.lemmas.List.Sums.{fold-append}
use Rattle.std.proofs.lemmas.Option.{slice_get_within, get_or_from_slice_get, same_Some}
use Rattle.meta_lists.proofs.Places.{get_set_here, get_set_other, get_drop}
use Rattle.meta_settings.specs.declared.setting.BoolSetting.{BoolSetting}
use Rattle.meta_settings.specs.declared.setting.SpecificSetting.{SpecificSetting}
use Rattle.meta_settings.specs.declared.setting.SpecificSetting.TheVariants.{Bool as ABool, Enum as AnEnum, Num as ANum}
use Rattle.meta_settings.specs.Layout.{PlacedSetting, Layout, IsSized, booleans_in, default_byte_of, specific_default}
use Rattle.meta_setting_tables.specs.BuiltLayout.{IsBuiltLayout, HasByte, HasBit}
use Rattle.meta_setting_tables.specs.DefaultBytes.{is_in_byte, joined_at, HoldsDefault, AreDefaultsOf}

-- ---- one setting more

joined_end : (byte : ℕ) (settings : List PlacedSetting) (s : PlacedSetting)
    → joined_at byte (settings ++ s ∷ []) ≡ cond (is_in_byte byte s) (bit_or (joined_at byte settings) (default_byte_of s))
    (joined_at byte settings)
joined_end byte settings s =
    ap (fold (λ joined (s : PlacedSetting). bit_or joined (default_byte_of s)) 0) (filter-append (is_in_byte byte) settings (s ∷ []))
    ∙ fold-append (λ joined (s : PlacedSetting). bit_or joined (default_byte_of s)) 0 (filter (is_in_byte byte) settings)
    (filter (is_in_byte byte) (s ∷ []))
    ∙ elim (is_in_byte byte s) as (λ b. fold (λ joined (s : PlacedSetting). bit_or joined (default_byte_of s)) (joined_at byte settings)
    (cond b (s ∷ []) []) ≡ cond b (bit_or (joined_at byte settings) (default_byte_of s)) (joined_at byte settings)) [
      | true ↦ refl
      | false ↦
          refl
    ]

pub joined_more : (settings : List PlacedSetting) (k : ℕ) (s : PlacedSetting) (bytes : List ℕ) (size : ℕ) {at given : ℕ}
    → slice_get settings k ≡ Some s → length bytes ≡ size → s.byte_offset < size → at ≡ s.byte_offset → given ≡ default_byte_of s
    → ((byte : ℕ) → byte < size → slice_get bytes byte ≡ Some (joined_at byte (take k settings)))
    → (byte : ℕ) → byte < size → slice_get (slice_set bytes at (bit_or (get_or bytes at 0) given)) byte
    ≡ Some (joined_at byte (take (k + 1) settings))
joined_more settings k s bytes size {at} {given} e long within place gives before byte inside =
    let one : take (k + 1) settings ≡ take k settings ++ s ∷ [] = take_more settings k s (slice_get_within settings k s e)
    ∙ ap (λ (x : PlacedSetting). take k settings ++ x ∷ []) (get_or_from_slice_get settings k s s e) in
    let next : joined_at byte (take (k + 1) settings)
    ≡ cond (is_in_byte byte s) (bit_or (joined_at byte (take k settings)) (default_byte_of s)) (joined_at byte (take k settings)) =
    ap (joined_at byte) one ∙ joined_end byte (take k settings) s in
    elim (cases_eq at byte) [
      | inl same ↦
          let read : get_or bytes at 0 ≡ joined_at byte (take k settings) =
          get_or_from_slice_get bytes at (joined_at byte (take k settings)) 0 (ap (slice_get bytes) same ∙ before byte inside) in
          let here : is_in_byte byte s ≡ true = eq-eqb s.byte_offset byte (sym place ∙ same) in
          ap (slice_get (slice_set bytes at (bit_or (get_or bytes at 0) given))) (sym same)
          ∙ get_set_here bytes at (bit_or (get_or bytes at 0) given) (omega arith)
          ∙ ap Some (ap (λ w. bit_or w given) read ∙ ap (bit_or (joined_at byte (take k settings))) gives
          ∙ sym (next ∙ ap (λ b. cond b (bit_or (joined_at byte (take k settings)) (default_byte_of s)) (joined_at byte (take k settings)))
          here))
      | inr differ ↦
          let elsewhere : is_in_byte byte s ≡ false = ne_eqb s.byte_offset byte (λ e. differ (place ∙ e)) in
          get_set_other bytes at byte (bit_or (get_or bytes at 0) given) (λ e. differ (sym e)) ∙ before byte inside
          ∙ ap Some (sym (next ∙ ap (λ b. cond b (bit_or (joined_at byte (take k settings)) (default_byte_of s))
          (joined_at byte (take k settings))) elsewhere))
    ]

-- ---- what one setting has in its byte

filter_has : {X : Type 0} (p : X → Bool) (xs : List X) (k : ℕ) (x : X) → slice_get xs k ≡ Some x → p x ≡ true
    → (j : ℕ) × (slice_get (filter p xs) j ≡ Some x)
filter_has p [] k x e t = absurd (cc)
filter_has p (y ∷ xs) zero x e t =
    let same : y ≡ x = same_Some y x e in
    (0, ap (λ b. slice_get (cond b (y ∷ filter p xs) (filter p xs)) 0) (ap p same ∙ t) ∙ e)
filter_has p (y ∷ xs) (suc k) x e t = let r = filter_has p xs k x e t in
    elim (p y) as (λ b. (j : ℕ) × (slice_get (cond b (y ∷ filter p xs) (filter p xs)) j ≡ Some x)) [ true ↦ (suc r.0, r.1) | false ↦ r ]

pub filter_from : {X : Type 0} (p : X → Bool) (xs : List X) (j : ℕ) (x : X) → slice_get (filter p xs) j ≡ Some x
    → (k : ℕ) × (slice_get xs k ≡ Some x) × (p x ≡ true)
filter_from p [] j x e = absurd (cc)
filter_from {X} p (y ∷ xs) j x e = go (p y) refl j e (λ i e'. filter_from p xs i x e')
  where
    go : (b : Bool) → p y ≡ b → (j : ℕ) → slice_get (cond b (y ∷ filter p xs) (filter p xs)) j ≡ Some x
        → ((i : ℕ) → slice_get (filter p xs) i ≡ Some x → (k : ℕ) × (slice_get xs k ≡ Some x) × (p x ≡ true))
        → (k : ℕ) × (slice_get (y ∷ xs) k ≡ Some x) × (p x ≡ true)
    go true t zero e below = let same : y ≡ x = same_Some y x e in (0, e, ap p (sym same) ∙ t)
    go true t (suc j) e below = let r = below j e in (suc r.0, r.1, r.2)
    go false t j e below = let r = below j e in (suc r.0, r.1, r.2)

-- the only element that passes
filter_one : {X : Type 0} (p : X → Bool) (xs : List X) (k : ℕ) (x : X) → slice_get xs k ≡ Some x → p x ≡ true
    → ((j : ℕ) (y : X) → slice_get xs j ≡ Some y → p y ≡ true → j ≡ k) → filter p xs ≡ x ∷ []
filter_one p [] k x e t only = absurd (cc)
filter_one {X} p (y ∷ xs) zero x e t only =
    let same : y ≡ x = same_Some y x e in
    ap (λ b. cond b (y ∷ filter p xs) (filter p xs)) (ap p same ∙ t)
    ∙ ap (λ w. y ∷ w) (nothing (filter p xs) (λ j z e'. let f = filter_from p xs j z e' in let o = only (suc f.0) z f.1 f.2
    in absurd (omega arith))) ∙ ap (λ w. w ∷ []) same
  where
    nothing : (ys : List X) → ((j : ℕ) (z : X) → slice_get ys j ≡ Some z → ⊥) → ys ≡ []
    nothing [] h = refl
    nothing (z ∷ ys) h = absurd (h 0 z refl)
filter_one p (y ∷ xs) (suc k) x e t only =
    go (p y) refl (filter_one p xs k x e t (λ j z e' t''. let o = only (suc j) z e' t'' in omega (arith, o)))
  where
    go : (b : Bool) → p y ≡ b → filter p xs ≡ x ∷ [] → cond b (y ∷ filter p xs) (filter p xs) ≡ x ∷ []
    go true t' below = let o = only 0 y refl t' in absurd (omega arith)
    go false t' below = below

-- a bit of what is joined
max_left : (x y m : ℕ) → m ≡ max x y → x ≡ 1 → y < 2 → m ≡ 1
max_left x y m e one l = omega arith

max_right : (x y m : ℕ) → m ≡ max x y → y ≡ 1 → x < 2 → m ≡ 1
max_right x y m e one l = omega arith

max_none : (x y m : ℕ) → m ≡ max x y → x ≡ 0 → y ≡ 0 → m ≡ 0
max_none x y m e f g = omega arith

stays_on : (i z : ℕ) (xs : List PlacedSetting) → bit_at z i ≡ 1
    → bit_at (fold (λ joined (s : PlacedSetting). bit_or joined (default_byte_of s)) z xs) i ≡ 1
stays_on i z [] e = e
stays_on i z (x ∷ xs) e = stays_on i (bit_or z (default_byte_of x)) xs
    (max_left (bit_at z i) (bit_at (default_byte_of x) i) (bit_at (bit_or z (default_byte_of x)) i) (bit_at_or z (default_byte_of x) i) e
    (bit_at-lt (default_byte_of x) i))

turned_on : (i z : ℕ) (xs : List PlacedSetting) (k : ℕ) (s : PlacedSetting) → slice_get xs k ≡ Some s → bit_at (default_byte_of s) i ≡ 1
    → bit_at (fold (λ joined (s : PlacedSetting). bit_or joined (default_byte_of s)) z xs) i ≡ 1
turned_on i z [] k s e on = absurd (cc)
turned_on i z (x ∷ xs) zero s e on =
    let same : x ≡ s = same_Some x s e in
    stays_on i (bit_or z (default_byte_of x)) xs (max_right (bit_at z i) (bit_at (default_byte_of x) i)
    (bit_at (bit_or z (default_byte_of x)) i) (bit_at_or z (default_byte_of x) i)
    (ap (λ (w : PlacedSetting). bit_at (default_byte_of w) i) same ∙ on) (bit_at-lt z i))
turned_on i z (x ∷ xs) (suc k) s e on = turned_on i (bit_or z (default_byte_of x)) xs k s e on

stays_off : (i z : ℕ) (xs : List PlacedSetting) → bit_at z i ≡ 0
    → ((k : ℕ) (s : PlacedSetting) → slice_get xs k ≡ Some s → bit_at (default_byte_of s) i ≡ 0)
    → bit_at (fold (λ joined (s : PlacedSetting). bit_or joined (default_byte_of s)) z xs) i ≡ 0
stays_off i z [] e off = e
stays_off i z (x ∷ xs) e off =
    stays_off i (bit_or z (default_byte_of x)) xs (max_none (bit_at z i) (bit_at (default_byte_of x) i)
    (bit_at (bit_or z (default_byte_of x)) i) (bit_at_or z (default_byte_of x) i) e (off 0 x refl)) (λ k s e'. off (suc k) s e')

-- ---- a group that is built

-- booleans at one bit of one byte are one
same_number : (start i j a b : ℕ) → a ≡ start + i / 8 → b ≡ start + j / 8 → a ≡ b → i % 8 ≡ j % 8 → i ≡ j
same_number start i j a b e f g h = omega arith

-- a boolean's default byte has its bit if it is true, and no other bit
own_bit : (s : PlacedSetting) (byte bit : ℕ) (h : HasBit s byte bit) → h.boolean.default ≡ true → bit_at (default_byte_of s) bit ≡ 1
own_bit s byte bit h t = ap (λ (x : SpecificSetting). bit_at (specific_default x) bit) h.is_boolean
    ∙ ap (λ b. bit_at (cond b (2 ^ h.boolean.bit_offset) 0) bit) t ∙ ap (λ n. bit_at (2 ^ n) bit) h.bit_is ∙ bit_at-pow_same bit

no_bit : (s : PlacedSetting) (byte bit : ℕ) (h : HasBit s byte bit) → h.boolean.default ≡ false → (other : ℕ)
    → bit_at (default_byte_of s) other ≡ 0
no_bit s byte bit h t other = ap (λ (x : SpecificSetting). bit_at (specific_default x) other) h.is_boolean
    ∙ ap (λ b. bit_at (cond b (2 ^ h.boolean.bit_offset) 0) other) t ∙ bit_at-zero other

other_bit : (s : PlacedSetting) (byte bit : ℕ) (h : HasBit s byte bit) (other : ℕ) → other ≢ bit → bit_at (default_byte_of s) other ≡ 0
other_bit s byte bit h other n = go h.boolean.default refl
  where
    go : (b : Bool) → h.boolean.default ≡ b → bit_at (default_byte_of s) other ≡ 0
    go false t = no_bit s byte bit h t other
    go true t = ap (λ (x : SpecificSetting). bit_at (specific_default x) other) h.is_boolean
        ∙ ap (λ b. bit_at (cond b (2 ^ h.boolean.bit_offset) 0) other) t ∙ ap (λ n. bit_at (2 ^ n) other) h.bit_is
        ∙ bit_at-pow_other bit other n

holds_whole : (byte : ℕ) (x : SpecificSetting) → ((b : BoolSetting) → x ≡ ABool b → ⊥) → byte ≡ specific_default x → HoldsDefault byte x
holds_whole byte (ABool b) n e = absurd (n b refl)
holds_whole byte (AnEnum values) n e = e
holds_whole byte (ANum default) n e = e

holds_bit : (byte bit : ℕ) (x : SpecificSetting) (b : BoolSetting) → x ≡ ABool b → b.bit_offset ≡ bit
    → bit_at byte bit ≡ cond b.default 1 0 → HoldsDefault byte x
holds_bit byte bit x b e f on = subst (HoldsDefault byte) (sym e) (ap (bit_at byte) f ∙ on)

module _ (g : Layout) (built : IsBuiltLayout g) (sized : IsSized g.settings g.bool_start_byte_offset g.settings_size) where
  pub placed : (k : ℕ) (s : PlacedSetting) → slice_get g.settings k ≡ Some s → ((k < g.bool_start_byte_offset) × HasByte s k)
      ⊎ ((j : ℕ) × (k ≡ g.bool_start_byte_offset + j) × (j < length (booleans_in g)) × HasBit s (g.bool_start_byte_offset + j / 8) (j % 8))
  placed k s e = elim (cases_lt k g.bool_start_byte_offset) [
    | inl before ↦ inl (before, built.bytes k s before e)
    | inr after ↦
        let place : g.bool_start_byte_offset + (k - g.bool_start_byte_offset) ≡ k = omega arith in
        let at : slice_get (booleans_in g) (k - g.bool_start_byte_offset) ≡ Some s =
        get_drop g.settings g.bool_start_byte_offset (k - g.bool_start_byte_offset) ∙ ap (slice_get g.settings) place ∙ e in
        inr (
          k - g.bool_start_byte_offset,
          sym place,
          slice_get_within (booleans_in g) (k - g.bool_start_byte_offset) s at,
          built.bits (k - g.bool_start_byte_offset) s at,
        )
  ]

  pub byte_inside : (k : ℕ) (s : PlacedSetting) → slice_get g.settings k ≡ Some s → s.byte_offset < g.settings_size
  byte_inside k s e = elim (placed k s e) [
    | inl own ↦ let l = own.0 in let b = own.1.byte_is in let size = sized.bytes in omega (arith, l, b, size)
    | inr bit ↦ let l = bit.2 in let b = bit.3.byte_is in let size = sized.bytes in omega (arith, l, b, size)
  ]

  hold_own : (k : ℕ) (s : PlacedSetting) → slice_get g.settings k ≡ Some s → k < g.bool_start_byte_offset → HasByte s k
      → HoldsDefault (joined_at s.byte_offset g.settings) s.specific
  hold_own k s e l own =
      let alone : filter (is_in_byte s.byte_offset) g.settings ≡ s ∷ [] =
      filter_one (is_in_byte s.byte_offset) g.settings k s e (eq-eqb s.byte_offset s.byte_offset refl)
      (λ j y e' t. elim (placed j y e') [
        | inl other ↦ let same = eqb-true y.byte_offset s.byte_offset t in let b = other.1.byte_is in let b' = own.byte_is
            in omega (arith, same, b, b')
        | inr other ↦ let same = eqb-true y.byte_offset s.byte_offset t in let b = other.3.byte_is in let b' = own.byte_is
            in absurd (omega (arith, same, b, b'))
      ]) in
      holds_whole (joined_at s.byte_offset g.settings) s.specific own.no_boolean
      (ap (fold (λ joined (s : PlacedSetting). bit_or joined (default_byte_of s)) 0) alone ∙ or_zero_l (default_byte_of s))

  hold_bit : (k j : ℕ) (s : PlacedSetting) → slice_get g.settings k ≡ Some s → k ≡ g.bool_start_byte_offset + j
      → HasBit s (g.bool_start_byte_offset + j / 8) (j % 8) → HoldsDefault (joined_at s.byte_offset g.settings) s.specific
  hold_bit k j s e place h = holds_bit (joined_at s.byte_offset g.settings) (j % 8) s.specific h.boolean h.is_boolean h.bit_is
      (go h.boolean.default refl)
    where
      go : (b : Bool) → h.boolean.default ≡ b → bit_at (joined_at s.byte_offset g.settings) (j % 8) ≡ cond h.boolean.default 1 0
      go true t =
          let has = filter_has (is_in_byte s.byte_offset) g.settings k s e (eq-eqb s.byte_offset s.byte_offset refl) in
          turned_on (j % 8) 0 (filter (is_in_byte s.byte_offset) g.settings) has.0 s has.1
          (own_bit s (g.bool_start_byte_offset + j / 8) (j % 8) h t) ∙ sym (ap (λ b. cond b 1 0) t)
      go false t =
          stays_off (j % 8) 0 (filter (is_in_byte s.byte_offset) g.settings) (bit_at-zero (j % 8)) (λ i y e'.
          let from = filter_from (is_in_byte s.byte_offset) g.settings i y e' in
          let same = eqb-true y.byte_offset s.byte_offset from.2 in
          elim (placed from.0 y from.1) [
            | inl other ↦ let l = other.0 in let b = other.1.byte_is in let b' = h.byte_is in absurd (omega (arith, same, l, b, b'))
            | inr other ↦ elim (cases_eq (j % 8) (other.0 % 8)) [
              | inl bits ↦
                  let b = other.3.byte_is in let b' = h.byte_is in
                  let number : other.0 ≡ j = same_number g.bool_start_byte_offset other.0 j y.byte_offset s.byte_offset b b' same
                  (sym bits) in
                  let one : k ≡ from.0 = place ∙ sym (other.1 ∙ ap (λ n. g.bool_start_byte_offset + n) number) in
                  let it : s ≡ y = same_Some s y (sym e ∙ ap (slice_get g.settings) one ∙ from.1) in
                  ap (λ (w : PlacedSetting). bit_at (default_byte_of w) (j % 8)) (sym it)
                  ∙ no_bit s (g.bool_start_byte_offset + j / 8) (j % 8) h t (j % 8)
              | inr differ ↦ other_bit y (g.bool_start_byte_offset + other.0 / 8) (other.0 % 8) other.3 (j % 8) differ
            ]
          ])
          ∙ sym (ap (λ b. cond b 1 0) t)

  pub defaults_all : (defaults : List ℕ) → length defaults ≡ g.settings_size
      → ((byte : ℕ) → byte < g.settings_size → slice_get defaults byte ≡ Some (joined_at byte g.settings)) → AreDefaultsOf g defaults
  defaults_all defaults size joined = record {
    size = size;
    joined = joined;
    hold = λ k s e. record {
      byte = joined_at s.byte_offset g.settings;
      there = joined s.byte_offset (byte_inside k s e);
      holds = elim (placed k s e) [ inl own ↦ hold_own k s e own.0 own.1 | inr bit ↦ hold_bit k bit.0 s e bit.1 bit.3 ];
    };
  }

-- ---- the bits of a byte

-- a bit that is on came from one of the defaults
on_from : (i z : ℕ) (xs : List PlacedSetting) → bit_at (fold (λ joined (s : PlacedSetting). bit_or joined (default_byte_of s)) z xs) i ≡ 1
    → (bit_at z i ≡ 1) ⊎ ((k : ℕ) × ((s : PlacedSetting) × (slice_get xs k ≡ Some s) × (bit_at (default_byte_of s) i ≡ 1)))
on_from i z [] on = inl on
on_from i z (x ∷ xs) on = go (on_from i (bit_or z (default_byte_of x)) xs on)
  where
    own : (cases : (bit_at z i ≡ 1) ⊎ (bit_at z i ≡ 1 → ⊥)) → bit_at (bit_or z (default_byte_of x)) i ≡ 1
        → (bit_at z i ≡ 1) ⊎ (bit_at (default_byte_of x) i ≡ 1)
    own (inl e) h = inl e
    own (inr n) h = inr (max_other (bit_at z i) (bit_at (default_byte_of x) i) (bit_at (bit_or z (default_byte_of x)) i)
        (bit_at_or z (default_byte_of x) i) h n (bit_at-lt z i))
      where
        max_other : (a b m : ℕ) → m ≡ max a b → m ≡ 1 → (a ≡ 1 → ⊥) → a < 2 → b ≡ 1
        max_other a b m e one n l = omega arith

    first : (bit_at z i ≡ 1) ⊎ (bit_at (default_byte_of x) i ≡ 1) → (bit_at z i ≡ 1)
        ⊎ ((k : ℕ) × ((s : PlacedSetting) × (slice_get (x ∷ xs) k ≡ Some s) × (bit_at (default_byte_of s) i ≡ 1)))
    first (inl e) = inl e
    first (inr e) = inr (0, (x, refl, e))

    go : (bit_at (bit_or z (default_byte_of x)) i ≡ 1)
        ⊎ ((k : ℕ) × ((s : PlacedSetting) × (slice_get xs k ≡ Some s) × (bit_at (default_byte_of s) i ≡ 1)))
        → (bit_at z i ≡ 1) ⊎ ((k : ℕ) × ((s : PlacedSetting) × (slice_get (x ∷ xs) k ≡ Some s) × (bit_at (default_byte_of s) i ≡ 1)))
    go (inl e) = first (own (cases_eq (bit_at z i) 1) e)
    go (inr h) = inr (suc h.0, h.1)

-- only bits of booleans are on in a byte after those of the enums and numbers
pub boolean_on : (g : Layout) → IsBuiltLayout g → IsSized g.settings g.bool_start_byte_offset g.settings_size → (byte bit : ℕ)
    → g.bool_start_byte_offset ≤ byte → bit_at (joined_at byte g.settings) bit ≡ 1
    → (j : ℕ) × (j < length (booleans_in g)) × (byte ≡ g.bool_start_byte_offset + j / 8) × (bit ≡ j % 8)
boolean_on g built sized byte bit after on = go (on_from bit 0 (filter (is_in_byte byte) g.settings) on)
  where
    go : (bit_at 0 bit ≡ 1) ⊎ ((k : ℕ) × ((s : PlacedSetting) × (slice_get (filter (is_in_byte byte) g.settings) k ≡ Some s)
        × (bit_at (default_byte_of s) bit ≡ 1))) → (j : ℕ) × (j < length (booleans_in g)) × (byte ≡ g.bool_start_byte_offset + j / 8)
        × (bit ≡ j % 8)
    go (inl zero_on) = let off = bit_at-zero bit in absurd (omega (arith, zero_on, off))
    go (inr h) =
        let from = filter_from (is_in_byte byte) g.settings h.0 h.1.0 h.1.1 in
        let same = eqb-true h.1.0.byte_offset byte from.2 in
        elim (placed g built sized from.0 h.1.0 from.1) [
          | inl own ↦ let l = own.0 in let b = own.1.byte_is in absurd (omega (arith, same, l, b, after))
          | inr at ↦ let b = at.3.byte_is in elim (cases_eq bit (at.0 % 8)) [
            | inl is ↦ (at.0, at.2, omega (arith, same, b), is)
            | inr differ ↦ let off = other_bit h.1.0 (g.bool_start_byte_offset + at.0 / 8) (at.0 % 8) at.3 bit differ in let is = h.1.2
                in absurd (omega (arith, off, is))
          ]
        ]
