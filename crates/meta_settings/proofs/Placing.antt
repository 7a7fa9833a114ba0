-- The settings so far in their places.
use Rattle.std.proofs.Common.{◌≡◌, ℕ, suc, ◌+◌, ◌/◌, ◌<◌, ◌≤◌, Bool, true, false, not, cond, List, [], ◌∷◌, ◌++◌, length, length-append}
use Rattle.std.proofs.Common.{take, drop, slice_index_or, refl, sym, ap, ◌∙◌, arith, add-zero}
use Rattle.std.specs.List.{filter}
use Rattle.std.proofs.lemmas.List.{take-append-drop, append-nil}
use Rattle.std.proofs.lemmas.List.Elements.{filter-append, filter_more}
use Rattle.meta_settings.specs.GroupDeclaration.{SettingDeclaration, is_bool, has_own_byte, booleans_among, others_among}
use Rattle.meta_settings.specs.Layout.{PlacedSetting}
use Rattle.meta_settings.specs.LaidOut.{placed_at, in_bytes, in_bits}

-- ---- what passes a test in a list up to a place

module _ {X : Type 0} (p : X → Bool) (xs : List X) (i : ℕ) (x : X) (l : i < length xs) (is : x ≡ slice_index_or xs i x) where
  pub passes_more : p x ≡ true → filter p (take (i + 1) xs) ≡ filter p (take i xs) ++ x ∷ []
  passes_more t = filter_more p xs i x l ∙ ap (λ z. filter p (take i xs) ++ cond (p z) (z ∷ []) []) (sym is)
      ∙ ap (λ b. filter p (take i xs) ++ cond b (x ∷ []) []) t

  pub fails_more : p x ≡ false → filter p (take (i + 1) xs) ≡ filter p (take i xs)
  fails_more f = filter_more p xs i x l ∙ ap (λ z. filter p (take i xs) ++ cond (p z) (z ∷ []) []) (sym is)
      ∙ ap (λ b. filter p (take i xs) ++ cond b (x ∷ []) []) f ∙ append-nil (filter p (take i xs))

  fewer_so_far : (n : ℕ) → length (filter p (take n xs)) ≤ length (filter p xs)
  fewer_so_far n =
      let whole = ap (λ ys. length (filter p ys)) (sym (take-append-drop n xs)) ∙ ap length (filter-append p (take n xs) (drop n xs))
      ∙ length-append (filter p (take n xs)) (filter p (drop n xs)) in
      omega arith

  pub one_of_all : p x ≡ true → length (filter p (take i xs)) < length (filter p xs)
  one_of_all t =
      let more = ap length (passes_more t) ∙ length-append (filter p (take i xs)) (x ∷ []) in
      let few = fewer_so_far (i + 1) in
      omega arith

-- ---- one more setting

in_bytes_push : (byte : ℕ) (xs : List SettingDeclaration) (s : SettingDeclaration)
    → in_bytes byte (xs ++ s ∷ []) ≡ in_bytes byte xs ++ placed_at s (byte + length xs) 0 ∷ []
in_bytes_push byte [] s = rw add-zero refl
in_bytes_push byte (x ∷ xs) s =
    let next : (byte + 1) + length xs ≡ byte + length (x ∷ xs) = omega arith in
    ap (λ z. placed_at x byte 0 ∷ z) (in_bytes_push (byte + 1) xs s ∙ ap (λ n. in_bytes (byte + 1) xs ++ placed_at s n 0 ∷ []) next)

pub length-in_bytes : (byte : ℕ) (xs : List SettingDeclaration) → length (in_bytes byte xs) ≡ length xs
length-in_bytes byte [] = refl
length-in_bytes byte (x ∷ xs) = ap suc (length-in_bytes (byte + 1) xs)

in_bits_push : (start k : ℕ) (xs : List SettingDeclaration) (s : SettingDeclaration)
    → in_bits start k (xs ++ s ∷ []) ≡ in_bits start k xs ++ placed_at s (start + (k + length xs) / 8) (k + length xs) ∷ []
in_bits_push start k [] s = rw add-zero refl
in_bits_push start k (x ∷ xs) s =
    let next : (k + 1) + length xs ≡ k + length (x ∷ xs) = omega arith in
    ap (λ z. placed_at x (start + k / 8) k ∷ z) (in_bits_push start (k + 1) xs s
    ∙ ap (λ n. in_bits start (k + 1) xs ++ placed_at s (start + n / 8) n ∷ []) next)

pub length-in_bits : (start k : ℕ) (xs : List SettingDeclaration) → length (in_bits start k xs) ≡ length xs
length-in_bits start k [] = refl
length-in_bits start k (x ∷ xs) = ap suc (length-in_bits start (k + 1) xs)

module _ (settings : List SettingDeclaration) (i : ℕ) (s : SettingDeclaration) (l : i < length settings) (is : s
    ≡ slice_index_or settings i s) where
  module _ (old : List PlacedSetting) (so_far : old ≡ in_bytes 0 (others_among (take i settings))) where
    pub byte_below : false ≡ is_bool s → length old < length (others_among settings)
    byte_below f =
        let own = one_of_all has_own_byte settings i s l is (ap not (sym f)) in
        let so = ap length so_far ∙ length-in_bytes 0 (others_among (take i settings)) in
        omega arith

    pub one_byte_more : (n : ℕ) → n ≡ length old → false ≡ is_bool s
        → old ++ placed_at s n 0 ∷ [] ≡ in_bytes 0 (others_among (take (i + 1) settings))
    one_byte_more n e f =
        let counted = e ∙ ap length so_far ∙ length-in_bytes 0 (others_among (take i settings)) in
        let so : n ≡ 0 + length (others_among (take i settings)) = omega arith in
        ap (λ z. z ++ placed_at s n 0 ∷ []) so_far ∙ ap (λ m. in_bytes 0 (others_among (take i settings)) ++ placed_at s m 0 ∷ []) so
        ∙ sym (ap (in_bytes 0) (passes_more has_own_byte settings i s l is (ap not (sym f)))
        ∙ in_bytes_push 0 (others_among (take i settings)) s)

  module _ (start : ℕ) (old : List PlacedSetting) (so_far : old ≡ in_bits start 0 (booleans_among (take i settings))) where
    -- an enum or a number has no bit
    pub no_bit : false ≡ is_bool s → old ≡ in_bits start 0 (booleans_among (take (i + 1) settings))
    no_bit f = so_far ∙ sym (ap (in_bits start 0) (fails_more is_bool settings i s l is (sym f)))

    pub bit_below : true ≡ is_bool s → length old < length (booleans_among settings)
    bit_below t =
        let own = one_of_all is_bool settings i s l is (sym t) in
        let so = ap length so_far ∙ length-in_bits start 0 (booleans_among (take i settings)) in
        omega arith

    pub one_bit_more : (n : ℕ) → n ≡ length old → true ≡ is_bool s
        → old ++ placed_at s (start + n / 8) n ∷ [] ≡ in_bits start 0 (booleans_among (take (i + 1) settings))
    one_bit_more n e t =
        let counted = e ∙ ap length so_far ∙ length-in_bits start 0 (booleans_among (take i settings)) in
        let so : n ≡ 0 + length (booleans_among (take i settings)) = omega arith in
        ap (λ z. z ++ placed_at s (start + n / 8) n ∷ []) so_far
        ∙ ap (λ m. in_bits start 0 (booleans_among (take i settings)) ++ placed_at s (start + m / 8) m ∷ []) so
        ∙ sym (ap (in_bits start 0) (passes_more is_bool settings i s l is (sym t))
        ∙ in_bits_push start 0 (booleans_among (take i settings)) s)
