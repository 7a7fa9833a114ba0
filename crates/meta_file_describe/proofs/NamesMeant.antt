-- The name of a boolean stands for the boolean, where no two booleans have one name.
use Rattle.std.proofs.Common.{◌≡◌, ℕ, ◌<◌, Bool, true, false, cond, eqb, List, [], ◌∷◌, All, Some, None, length, map, slice_get, get_or}
use Rattle.std.proofs.Common.{refl, sym, ap, ◌∙◌, arith}
use Rattle.std.specs.Prelude.{Option, option_map, unwrap_or, nat_lt}
use Rattle.std.specs.List.{position, position_or_len, filter_map, cons_option}
use Rattle.std.specs.Cmp.Lexicographic.{bytes_decides}
use Rattle.std.proofs.lemmas.Bool.{lt-ltb}
use Rattle.std.proofs.lemmas.List.{length-map}
use Rattle.std.proofs.lemmas.List.Elements.{All-head, All-tail}
use Rattle.std.proofs.lemmas.List.Sums.{position_or_len_is}
use Rattle.std.proofs.lemmas.Option.{get_or_from_slice_get}
use lib.Pointwise.{pointwise}
use Rattle.meta_lists.proofs.Places.{get_there}
use Rattle.meta_lists.proofs.Mapped.{get_map}
use Rattle.meta_settings.specs.declared.index.PresetType.{PresetType}
use Rattle.meta_settings.specs.declared.index.PresetType.TheVariants.{BoolSetting}
use Rattle.meta_settings.specs.Layout.{PlacedSetting}
use Rattle.meta_settings.specs.PresetLayout.{boolean_name}
use Rattle.meta_file_declare.specs.Named.{Known, first_place, meant_at, meant}
use Rattle.meta_file_describe.proofs.Sayable.{AreNamedApart}

-- ---- the first place that passes

pub found_there : {X : Type 0} (p : X → Bool) (xs : List X) (b : ℕ) (d : X) → b < length xs
    → ((k : ℕ) → k < b → p (get_or xs k d) ≡ false) → p (get_or xs b d) ≡ true → position p xs ≡ Some b
found_there p xs b d l before at =
    let first : position_or_len p xs ≡ b = position_or_len_is p xs b d (omega (arith, l)) before (λ m. at) in
    ap (λ (n : ℕ). cond (nat_lt n (length xs)) (Some n) None) first ∙ ap (λ (t : Bool). cond t (Some b) None) (lt-ltb b (length xs) l)

differ_by : (a q : List ℕ) → (a ≡ q → ⊥) → (b : Bool) → pointwise eqb a q ≡ b → pointwise eqb a q ≡ false
differ_by a q h true e = absurd (h ((bytes_decides a q).0 e))
differ_by a q h false e = e

-- ---- names of booleans

abbrev pub names_of : List PlacedSetting → List (List ℕ)
names_of settings = map (λ s. s.name) settings

module _ (booleans : List PlacedSetting) (apart : AreNamedApart booleans) where
  -- the name at a place
  name_at : (k : ℕ) (s : PlacedSetting) → slice_get booleans k ≡ Some s → get_or (names_of booleans) k [] ≡ s.name
  name_at k s at = get_or_from_slice_get (names_of booleans) k s.name [] (get_map (λ x. x.name) booleans k s at)

  pub name_is : (k : ℕ) (s : PlacedSetting) → slice_get booleans k ≡ Some s → boolean_name booleans k ≡ s.name
  name_is k s at = ap (λ (o : Option PlacedSetting). unwrap_or (option_map (λ s. s.name) o) []) at

  -- the names before that of a boolean are other names
  others_before : (b : ℕ) → b < length booleans → (k : ℕ) → k < b
      → pointwise eqb (get_or (names_of booleans) k []) (boolean_name booleans b) ≡ false
  others_before b l k less =
      let one = get_there booleans k (omega (arith, l, less)) in
      let two = get_there booleans b l in
      differ_by _ _ (λ e. let same : k ≡ b = apart k b one.0 two.0 one.1 two.1
      (sym (name_at k one.0 one.1) ∙ e ∙ name_is b two.0 two.1) in omega (arith, same, less)) _ refl

  itself : (b : ℕ) → b < length booleans → pointwise eqb (get_or (names_of booleans) b []) (boolean_name booleans b) ≡ true
  itself b l =
      let it = get_there booleans b l in
      (bytes_decides _ _).1 (name_at b it.0 it.1 ∙ sym (name_is b it.0 it.1))

  first_is : (b : ℕ) → b < length booleans → first_place (names_of booleans) (boolean_name booleans b) ≡ Some b
  first_is b l = found_there (λ n. pointwise eqb n (boolean_name booleans b)) (names_of booleans) b []
      (let long = length-map booleans (λ s. s.name) in omega (arith, l, long)) (others_before b l) (itself b l)

  -- the name of a boolean stands for it
  pub meant_again : (known : Known) → known.booleans ≡ names_of booleans → (b : ℕ) → b < length booleans
      → meant known (boolean_name booleans b) ≡ Some (BoolSetting b)
  meant_again known is b l =
      let name = boolean_name booleans b in
      ap (λ (ns : List (List ℕ)). meant_at (first_place ns name) (first_place known.presets name)) is
      ∙ ap (λ (o : Option ℕ). meant_at o (first_place known.presets name)) (first_is b l)

  -- and so do the names of some
  pub all_meant : (known : Known) → known.booleans ≡ names_of booleans → (bs : List ℕ) → All (λ b. b < length booleans) bs
      → filter_map (meant known) (map (boolean_name booleans) bs) ≡ map (λ b. BoolSetting b) bs
  all_meant known is [] h = refl
  all_meant known is (b ∷ bs) h =
      ap (λ (o : Option PresetType). cons_option o (filter_map (meant known) (map (boolean_name booleans) bs)))
      (meant_again known is b (All-head (λ n. n < length booleans) b bs h))
      ∙ ap (λ (ts : List PresetType). BoolSetting b ∷ ts) (all_meant known is bs (All-tail (λ n. n < length booleans) b bs h))
