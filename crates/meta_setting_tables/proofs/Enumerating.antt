-- Enumerators by the numbers of their texts.
use Rattle.std.proofs.Common.{◌≡◌, ◌⊎◌, inl, inr, ℕ, ◌+◌, ◌<◌, ◌≤◌, zero, suc, Bool, true, false, eqb, List, [], ◌∷◌, ◌++◌, All, length}
use Rattle.std.proofs.Common.{take, drop, slice_get, get_or, Some, None, Ok, Err, OnOk, OnErr, Result, Bor, refl, sym, ap, ◌∙◌, subst}
use Rattle.std.proofs.Common.{arith}
use Rattle.std.specs.Cmp.Lexicographic.{pointwise, bytes_decides}
use Rattle.std.proofs.Math.Seq.{take-append_seam, take-length}
use Rattle.std.proofs.lemmas.Bool.{cases_eq, eq-eqb, ne_eqb}
use Rattle.std.proofs.lemmas.List.{take_more, take_all, take-map, drop-map, take-take, length-take, length-map, map-append}
use Rattle.std.proofs.lemmas.List.Elements.{All-append}
use Rattle.std.proofs.lemmas.Option.{slice_get_within, slice_get-get_or, get_or_from_slice_get, same_Some}
use Rattle.meta_lists.proofs.Places.{get_take}
use Rattle.meta_unique.specs.Interning.{pointed_to, IsIndexOf, IsNew, AreDifferent}
use Rattle.meta_unique.specs.Overlap.{stands_at, added, added_at}
use Rattle.meta_setting_tables.specs.EnumeratorList.{same_text, with_values, values_at, StandAt}
use Rattle.meta_setting_tables.specs.NumberedTexts.{texts_numbered, AreNumbered, AreNumbersOfTexts, KeepsNumbers}
use Rattle.meta_unique.proofs.Numbered.{name_pointed}
use Rattle.meta_setting_tables.proofs.Renaming.{same_added, same_place, place_inside, added_most, added_all}

-- ---- texts that keep their numbers

text_kept : (old new : List (List ℕ)) (n : ℕ) → KeepsNumbers old new → n < length old → get_or new n [] ≡ get_or old n []
text_kept old new n k l =
    get_or_from_slice_get new n (get_or old n []) [] (sym (get_take new (length old) n l) ∙ ap (λ w. slice_get w n) k.kept
    ∙ slice_get-get_or old n [] l)

pub texts_kept : (old new : List (List ℕ)) (numbers : List ℕ) → KeepsNumbers old new → All (λ n. n < length old) numbers
    → texts_numbered new numbers ≡ texts_numbered old numbers
texts_kept old new [] k a = refl
texts_kept old new (n ∷ numbers) k a =
    let head : get_or new n [] ≡ get_or old n [] = text_kept old new n k (a 0 n (omega arith)) in
    let tail : texts_numbered new numbers ≡ texts_numbered old numbers = texts_kept old new numbers k (λ i d l. a (suc i) d (omega arith))
    in
    cc

pub long_kept : (old new : List (List ℕ)) → KeepsNumbers old new → length old ≤ length new
long_kept old new k = let e = ap length k.kept in let l = length-take (length old) new in omega (arith, e, l)

pub within_kept : (old new : List (List ℕ)) (numbers : List ℕ) → KeepsNumbers old new → All (λ n. n < length old) numbers
    → All (λ n. n < length new) numbers
within_kept old new numbers k a = λ i d l. let b = a i d l in let m = long_kept old new k in omega (arith, b, m)

pub kept_then : (a b c : List (List ℕ)) → KeepsNumbers a b → KeepsNumbers b c → KeepsNumbers a c
kept_then a b c k l = let m = long_kept a b k in record {
  kept = sym (take-take (length a) (length b) c m) ∙ ap (take (length a)) l.kept
      ∙ k.kept;
}

pub kept_same : (a b : List (List ℕ)) → b ≡ a → KeepsNumbers a b
kept_same a b e = record { kept = ap (take (length a)) e ∙ take-length a }

-- a text has an index, or it is new
known_or_new : (texts : List (List ℕ)) (x : List ℕ) → ((i : ℕ) × IsIndexOf same_text texts x i) ⊎ IsNew same_text texts x
known_or_new [] x = inr (λ i h. let e : None ≡ Some h.entry = h.there in (cc))
known_or_new (y ∷ texts) x = go (same_text x y) refl (known_or_new texts x)
  where
    go : (b : Bool) → same_text x y ≡ b → (((i : ℕ) × IsIndexOf same_text texts x i) ⊎ IsNew same_text texts x)
        → ((i : ℕ) × IsIndexOf same_text (y ∷ texts) x i) ⊎ IsNew same_text (y ∷ texts) x
    go true t below = inl (0, record { entry = y; there = refl; equal = t })
    go false t (inl k) = inl (suc k.0, record { entry = k.1.entry; there = k.1.there; equal = k.1.equal })
    go false t (inr n) = inr (λ i h. other i h)
      where
        other : (i : ℕ) → IsIndexOf same_text (y ∷ texts) x i → ⊥
        other zero h = let e : y ≡ h.entry = same_Some y h.entry h.there in let f : false ≡ true = sym t ∙ ap (same_text x) e ∙ h.equal
            in (cc)
        other (suc i) h = n i (record { entry = h.entry; there = h.there; equal = h.equal })

-- a text that is interned keeps the others
pub kept_added : (old new : List (List ℕ)) (x : List ℕ) → ((i : ℕ) → IsIndexOf same_text old x i → new ≡ old)
    → (IsNew same_text old x → new ≡ old ++ x ∷ []) → KeepsNumbers old new
kept_added old new x known fresh = go (known_or_new old x)
  where
    go : (((i : ℕ) × IsIndexOf same_text old x i) ⊎ IsNew same_text old x) → KeepsNumbers old new
    go (inl k) = kept_same old new (known k.0 k.1)
    go (inr n) = record { kept = ap (take (length old)) (fresh n) ∙ take-append_seam old (x ∷ []) }

-- one number more
pub numbers_none : (texts values : List (List ℕ)) (numbers : List ℕ) → numbers ≡ [] → AreNumbersOfTexts texts (take 0 values) numbers
numbers_none texts values numbers e = let long = ap length e
    in record { within = λ k d l. absurd (omega (arith, l, long)); values_are = ap (texts_numbered texts) e }

pub numbers_all : (texts values : List (List ℕ)) (k : ℕ) (numbers : List ℕ) → length values ≤ k
    → AreNumbersOfTexts texts (take k values) numbers → AreNumbersOfTexts texts values numbers
numbers_all texts values k numbers past h = subst (λ (w : List (List ℕ)). AreNumbersOfTexts texts w numbers) (take_all k values past) h

pub numbers_next : (old new values : List (List ℕ)) (k n : ℕ) (x : List ℕ) (numbers more : List ℕ) → slice_get values k ≡ Some x
    → KeepsNumbers old new → IsIndexOf same_text new x n → AreNumbersOfTexts old (take k values) numbers → more ≡ numbers ++ n ∷ []
    → AreNumbersOfTexts new (take (k + 1) values) more
numbers_next old new values k n x numbers more at kept index so e =
    let own : get_or new n [] ≡ x = get_or_from_slice_get new n index.entry [] index.there
    ∙ sym ((bytes_decides x index.entry).0 index.equal) in
    let front : texts_numbered new numbers ≡ take k values = texts_kept old new numbers kept so.within ∙ so.values_are in
    record {
      within = subst (All (λ n. n < length new)) (sym e)
          (All-append (λ n. n < length new) numbers (n ∷ []) (within_kept old new numbers kept so.within) (λ i d l. one i d l));
      values_are = ap (texts_numbered new) e ∙ map-append (λ n. get_or new n []) numbers (n ∷ [])
          ∙ ap (λ w. w ++ texts_numbered new (n ∷ [])) front ∙ ap (λ w. take k values ++ w ∷ []) own
          ∙ sym (take_more values k x (slice_get_within values k x at)
          ∙ ap (λ w. take k values ++ w ∷ []) (get_or_from_slice_get values k x x at));
    }
  where
    one : (i d : ℕ) → i < 1 → get_or (n ∷ []) i d < length new
    one zero d l = slice_get_within new n index.entry index.there
    one (suc i) d l = absurd (omega arith)

-- ---- lists of numbers that overlap

both_true : (texts : List (List ℕ)) → AreDifferent same_text texts → (x y : ℕ) → x < length texts → y < length texts
    → eqb x y ≡ same_text (get_or texts x []) (get_or texts y [])
both_true texts different x y lx ly = go (cases_eq x y) (same_text (get_or texts x []) (get_or texts y [])) refl
  where
    go : (x ≡ y) ⊎ (x ≡ y → ⊥) → (b : Bool) → same_text (get_or texts x []) (get_or texts y []) ≡ b
        → eqb x y ≡ same_text (get_or texts x []) (get_or texts y [])
    go (inl same) b t = eq-eqb x y same ∙ sym ((bytes_decides (get_or texts x []) (get_or texts y [])).1 (ap (λ n. get_or texts n []) same))
    go (inr differ) true t = absurd
        (differ (different x y (get_or texts x []) (get_or texts y []) (slice_get-get_or texts x [] lx) (slice_get-get_or texts y [] ly) t))
    go (inr differ) false t = ne_eqb x y differ ∙ sym t

module _ (old new : List (List ℕ)) (kept : KeepsNumbers old new) (different : AreDifferent same_text new) (table : List ℕ)
    (within : All (λ n. n < length old) table) (values : List (List ℕ)) (numbers : List ℕ)
    (own : AreNumbersOfTexts new values numbers) where
  old_texts : texts_numbered new table ≡ texts_numbered old table
  old_texts = texts_kept old new table kept within

  module _ (after : List ℕ) (made : pointwise eqb (added eqb table numbers) after ≡ true) where
    table_is : added eqb table numbers ≡ after
    table_is = (bytes_decides (added eqb table numbers) after).0 made

    pub numbered_after : AreNumbered new after
    numbered_after = record {
      different = different;
      within =
          subst (All (λ n. n < length new)) table_is (added_all eqb (λ n. n < length new) table numbers
          (within_kept old new table kept within) own.within);
    }

    pub texts_added : texts_numbered new after ≡ with_values (texts_numbered old table) values
    texts_added =
        ap (texts_numbered new) (sym table_is)
        ∙ same_added eqb same_text (λ n. get_or new n []) (λ n. n < length new) (both_true new different) table
        (within_kept old new table kept within) numbers own.within
        ∙ ap (λ w. with_values w (texts_numbered new numbers)) old_texts ∙ ap (with_values (texts_numbered old table)) own.values_are

    pub texts_kept_after : take (length table) after ≡ table → take (length (texts_numbered old table)) (texts_numbered new after)
        ≡ texts_numbered old table
    texts_kept_after e =
        ap (λ n. take n (texts_numbered new after)) (length-map table (λ n. get_or old n []))
        ∙ take-map (λ n. get_or new n []) (length table) after ∙ ap (texts_numbered new) e ∙ old_texts

    pub texts_stand : (place : ℕ) → stands_at eqb after numbers place ≡ true → StandAt (texts_numbered new after) values place
    texts_stand place t =
        let e : numbers ≡ take (length numbers) (drop place after) = (bytes_decides numbers (take (length numbers) (drop place after))).0 t
        in
        let long : length values ≡ length numbers = ap length (sym own.values_are) ∙ length-map numbers (λ n. get_or new n []) in
        record {
          values_are = ap (λ n. take n (drop place (texts_numbered new after))) long
              ∙ ap (take (length numbers)) (drop-map (λ n. get_or new n []) place after)
              ∙ take-map (λ n. get_or new n []) (length numbers) (drop place after) ∙ ap (texts_numbered new) (sym e) ∙ own.values_are;
        }

    pub texts_most : length (texts_numbered new after) ≤ length (texts_numbered old table) + length values
    texts_most =
        let long : length values ≡ length numbers = ap length (sym own.values_are) ∙ length-map numbers (λ n. get_or new n []) in
        let all = length-map after (λ n. get_or new n []) in
        let front = length-map table (λ n. get_or old n []) in
        let most = added_most eqb table numbers in
        let same = ap length table_is in
        omega (arith, long, all, front, most, same)

  pub texts_place : (place : ℕ) → place ≡ added_at eqb table numbers → place ≡ values_at (texts_numbered old table) values
  texts_place place e =
      e ∙ same_place eqb same_text (λ n. get_or new n []) (λ n. n < length new) (both_true new different) table
      (within_kept old new table kept within) numbers own.within
      ∙ ap (λ w. values_at w (texts_numbered new numbers)) old_texts ∙ ap (values_at (texts_numbered old table)) own.values_are

  pub texts_inside : (place : ℕ) → place ≡ added_at eqb table numbers → place ≤ length (texts_numbered old table)
  texts_inside place e = let l = place_inside eqb table numbers in let front = length-map table (λ n. get_or old n [])
      in omega (arith, e, l, front)

-- ---- copies

pub copied_next : (texts : List (Bor (List ℕ))) (numbers : List ℕ) (k n : ℕ) (r : Bor (List ℕ)) (x : List ℕ) (old new : List (List ℕ))
    → slice_get numbers k ≡ Some n → slice_get texts n ≡ Some r → x ≡ r.now → old ≡ texts_numbered (pointed_to texts) (take k numbers)
    → new ≡ old ++ x ∷ [] → new ≡ texts_numbered (pointed_to texts) (take (k + 1) numbers)
copied_next texts numbers k n r x old new at there e so more =
    let own : get_or (pointed_to texts) n [] ≡ x = get_or_from_slice_get (pointed_to texts) n r.now [] (name_pointed texts n r there)
    ∙ sym e in
    more ∙ ap (λ w. w ++ x ∷ []) so ∙ ap (λ w. texts_numbered (pointed_to texts) (take k numbers) ++ w ∷ []) (sym own)
    ∙ sym (map-append (λ m. get_or (pointed_to texts) m []) (take k numbers) (n ∷ []))
    ∙ ap (texts_numbered (pointed_to texts)) (sym (take_more numbers k n (slice_get_within numbers k n at)
    ∙ ap (λ m. take k numbers ++ m ∷ []) (get_or_from_slice_get numbers k n n at)))

-- the numbers are those of texts, whether a list was added or not
pub numbered_still : (old new : List (List ℕ)) → KeepsNumbers old new → AreDifferent same_text new → (table : List ℕ)
    → All (λ n. n < length old) table → (values : List (List ℕ)) (numbers : List ℕ) → AreNumbersOfTexts new values numbers
    → {E : Type 0} (r : Result ℕ E) (after : List ℕ)
    → OnOk r (pointwise eqb (added eqb table numbers) after ≡ true) → OnErr r (after ≡ table) → AreNumbered new after
numbered_still old new kept different table within values numbers own (Ok place) after made err =
    numbered_after old new kept different table within values numbers own after made
numbered_still old new kept different table within values numbers own (Err e) after made err =
    record { different = different; within = subst (All (λ n. n < length new)) (sym err) (within_kept old new table kept within) }
