-- Numbers that count on.
use Rattle.std.proofs.Common.{rules, ◌≡◌, ◌∙◌, ◌+◌, ◌<◌, ℕ, List, [], ◌∷◌, ◌++◌, length, slice_get, Some, ap, subst, ⊎_elim, arith}
use Rattle.std.proofs.lemmas.Bool.{cases_lt}
use Rattle.std.proofs.lemmas.List.{length-append}
use Rattle.meta_lists.proofs.Places.{get_left}
use Rattle.meta_lists.proofs.Pushed.{get_end}
use Rattle.meta_shared.specs.Formats.{AreNumbered, AreNumberedFrom, AreFormatsOf, format_place, id_of}
use Rattle.meta_shared.specs.declared.format.Format.{Format}
use Rattle.meta_shared.specs.declared.formats.Formats.{Formats}

-- the last of these numbers, and those before it
last_number : (first count : ℕ) (ids : List ℕ) (id k : ℕ) → AreNumbered first count ids → id ≡ first + count
    → k ≡ count → slice_get (ids ++ id ∷ []) k ≡ Some (first + k)
last_number first count ids id k held is same =
    let place : length ids ≡ k = let h : length ids ≡ count = held.count_is in omega arith in
    let number : id ≡ first + k = omega arith in
    subst (λ j. slice_get (ids ++ id ∷ []) j ≡ Some (first + k)) place (get_end ids id ∙ ap Some number)

-- one more number
pub numbered_more : (first count : ℕ) (ids : List ℕ) (id : ℕ) → AreNumbered first count ids → id ≡ first + count
    → AreNumbered first (count + 1) (ids ++ id ∷ [])
numbered_more first count ids id held is =
    let many : length ids ≡ count = held.count_is in
    record {
      count_is = omega (arith, length-append ids (id ∷ []));
      at = λ k within. ⊎_elim
          (λ below. get_left ids (id ∷ []) k (omega arith) ∙ held.at k below)
          (λ above. last_number first count ids id k held is (omega arith))
          (cases_lt k count);
    }

-- each format has a place among the 36
place_below : (format : Format) → format_place format < 36
place_below format = search rules

-- numbers that count on, told of each format by its place
pub numbered_from : (first : ℕ) (ids xs : List ℕ) (f : Formats) → AreNumbered first 36 ids → xs ≡ ids
    → ((format : Format) → slice_get xs (format_place format) ≡ Some (id_of f format)) → AreNumberedFrom first f
numbered_from first ids xs f held is told = λ format.
    let here : slice_get ids (format_place format) ≡ Some (id_of f format) =
    subst (λ (ys : List ℕ). slice_get ys (format_place format) ≡ Some (id_of f format)) is (told format) in
    let there : slice_get ids (format_place format) ≡ Some (first + format_place format) =
    held.at (format_place format) (place_below format) in
    cc

-- they are below the number that follows
pub numbered_below : (first n : ℕ) (f : Formats) → AreNumberedFrom first f → n ≡ first + 36 → AreFormatsOf n f
numbered_below first n f numbers is = λ format. omega (arith, numbers format, place_below format, is)
