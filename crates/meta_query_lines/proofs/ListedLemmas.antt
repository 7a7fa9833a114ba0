-- Lists of words, parted by commas.
use Rattle.std.proofs.Common.{◌<◌, zero, suc, codes}
use Rattle.std.proofs.Common.{◌≡◌, ℕ, ◌+◌, ⊎_elim, List, [], ◌∷◌, ◌++◌, length, map, take, slice_get, Some, refl, sym, ap, ◌∙◌}
use Rattle.std.proofs.Common.{subst, arith, append_assoc, append-nil}
use Rattle.std.specs.List.{join_with_byte}
use Rattle.std.proofs.lemmas.List.{length-append, length-map, length-take-le, map-append}
use Rattle.std.proofs.lemmas.Option.{slice_get_within}
use Rattle.std.proofs.Math.Seq.{take-length}
use Rattle.meta_lists.proofs.Joined.{three}
use Rattle.meta_lists.proofs.Places.{take_next}
use Rattle.meta_lists.proofs.Pushed.{get_pushed}
use Rattle.meta_query_lines.specs.SettingLine.{list_of_names}
use Rattle.meta_query_lines.specs.Listed.{comma_before, dash_for}
use Rattle.meta_query_lines.specs.Explanation.{IsListOf}

-- one more word comes after a comma, unless it is the first
pub joined_more : (words : List (List ℕ)) (word : List ℕ)
    → join_with_byte 44 (words ++ word ∷ []) ≡ join_with_byte 44 words ++ (comma_before (length words) ++ word)
joined_more [] word = refl
joined_more (w ∷ []) word = refl
joined_more (w ∷ v ∷ ws) word = ap (λ t. w ++ 44 ∷ t) (joined_more (v ∷ ws) word)
    ∙ sym (append_assoc w (44 ∷ join_with_byte 44 (v ∷ ws)) (44 ∷ word))

-- all words are a list of them
pub listed_done : (words : List (List ℕ)) → join_with_byte 44 words ++ dash_for (length words) ≡ list_of_names words
listed_done [] = refl
listed_done (w ∷ ws) = append-nil (join_with_byte 44 (w ∷ ws))

-- ---- words of the elements of a list

module _ {X : Type 0} (word_of : X → List ℕ) (xs : List X) (old : List ℕ) where
  -- the words of the first elements stand there
  abbrev pub AreFirst : ℕ → List ℕ → Type 0
  AreFirst k out = out ≡ old ++ join_with_byte 44 (map word_of (take k xs))

  -- no words
  pub none_first : AreFirst 0 old
  none_first = sym (append-nil old)

  first_count : (k : ℕ) (x : X) → slice_get xs k ≡ Some x → length (map word_of (take k xs)) ≡ k
  first_count k x at =
      let within = slice_get_within xs k x at in
      length-map (take k xs) word_of ∙ length-take-le k xs (omega (arith, within))

  -- the word of the next element
  pub one_more_first : (k : ℕ) (x : X) (out with_comma new : List ℕ) → slice_get xs k ≡ Some x → AreFirst k out
      → with_comma ≡ out ++ comma_before k → new ≡ with_comma ++ word_of x → AreFirst (k + 1) new
  one_more_first k x out with_comma new at so_far comma added =
      let words = map word_of (take k xs) in
      three old (join_with_byte 44 words) (comma_before k) (word_of x) so_far comma added
      ∙ ap (λ t. old ++ t) (ap (λ n. join_with_byte 44 words ++ (comma_before n ++ word_of x)) (sym (first_count k x at))
      ∙ sym (joined_more words (word_of x)) ∙ ap (join_with_byte 44) (sym (map-append word_of (take k xs) (x ∷ []))
      ∙ ap (map word_of) (sym (take_next xs k x at))))

  -- the words of all elements
  pub all_first : (k n : ℕ) (out new : List ℕ) → k ≡ length xs → n ≡ length xs → AreFirst k out → new ≡ out ++ dash_for n
      → new ≡ old ++ list_of_names (map word_of xs)
  all_first k n out new all count so_far dash =
      let whole : take k xs ≡ xs = ap (λ m. take m xs) all ∙ take-length xs in
      let words = map word_of xs in
      let is : out ≡ old ++ join_with_byte 44 words = so_far ∙ ap (λ ys. old ++ join_with_byte 44 (map word_of ys)) whole in
      dash ∙ ap (λ o. o ++ dash_for n) is ∙ append_assoc old (join_with_byte 44 words) (dash_for n)
      ∙ ap (λ t. old ++ t) (ap (λ m. join_with_byte 44 words ++ dash_for m) (count ∙ sym (length-map xs word_of)) ∙ listed_done words)

-- ---- words of which something holds

module _ (P : ℕ → List ℕ → Type 0) (old : List ℕ) where
  -- so many words stand there, and P holds of each place and the word there
  abbrev pub AreSoFar : ℕ → List ℕ → Type 0
  AreSoFar k out = (words : List (List ℕ)) × (length words ≡ k)
      × ((j : ℕ) (word : List ℕ) → slice_get words j ≡ Some word → P j word) × (out ≡ old ++ join_with_byte 44 words)

  pub none_so_far : AreSoFar 0 old
  none_so_far = ([], refl, λ j word at. absurd (cc), sym (append-nil old))

  pub one_more_so_far : (k : ℕ) (out with_comma new : List ℕ) → AreSoFar k out → with_comma ≡ out ++ comma_before k
      → (word : List ℕ) × P k word × (new ≡ with_comma ++ word) → AreSoFar (k + 1) new
  one_more_so_far k out with_comma new (words, count, each, so_far) comma (word, is, added) = (
    words ++ word ∷ [],
    length-append words (word ∷ []) ∙ ap (λ n. n + 1) count,
    λ j w at. ⊎_elim (λ there. each j w there) (λ h. subst (P j) h.1 (subst (λ n. P n word) (sym count ∙ sym h.0) is))
        (get_pushed words word j w at),
    three old (join_with_byte 44 words) (comma_before k) word so_far comma added
        ∙ ap (λ t. old ++ t) (ap (λ n. join_with_byte 44 words ++ (comma_before n ++ word)) (sym count) ∙ sym (joined_more words word)),
  )

  pub all_so_far : (k n : ℕ) (out new : List ℕ) → k ≡ n → AreSoFar k out → new ≡ out ++ dash_for n
      → (text : List ℕ) × IsListOf P n text × (new ≡ old ++ text)
  all_so_far k n out new all (words, count, each, so_far) dash = (
    list_of_names words,
    record { words = words; as_many = count ∙ all; each = each; is = refl },
    dash ∙ ap (λ o. o ++ dash_for n) so_far ∙ append_assoc old (join_with_byte 44 words) (dash_for n)
        ∙ ap (λ t. old ++ t) (ap (λ m. join_with_byte 44 words ++ dash_for m) (sym all ∙ sym count) ∙ listed_done words),
  )

-- ---- commas and the dash

pub no_comma : (k : ℕ) (old new : List ℕ) → k ≡ 0 → new ≡ old → new ≡ old ++ comma_before k
no_comma k old new e is = is ∙ sym (append-nil old) ∙ ap (λ n. old ++ comma_before n) (sym e)

pub a_comma : (k : ℕ) → (k ≡ 0 → ⊥) → comma_before k ≡ codes ","
a_comma zero some = absurd (some refl)
a_comma (suc k) some = refl

pub no_dash : (n : ℕ) (old new : List ℕ) → 0 < n → new ≡ old → new ≡ old ++ dash_for n
no_dash zero old new l is = absurd (omega (arith, l))
no_dash (suc n) old new l is = is ∙ sym (append-nil old)

pub a_dash : (n : ℕ) → (0 < n → ⊥) → dash_for n ≡ codes "-"
a_dash zero none = refl
a_dash (suc n) none = absurd (none (omega arith))
