-- The line before the queries in an input of `recheck`.
use Rattle.std.proofs.Common.{◌≡◌, ◌↔◌, ◌≤◌, ◌<◌, ◌+◌, inl, inr, ℕ, Bool, true, IsTrue, List, ◌++◌, length, length-append, take, drop, sym}
use Rattle.std.proofs.Common.{ap, ◌∙◌, arith}
use Rattle.std.proofs.lemmas.List.{length-drop, drop-drop}
use Rattle.meta_lists.specs.First.{IsFirst}
use Rattle.meta_lists.proofs.First.{one_first}
use Rattle.meta_query.specs.Recheck.{mark, BeginsLine, IsMarkAt, IsCut}

-- after the place of a mark there is room for it
pub mark_within : (input : List ℕ) (at : ℕ) → IsMarkAt input at → at + 12 ≤ length input
mark_within input at h =
    let room : length (drop at input) ≡ 12 + length h.after = ap length h.is ∙ length-append mark h.after in
    omega (arith, room, length-drop at input)

-- no mark stands past the end
pub mark_before_end : (input : List ℕ) → ((k : ℕ) → k < length input → IsMarkAt input k → ⊥) → (at : ℕ) → IsMarkAt input at → ⊥
mark_before_end input none at h =
    let within = mark_within input at h in
    none at (omega arith) h

-- whether the mark stands where a line begins
pub mark_after : (input rest : List ℕ) (at : ℕ) (starts : Bool) → BeginsLine input at → rest ≡ drop at input
    → (starts ≡ true → rest ≡ mark ++ drop (length mark) rest) → ((after : List ℕ) → rest ≡ mark ++ after → starts ≡ true)
    → (IsTrue starts ↔ IsMarkAt input at)
mark_after input rest at starts begins rest_is there whole = (
  λ yes. record { begins = begins; after = drop (length mark) rest; is = sym rest_is ∙ there yes },
  λ h. whole h.after (rest_is ∙ h.is),
)

-- the parts at the first mark
pub cut_at : (input : List ℕ) (at : ℕ) (text rest queries : List ℕ) → IsFirst (IsMarkAt input) at → text ≡ take at input
    → rest ≡ drop at input → queries ≡ drop 12 rest → IsCut input text queries
cut_at input at text rest queries first text_is rest_is queries_are =
    inl (at, record { first = first; text_is = text_is; queries_are = queries_are ∙ ap (drop 12) rest_is ∙ drop-drop 12 at input })

-- an input is cut in one way
pub same_cut : (input text queries text' queries' : List ℕ) → IsCut input text queries → IsCut input text' queries'
    → (text ≡ text') × (queries ≡ queries')
same_cut input text queries text' queries' (inl (m, h)) (inl (n, g)) =
    let same : m ≡ n = one_first (IsMarkAt input) m n h.first g.first in (
      h.text_is ∙ ap (λ k. take k input) same ∙ sym g.text_is,
      h.queries_are ∙ ap (λ k. drop (k + length mark) input) same
          ∙ sym g.queries_are,
    )
same_cut input text queries text' queries' (inl (m, h)) (inr g) = absurd (g.no_mark m h.first.holds)
same_cut input text queries text' queries' (inr h) (inl (n, g)) = absurd (h.no_mark n g.first.holds)
same_cut input text queries text' queries' (inr h) (inr g) = (h.text_is ∙ sym g.text_is, h.queries_are ∙ sym g.queries_are)
