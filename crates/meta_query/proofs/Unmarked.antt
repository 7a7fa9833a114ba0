-- Texts of lines of which none is the mark.
--     IsUnmarked text        such a text
--     is_cut_after          before the mark and queries it is the text
--     is_uncut               alone it is all text
use Rattle.std.proofs.Common.{◌≡◌, ℕ, zero, suc, ◌+◌, ◌-◌, ◌<◌, ◌≤◌, ◌==◌, cond, not, ◌&&◌, Bool, true, false, inl, inr, ⊎_elim, List, []}
use Rattle.std.proofs.Common.{◌∷◌, ◌++◌, length, length-append, slice_get, Some, drop, refl, sym, ap, ◌∙◌, subst, append_assoc, append-nil}
use Rattle.std.proofs.Common.{arith}
use Rattle.std.proofs.Math.Seq.{take-append_seam, drop-append_seam}
use Rattle.std.proofs.lemmas.Bool.{eqb-true, eq-eqb, cases_lt}
use Rattle.std.proofs.lemmas.List.{drop-drop}
use Rattle.meta_lists.proofs.Places.{get_left, get_right, get_seam}
use Rattle.meta_table_reader.specs.Spans.{lacks, is_nothing, is_line}
use Rattle.meta_query.specs.Recheck.{mark, BeginsLine, IsMarkAt, IsCut}
use Rattle.meta_query.proofs.Marks.{mark_within, cut_at}

-- whatever comes after the text, a line begins there, and the mark stands at no place of the text
pub record IsUnmarked (text : List ℕ) : Type 0 where
  pub begins : (more : List ℕ) → BeginsLine (text ++ more) (length text)
  pub no_mark : (more : List ℕ) (at : ℕ) → at < length text → IsMarkAt (text ++ more) at → ⊥

pub unmarked_none : IsUnmarked []
unmarked_none = record { begins = λ more. inl refl; no_mark = λ more at within h. absurd (omega (arith, within)) }

-- ---- one text after another

-- what stands before where a line begins doesn't matter, but for the byte before it
begins_after : (a text : List ℕ) (at : ℕ) → BeginsLine (a ++ text) (length a) → BeginsLine text at → BeginsLine (a ++ text) (length a + at)
begins_after a text at seam (inl first) = subst (BeginsLine (a ++ text)) (omega (arith, first)) seam
begins_after a text at seam (inr (before, next, is)) = inr (length a + before, omega (arith, next), get_right a text before ∙ is)

begins_ahead : (a text : List ℕ) (at : ℕ) → BeginsLine (a ++ text) (length a + at) → BeginsLine text at
begins_ahead a text zero h = inl refl
begins_ahead a text (suc at) (inl first) = absurd (omega (arith, first))
begins_ahead a text (suc at) (inr (before, next, is)) =
    let place : before ≡ length a + at = omega (arith, next) in
    inr (at, omega arith, sym (get_right a text at) ∙ ap (slice_get (a ++ text)) (sym place) ∙ is)

drop_ahead : (a text : List ℕ) (at : ℕ) → drop (length a + at) (a ++ text) ≡ drop at text
drop_ahead a text at = sym (drop-drop at (length a) (a ++ text)) ∙ ap (drop at) (drop-append_seam a text)

mark_ahead : (a text : List ℕ) (at : ℕ) → IsMarkAt (a ++ text) (length a + at) → IsMarkAt text at
mark_ahead a text at h =
    record { begins = begins_ahead a text at h.begins; after = h.after; is = sym (drop_ahead a text at) ∙ h.is }

-- two such texts, one after the other, are such a text
pub unmarked_both : (a b : List ℕ) → IsUnmarked a → IsUnmarked b → IsUnmarked (a ++ b)
unmarked_both a b one other = record { begins = begins; no_mark = no_mark }
  where
    begins : (more : List ℕ) → BeginsLine ((a ++ b) ++ more) (length (a ++ b))
    begins more =
        subst (λ text. BeginsLine text (length (a ++ b))) (sym (append_assoc a b more))
        (subst (BeginsLine (a ++ (b ++ more))) (sym (length-append a b))
        (begins_after a (b ++ more) (length b) (one.begins (b ++ more)) (other.begins more)))

    no_mark : (more : List ℕ) (at : ℕ) → at < length (a ++ b) → IsMarkAt ((a ++ b) ++ more) at → ⊥
    no_mark more at within h =
        let there : IsMarkAt (a ++ (b ++ more)) at = subst (λ text. IsMarkAt text at) (append_assoc a b more) h in
        let long = length-append a b in
        ⊎_elim
        (λ l. one.no_mark (b ++ more) at l there)
        (λ g. let (k, is) = after at g in
        other.no_mark more k (omega (arith, within, long, is)) (mark_ahead a (b ++ more) k (subst (IsMarkAt (a ++ (b ++ more))) is there)))
        (cases_lt at (length a))
      where
        after : (at : ℕ) → length a ≤ at → (k : ℕ) × (at ≡ length a + k)
        after at g = (at - length a, omega (arith, g))

-- ---- a line that differs from the mark

-- there is a place at which both have a byte, and not the same
abbrev pub differs : List ℕ → List ℕ → Bool
differs [] other = false
differs (x ∷ xs) [] = false
differs (x ∷ xs) (y ∷ ys) = cond (x == y) (differs xs ys) true

differs_still : (xs ys more after : List ℕ) → differs xs ys ≡ true → xs ++ more ≡ ys ++ after → ⊥
differs_still [] ys more after d e = absurd (cc)
differs_still (x ∷ xs) [] more after d e = absurd (cc)
differs_still (x ∷ xs) (y ∷ ys) more after d e =
    let first : x ≡ y = cc in
    let rest : xs ++ more ≡ ys ++ after = cc in
    differs_still xs ys more after (sym (ap (λ b. cond b (differs xs ys) true) (eq-eqb x y first)) ∙ d) rest

-- a line is what lacks LF, and LF
record LineParts (line : List ℕ) : Type 0 where
  front : List ℕ
  is : line ≡ front ++ 10 ∷ []
  free : lacks 10 front ≡ true

line_parts : (line : List ℕ) → is_line line ≡ true → LineParts line
line_parts [] is = absurd (cc)
line_parts (c ∷ cs) is = by_test (c == 10) refl is (line_parts cs)
  where
    nothing : (cs : List ℕ) → is_nothing cs ≡ true → cs ≡ []
    nothing [] none = refl
    nothing (c ∷ cs) none = absurd (cc)

    by_test : (b : Bool) → (c == 10) ≡ b → cond b (is_nothing cs) (is_line cs) ≡ true → (is_line cs ≡ true → LineParts cs)
        → LineParts (c ∷ cs)
    by_test true last is below = record { front = []; is = λ i. eqb-true c 10 last i ∷ nothing cs is i; free = refl }
    by_test false other is below =
        let it = below is in
        record { front = c ∷ it.front; is = ap (λ t. c ∷ t) it.is; free = λ i. not (other i) && it.free i }

-- what lacks a byte has it at no place
lacks_there : (stop : ℕ) (text : List ℕ) (k : ℕ) → lacks stop text ≡ true → slice_get text k ≡ Some stop → ⊥
lacks_there stop [] k free at = absurd (cc)
lacks_there stop (c ∷ cs) zero free at =
    let same : c ≡ stop = cc in
    absurd (no (c == stop) (eq-eqb c stop same) free)
  where
    no : (b : Bool) → b ≡ true → (not b && lacks stop cs) ≡ true → ⊥
    no true e free = absurd (cc)
    no false e free = absurd (cc)
lacks_there stop (c ∷ cs) (suc k) free at = lacks_there stop cs k (after (c == stop) free) at
  where
    after : (b : Bool) → (not b && lacks stop cs) ≡ true → lacks stop cs ≡ true
    after true free = absurd (cc)
    after false free = free

pub unmarked_line : (line : List ℕ) → is_line line ≡ true → differs line mark ≡ true → IsUnmarked line
unmarked_line line is other = record { begins = begins; no_mark = no_mark }
  where
    it : LineParts line
    it = line_parts line is

    count : length line ≡ length it.front + 1
    count = ap length it.is ∙ length-append it.front (10 ∷ [])

    opened : (more : List ℕ) → line ++ more ≡ it.front ++ 10 ∷ more
    opened more = ap (λ l. l ++ more) it.is ∙ append_assoc it.front (10 ∷ []) more

    begins : (more : List ℕ) → BeginsLine (line ++ more) (length line)
    begins more = inr (length it.front, count, ap (λ t. slice_get t (length it.front)) (opened more) ∙ get_seam it.front 10 more)

    at_start : (more : List ℕ) (at : ℕ) → at < length line → IsMarkAt (line ++ more) at → BeginsLine (line ++ more) at → ⊥
    at_start more at within h (inl first) =
        differs_still line mark more h.after other (sym (ap (λ n. drop n (line ++ more)) first) ∙ h.is)
    at_start more at within h (inr (before, next, end)) =
        let inside : before < length it.front = omega (arith, within, next, count) in
        lacks_there 10 it.front before it.free
        (sym (get_left it.front (10 ∷ more) before inside) ∙ ap (λ t. slice_get t before) (sym (opened more)) ∙ end)

    no_mark : (more : List ℕ) (at : ℕ) → at < length line → IsMarkAt (line ++ more) at → ⊥
    no_mark more at within h = at_start more at within h h.begins

-- ---- an input that begins with such a text

pub is_cut_after : (text queries : List ℕ) → IsUnmarked text → IsCut (text ++ (mark ++ queries)) text queries
is_cut_after text queries it =
    cut_at (text ++ (mark ++ queries)) (length text) text (mark ++ queries) queries
    (record {
      holds = record { begins = it.begins (mark ++ queries); after = queries; is = drop-append_seam text (mark ++ queries) };
      none_before = it.no_mark (mark ++ queries);
    }) (sym (take-append_seam text (mark ++ queries))) (sym (drop-append_seam text (mark ++ queries))) refl

pub is_uncut : (text : List ℕ) → IsUnmarked text → IsCut text text []
is_uncut text it = inr (record { no_mark = no_mark; text_is = refl; queries_are = refl })
  where
    no_mark : (at : ℕ) → IsMarkAt text at → ⊥
    no_mark at h =
        let within = mark_within text at h in
        it.no_mark [] at (omega (arith, within)) (subst (λ t. IsMarkAt t at) (sym (append-nil text)) h)
