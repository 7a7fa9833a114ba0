-- A line that asks what an instruction infers, and the line of the results.
use Rattle.std.proofs.Common.{◌≡◌, ◌≢◌, ◌⊎◌, ◌+◌, ◌<◌, ◌==◌, ℕ, List, [], ◌∷◌, ◌++◌, length, All, codes, false, Option, Some, IfSome}
use Rattle.std.proofs.Common.{slice_get, take, inl, inr, refl, sym, ap, ◌∙◌, subst, arith, append_assoc, append-nil}
use Rattle.std.specs.List.{join_with_byte}
use Rattle.std.specs.Option.{option_map}
use Rattle.std.proofs.lemmas.Grind.{flat_map-append}
use Rattle.std.proofs.lemmas.List.Elements.{All-nil, All-cons, All-head, All-tail, All-same}
use Rattle.std.proofs.lemmas.List.Splits.{join_with_byte-slice_split}
use Rattle.meta_lists.proofs.Places.{get_there, get_beside, same_places, take_next}
use Rattle.meta_lists.proofs.Pushed.{get_pushed_below, one_longer}
use Rattle.meta_types.specs.TypeParts.{TypeParts, IsType, name_of}
use Rattle.meta_types.proofs.Numbers.{one_number}
use Rattle.meta_lines.specs.Words.{IsWord, pieces_of}
use Rattle.meta_types.specs.TypeNumber.{type_with, IsTypeNumber}
use Rattle.meta_lines.specs.Control.{control_text, IsAfter}
use Rattle.meta_query_lines.specs.Inference.{Inference, IsInference, inference_words, IsResultWord, AreResultWords, more_words}
use Rattle.meta_query_lines.specs.Inference.{results_text}
use Rattle.meta_query_lines.specs.Inference.{IsResultsLine}
use Rattle.meta_lines.proofs.PieceLemmas.{All-slice_split}
use Rattle.meta_lines.proofs.WordLemmas.{pieces_of-words, words_from}
use Rattle.meta_lines.proofs.ControlLemmas.{control_has_bytes, control_is_type, same_controls}

-- ---- the question

-- the name in it has bytes
pub name_bytes : (line : List ℕ) (q : Inference) → IsInference line q → 0 < length q.name
name_bytes line q h = (All-head IsWord q.name (control_text q.control q.second ∷ [])
    (All-tail IsWord (codes "infer") (q.name ∷ control_text q.control q.second ∷ []) h.words.each)).has_bytes

-- a line whose last word gives no controlling types asks for no inference
pub no_infer_control : (line name control : List ℕ) → pieces_of 32 line ≡ inference_words name control
    → ((c d : Option TypeParts) → IfSome c IsType → IfSome d IsType → IsAfter c d → control_text c d ≢ control)
    → (q : Inference) → IsInference line q → ⊥
no_infer_control line name control pieces none q h =
    let same : inference_words q.name (control_text q.control q.second) ≡ inference_words name control =
    sym (pieces_of-words line _ _ h.words) ∙ pieces in
    let e : control_text q.control q.second ≡ control = cc in
    none q.control q.second h.control h.second h.after e

-- the line whose pieces are the words of q asks q
pub asks_inference : (line name control : List ℕ) (c d : Option ℕ) → IfSome c IsTypeNumber → IfSome d IsTypeNumber
    → IsAfter (option_map type_with c) (option_map type_with d) → pieces_of 32 line ≡ inference_words name control → 0 < length name
    → control_text (option_map type_with c) (option_map type_with d) ≡ control
    → IsInference line (record { name = name; control = option_map type_with c; second = option_map type_with d })
asks_inference line name control c d ck dk after h n ce =
    let P : List ℕ → Type 0 = λ w. 0 < length w in
    let text = control_text (option_map type_with c) (option_map type_with d) in
    let words : List (List ℕ) = inference_words name text in
    let pieces : pieces_of 32 line ≡ words = h ∙ ap (inference_words name) (sym ce) in
    let some : All P words = All-cons P (codes "infer") (name ∷ text ∷ []) (omega arith)
    (All-cons P name (text ∷ []) n
    (All-cons P text [] (control_has_bytes (option_map type_with c) (option_map type_with d)) (All-nil P))) in
    record {
      words = record {
        parted = sym (join_with_byte-slice_split 32 line) ∙ ap (join_with_byte 32) pieces;
        each = words_from words some (All-same (λ w. All (λ b. (b == 32) ≡ false) w) words (pieces_of 32 line)
            (sym pieces) (All-slice_split (λ b. b == 32) line));
      };
      control = control_is_type c ck;
      second = control_is_type d dk;
      after = after;
    }

-- a line asks for one inference at most
pub one_inference : (line : List ℕ) (q p : Inference) → IsInference line q → IsInference line p → q ≡ p
one_inference line q p h k =
    let words : inference_words q.name (control_text q.control q.second) ≡ inference_words p.name (control_text p.control p.second) =
    sym (pieces_of-words line _ _ h.words) ∙ pieces_of-words line _ _ k.words in
    let names : q.name ≡ p.name = cc in
    let controls : control_text q.control q.second ≡ control_text p.control p.second = cc in
    let c = same_controls q.control q.second p.control p.second h.control h.second h.after k.control k.second k.after controls in
    λ i. record { name = names i; control = c.0 i; second = c.1 i }

-- ---- the line of the results

-- a number has one word
one_word : (n : ℕ) (a b : List ℕ) → IsResultWord n a → IsResultWord n b → a ≡ b
one_word n a b (inl (t, is_t, number, e)) (inl (u, is_u, numbered, g)) = e
    ∙ ap name_of (one_number t u is_t is_u (number ∙ sym numbered)) ∙ sym g
one_word n a b (inl (t, is_t, number, e)) (inr (none, g)) = absurd (none t is_t number)
one_word n a b (inr (none, e)) (inl (u, is_u, numbered, g)) = absurd (none u is_u numbered)
one_word n a b (inr (none, e)) (inr (nothing, g)) = e ∙ sym g

-- so numbers have one line
pub one_results_line : (numbers : List ℕ) (a b : List ℕ) → IsResultsLine numbers a → IsResultsLine numbers b → a ≡ b
one_results_line numbers a b (ws, h, e) (vs, k, g) = e ∙ ap results_text same ∙ sym g
  where
    same : ws ≡ vs
    same = same_places ws vs (h.count ∙ sym k.count) (λ j l.
        let (n, n_at) = get_there numbers j (omega (arith, l, h.count)) in
        let (w, w_at) = get_beside numbers ws j n (sym h.count) n_at in
        let (v, v_at) = get_beside numbers vs j n (sym k.count) n_at in
        w_at ∙ ap Some (one_word n w v (h.each j n w n_at w_at) (k.each j n v n_at v_at)) ∙ sym v_at)

-- one number more, and its word
words_pushed : (ns : List ℕ) (ws : List (List ℕ)) (n : ℕ) (w : List ℕ) → AreResultWords ns ws → IsResultWord n w
    → AreResultWords (ns ++ n ∷ []) (ws ++ w ∷ [])
words_pushed ns ws n w h is = record {
  count = one_longer ws (ws ++ w ∷ []) w refl ∙ ap (λ k. k + 1) h.count ∙ sym (one_longer ns (ns ++ n ∷ []) n refl);
  each = λ k m v m_at v_at. each_at k m v (get_pushed_below ns n k m m_at) (get_pushed_below ws w k v v_at);
}
  where
    each_at : (k m : ℕ) (v : List ℕ) → ((k < length ns) × (slice_get ns k ≡ Some m)) ⊎ ((k ≡ length ns) × (n ≡ m))
        → ((k < length ws) × (slice_get ws k ≡ Some v)) ⊎ ((k ≡ length ws) × (w ≡ v)) → IsResultWord m v
    each_at k m v (inl a) (inl b) = h.each k m v a.1 b.1
    each_at k m v (inl a) (inr b) = let inside = a.0 in let end = b.0 in absurd (omega (arith, inside, end, h.count))
    each_at k m v (inr a) (inl b) = let end = a.0 in let inside = b.0 in absurd (omega (arith, inside, end, h.count))
    each_at k m v (inr a) (inr b) = subst (λ x. IsResultWord x v) a.1 (subst (IsResultWord n) b.1 is)

pub next_word : (numbers : List ℕ) (k n : ℕ) (ws : List (List ℕ)) (w : List ℕ) → slice_get numbers k ≡ Some n
    → AreResultWords (take k numbers) ws → IsResultWord n w → AreResultWords (take (k + 1) numbers) (ws ++ w ∷ [])
next_word numbers k n ws w at h is = subst (λ ns. AreResultWords ns (ws ++ w ∷ [])) (sym (take_next numbers k n at))
    (words_pushed (take k numbers) ws n w h is)

pub first_word : (numbers : List ℕ) (n : ℕ) (w : List ℕ) → slice_get numbers 0 ≡ Some n → IsResultWord n w
    → AreResultWords (take 1 numbers) (w ∷ [])
first_word numbers n w at is = next_word numbers 0 n [] w at (record { count = refl; each = λ k m v m_at v_at. absurd (cc) }) is

-- the text with one word more
pub more_text : (first w : List ℕ) (others : List (List ℕ))
    → results_text (first ∷ (others ++ w ∷ [])) ≡ results_text (first ∷ others) ++ 44 ∷ w
more_text first w others =
    let after : more_words (others ++ w ∷ []) ≡ more_words others ++ 44 ∷ w =
    flat_map-append (λ (word : List ℕ). 44 ∷ word) others (w ∷ []) ∙ ap (λ t. more_words others ++ 44 ∷ t) (append-nil w) in
    ap (λ t. codes "results " ++ (first ++ t)) after
    ∙ ap (λ t. codes "results " ++ t) (sym (append_assoc first (more_words others) (44 ∷ w)))
    ∙ sym (append_assoc (codes "results ") (first ++ more_words others) (44 ∷ w))

-- and with one
pub one_text : (w : List ℕ) → results_text (w ∷ []) ≡ codes "results " ++ w
one_text w = ap (λ t. codes "results " ++ t) (append-nil w)
