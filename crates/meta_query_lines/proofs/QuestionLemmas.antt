-- What a line asks.
use Rattle.std.proofs.Common.{◌++◌, ap₂, subst}
use Rattle.std.proofs.Common.{◌≡◌, ◌≢◌, ℕ, ◌<◌, ◌==◌, List, [], ◌∷◌, map, length, All, codes, Option, IfSome, false, sym, ap, ◌∙◌, arith}
use Rattle.std.specs.List.{join_with_byte}
use Rattle.std.specs.Option.{option_map}
use Rattle.std.proofs.lemmas.List.Elements.{All-nil, All-cons, All-head, All-tail, All-same, All-append}
use Rattle.std.proofs.lemmas.List.Splits.{join_with_byte-slice_split}
use Rattle.meta_types.specs.TypeParts.{TypeParts, IsType, number_of}
use Rattle.meta_types.specs.TypeNumber.{type_with, IsTypeNumber}
use Rattle.meta_lines.specs.Words.{IsWord, pieces_of}
use Rattle.meta_lines.specs.Control.{IsAfter, control_text}
use Rattle.meta_lines.specs.TypeList.{types_text}
use Rattle.meta_lines.proofs.PieceLemmas.{All-slice_split}
use Rattle.meta_lines.proofs.WordLemmas.{pieces_of-words, words_from}
use Rattle.meta_lines.proofs.ControlLemmas.{same_controls, control_has_bytes, control_is_type}
use Rattle.meta_lines.proofs.TypeListLemmas.{same_types, all_are_types, types_have_bytes, numbers_back}
use Rattle.meta_gen.specs.Question.{Question}
use Rattle.meta_query_lines.specs.Question.{IsQuestion, question_words_of}

-- a line asks one question at most
pub one_question : (line : List ℕ) (q p : Question) → IsQuestion line q → IsQuestion line p → q ≡ p
one_question line q p h k =
    let words : question_words_of q ≡ question_words_of p = sym (pieces_of-words line _ _ h.words) ∙ pieces_of-words line _ _ k.words in
    let names : q.name ≡ p.name = cc in
    let controls : control_text q.control q.second ≡ control_text p.control p.second = cc in
    let results : types_text q.results ≡ types_text p.results = cc in
    let values : types_text q.values ≡ types_text p.values = cc in
    let c = same_controls q.control q.second p.control p.second h.control h.second h.after k.control k.second k.after controls in
    let r = same_types q.results p.results h.results k.results results in
    let v = same_types q.values p.values h.values k.values values in
    λ i. record { name = names i; control = c.0 i; second = c.1 i; results = r i; values = v i }

-- ---- from a line to its question

-- the name in it has bytes
pub name_has_bytes : (line : List ℕ) (q : Question) → IsQuestion line q → 0 < length q.name
name_has_bytes line q h =
    let after : List (List ℕ) = control_text q.control q.second ∷ types_text q.results ∷ types_text q.values ∷ [] in
    (All-head IsWord q.name after (All-tail IsWord (codes "accept") (q.name ∷ after) h.words.each)).has_bytes

-- where a line asks, its pieces are the words of the question
module _ (line name control results values : List ℕ) (pieces : pieces_of 32 line
    ≡ codes "accept" ∷ name ∷ control ∷ results ∷ values ∷ []) (q : Question) (h : IsQuestion line q) where
  same_words : question_words_of q ≡ codes "accept" ∷ name ∷ control ∷ results ∷ values ∷ []
  same_words = sym (pieces_of-words line _ _ h.words) ∙ pieces

  pub no_control : ((c d : Option TypeParts) → IfSome c IsType → IfSome d IsType → IsAfter c d → control_text c d ≢ control) → ⊥
  no_control none = let e = same_words in none q.control q.second h.control h.second h.after (cc)

  pub no_results : ((ts : List TypeParts) → All IsType ts → types_text ts ≢ results) → ⊥
  no_results none = let e = same_words in none q.results h.results (cc)

  pub no_values : ((ts : List TypeParts) → All IsType ts → types_text ts ≢ values) → ⊥
  no_values none = let e = same_words in none q.values h.values (cc)

-- the line whose pieces are the words of q asks q
pub asks : (line name control results values : List ℕ) (c d : Option ℕ) (rs vs : List ℕ) → IfSome c IsTypeNumber
    → IfSome d IsTypeNumber → IsAfter (option_map type_with c) (option_map type_with d) → All IsTypeNumber rs
    → All IsTypeNumber vs → pieces_of 32 line ≡ codes "accept" ∷ name ∷ control ∷ results ∷ values ∷ [] → 0 < length name
    → control_text (option_map type_with c) (option_map type_with d) ≡ control
    → types_text (map type_with rs) ≡ results → types_text (map type_with vs) ≡ values
    → IsQuestion line (record {
      name = name;
      control = option_map type_with c;
      second = option_map type_with d;
      results = map type_with rs;
      values = map type_with vs;
    })
asks line name control results values c d rs vs ck dk after rk vk h n ce re ve =
    let P : List ℕ → Type 0 = λ w. 0 < length w in
    let cw = control_text (option_map type_with c) (option_map type_with d) in
    let rw' = types_text (map type_with rs) in
    let vw = types_text (map type_with vs) in
    let words : List (List ℕ) = codes "accept" ∷ name ∷ cw ∷ rw' ∷ vw ∷ [] in
    let pieces : pieces_of 32 line ≡ words = cc in
    let some : All P words =
    All-cons P (codes "accept") (name ∷ cw ∷ rw' ∷ vw ∷ []) (omega arith)
    (All-cons P name (cw ∷ rw' ∷ vw ∷ []) n
    (All-cons P cw (rw' ∷ vw ∷ []) (control_has_bytes (option_map type_with c) (option_map type_with d))
    (All-cons P rw' (vw ∷ []) (types_have_bytes (map type_with rs))
    (All-cons P vw [] (types_have_bytes (map type_with vs)) (All-nil P))))) in
    record {
      words = record {
        parted = sym (join_with_byte-slice_split 32 line) ∙ ap (join_with_byte 32) pieces;
        each = words_from words some (All-same (λ w. All (λ b. (b == 32) ≡ false) w) words (pieces_of 32 line)
            (sym pieces) (All-slice_split (λ b. b == 32) line));
      };
      control = control_is_type c ck;
      second = control_is_type d dk;
      after = after;
      results = all_are_types rs rk;
      values = all_are_types vs vk;
    }

-- the numbers of the types of a question are those of types
pub known_numbers : (rs vs : List ℕ) → All IsTypeNumber rs → All IsTypeNumber vs
    → All IsTypeNumber (map number_of (map type_with rs) ++ map number_of (map type_with vs))
known_numbers rs vs h k =
    subst (All IsTypeNumber) (ap₂ ◌++◌ (sym (numbers_back rs h)) (sym (numbers_back vs k))) (All-append IsTypeNumber rs vs h k)
