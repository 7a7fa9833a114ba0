-- The words of a line.
use Rattle.std.proofs.Common.{◌≡◌, ◌≢◌, ℕ, ◌<◌, ◌==◌, List, [], ◌∷◌, length, All, sym, ap, ◌∙◌, eq-eqb, false, arith}
use Rattle.std.specs.List.{join_with_byte}
use Rattle.std.proofs.lemmas.List.Elements.{All-same, All-weaker}
use Rattle.std.proofs.lemmas.List.Splits.{join_with_byte-slice_split}
use Rattle.std.proofs.lemmas.Bool.{false≢true}
use Rattle.meta_lines.specs.Words.{IsWord, AreWords, pieces_of}
use Rattle.meta_lines.proofs.PieceLemmas.{pieces_of-join, All-slice_split}

-- the words of a line are its pieces between spaces
pub pieces_of-words : (line word : List ℕ) (words : List (List ℕ)) → AreWords line (word ∷ words) → pieces_of 32 line ≡ word ∷ words
pieces_of-words line word words h =
    ap (pieces_of 32) h.parted
    ∙ pieces_of-join 32 word words (All-weaker IsWord (λ w. All (λ b. b ≢ 32) w) (λ w is. is.has_no_space) (word ∷ words) h.each)

-- pieces between spaces that have bytes are words
pub words_from : (words : List (List ℕ)) → All (λ w. 0 < length w) words
    → All (λ w. All (λ b. (b == 32) ≡ false) w) words → All IsWord words
words_from words some lack = λ k d l. record {
  has_bytes = some k d l;
  has_no_space = λ i e m s. false≢true (sym (lack k d l i e m) ∙ eq-eqb _ 32 s);
}

-- words are pieces, where there is one
pub words_pieces : (line : List ℕ) (words : List (List ℕ)) → AreWords line words → 0 < length words → pieces_of 32 line ≡ words
words_pieces line [] h some = absurd (omega arith)
words_pieces line (word ∷ words) h some = pieces_of-words line word words h

-- the pieces of a line that all have bytes are its words
pub are_words : (line : List ℕ) (words : List (List ℕ)) → words ≡ pieces_of 32 line → All (λ w. 0 < length w) words → AreWords line words
are_words line words pieces some = record {
  parted = sym (join_with_byte-slice_split 32 line) ∙ ap (join_with_byte 32) (sym pieces);
  each = words_from words some (All-same (λ w. All (λ b. (b == 32) ≡ false) w) words (pieces_of 32 line) pieces
      (All-slice_split (λ b. b == 32) line));
}
