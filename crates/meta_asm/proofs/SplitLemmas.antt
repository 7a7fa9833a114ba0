-- Texts that are split at a byte.
use Rattle.std.proofs.Common.{◌≡◌, ◌≢◌, ℕ, ◌==◌, List, [], ◌∷◌, ◌++◌, map, All, Option, None, Some, refl, sym, ap, ap₂, ◌∙◌, append-nil}
use Rattle.std.proofs.Common.{arith}
use Rattle.std.specs.List.{join_with_byte}
use Rattle.std.proofs.lemmas.List.Splits.{join_with_byte-slice_split}
use Rattle.std.proofs.lemmas.List.Elements.{All-nil, All-cons, All-head, All-tail, All-append, All-map, All-weaker}
use Rattle.meta_lines.specs.Words.{pieces_of}
use Rattle.meta_lines.proofs.PieceLemmas.{slice_split_cons, whole_piece, first_piece, pieces_of-join}
use Rattle.meta_asm.specs.Short.{then_part, joined}

-- the byte doesn't stand in the text
abbrev pub Lacks : ℕ → List ℕ → Type 0
Lacks byte text = All (λ b. b ≢ byte) text

-- the pieces of a part, where there is one
abbrev pub part_pieces : ℕ → Option (List ℕ) → List (List ℕ)
part_pieces byte None = []
part_pieces byte (Some part) = pieces_of byte part

-- the pieces of a text without the byte, and a part after the byte
pub split_pieces : (byte : ℕ) (text : List ℕ) (part : Option (List ℕ)) → Lacks byte text
    → pieces_of byte (text ++ then_part byte part) ≡ text ∷ part_pieces byte part
split_pieces byte text None h = ap (pieces_of byte) (append-nil text) ∙ whole_piece byte text h
split_pieces byte text (Some part) h = first_piece byte text part h

-- equal pieces are of one part
pub one_part : (byte : ℕ) (p q : Option (List ℕ)) → part_pieces byte p ≡ part_pieces byte q → p ≡ q
one_part byte None None e = refl
one_part byte None (Some y) e =
    let more = slice_split_cons (λ b. b == byte) y in
    let none : [] ≡ more.first ∷ more.others = e ∙ more.is in
    absurd (cc)
one_part byte (Some x) None e =
    let more = slice_split_cons (λ b. b == byte) x in
    let none : more.first ∷ more.others ≡ [] = sym more.is ∙ e in
    absurd (cc)
one_part byte (Some x) (Some y) e = ap (λ t. Some t) (sym (join_with_byte-slice_split byte x)
    ∙ ap (join_with_byte byte) e ∙ join_with_byte-slice_split byte y)

-- equal texts are split at the same place
pub one_split : (byte : ℕ) (x y : List ℕ) (p q : Option (List ℕ)) → Lacks byte x → Lacks byte y
    → x ++ then_part byte p ≡ y ++ then_part byte q → (x ≡ y) × (p ≡ q)
one_split byte x y p q hx hy e =
    let pieces : x ∷ part_pieces byte p ≡ y ∷ part_pieces byte q = sym (split_pieces byte x p hx)
    ∙ ap (pieces_of byte) e ∙ split_pieces byte y q hy in
    let first : x ≡ y = cc in
    let others : part_pieces byte p ≡ part_pieces byte q = cc in
    (first, one_part byte p q others)

-- ---- texts that are joined

pub lacks_joined : (byte : ℕ) (ts : List (List ℕ)) → 44 ≢ byte → 32 ≢ byte → All (Lacks byte) ts → Lacks byte (joined ts)
lacks_joined byte [] comma space h = All-nil (λ b. b ≢ byte)
lacks_joined byte (t ∷ ts) comma space h = go t ts (All-head (Lacks byte) t ts h) (All-tail (Lacks byte) t ts h)
  where
    go : (t : List ℕ) (ts : List (List ℕ)) → Lacks byte t → All (Lacks byte) ts
        → Lacks byte (join_with_byte 44 (t ∷ map (λ (u : List ℕ). 32 ∷ u) ts))
    go t [] first others = first
    go t (u ∷ us) first others =
        All-append (λ b. b ≢ byte) t (44 ∷ join_with_byte 44 (map (λ (v : List ℕ). 32 ∷ v) (u ∷ us))) first
        (All-cons (λ b. b ≢ byte) 44 (join_with_byte 44 (map (λ (v : List ℕ). 32 ∷ v) (u ∷ us))) comma
        (go (32 ∷ u) us (All-cons (λ b. b ≢ byte) 32 u space (All-head (Lacks byte) u us others)) (All-tail (Lacks byte) u us others)))

-- the pieces between commas are the texts, each but the first after a space
pub joined_pieces : (t : List ℕ) (ts : List (List ℕ)) → All (Lacks 44) (t ∷ ts)
    → pieces_of 44 (joined (t ∷ ts)) ≡ t ∷ map (λ (u : List ℕ). 32 ∷ u) ts
joined_pieces t ts h =
    pieces_of-join 44 t (map (λ (u : List ℕ). 32 ∷ u) ts)
    (All-cons (Lacks 44) t (map (λ (u : List ℕ). 32 ∷ u) ts) (All-head (Lacks 44) t ts h)
    (All-map (Lacks 44) (λ (u : List ℕ). 32 ∷ u) ts
    (All-weaker (Lacks 44) (λ (u : List ℕ). Lacks 44 (32 ∷ u))
    (λ u is. All-cons (λ b. b ≢ 44) 32 u (omega arith) is) ts (All-tail (Lacks 44) t ts h))))

same_spaced : (ts us : List (List ℕ)) → map (λ (u : List ℕ). 32 ∷ u) ts ≡ map (λ (u : List ℕ). 32 ∷ u) us → ts ≡ us
same_spaced [] [] e = refl
same_spaced [] (u ∷ us) e = absurd (cc)
same_spaced (t ∷ ts) [] e = absurd (cc)
same_spaced (t ∷ ts) (u ∷ us) e =
    let first : t ≡ u = cc in
    let others : map (λ (u : List ℕ). 32 ∷ u) ts ≡ map (λ (u : List ℕ). 32 ∷ u) us = cc in
    ap₂ ◌∷◌ first (same_spaced ts us others)

-- equal joined texts are of the same texts, where there are some
pub one_joined : (t u : List ℕ) (ts us : List (List ℕ)) → All (Lacks 44) (t ∷ ts) → All (Lacks 44) (u ∷ us)
    → joined (t ∷ ts) ≡ joined (u ∷ us) → t ∷ ts ≡ u ∷ us
one_joined t u ts us h k e =
    let pieces : t ∷ map (λ (u : List ℕ). 32 ∷ u) ts ≡ u ∷ map (λ (u : List ℕ). 32 ∷ u) us =
    sym (joined_pieces t ts h) ∙ ap (pieces_of 44) e ∙ joined_pieces u us k in
    let first : t ≡ u = cc in
    let others : map (λ (u : List ℕ). 32 ∷ u) ts ≡ map (λ (u : List ℕ). 32 ∷ u) us = cc in
    ap₂ ◌∷◌ first (same_spaced ts us others)
