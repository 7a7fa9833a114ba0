-- The word for controlling types.
use Rattle.std.proofs.Common.{◌≡◌, ◌≢◌, ℕ, ◌<◌, ◌==◌, List, [], ◌∷◌, ◌++◌, length, codes, Option, Some, None, IfSome, refl, sym, ap, ap₂}
use Rattle.std.proofs.Common.{◌∙◌, arith, append-nil}
use Rattle.std.specs.List.{join_with_byte}
use Rattle.std.specs.Option.{option_map}
use Rattle.std.proofs.lemmas.List.Splits.{join_with_byte-slice_split}
use Rattle.meta_types.specs.TypeParts.{TypeParts, IsType, name_of}
use Rattle.meta_types.proofs.Names.{one_name}
use Rattle.meta_lines.specs.Words.{pieces_of}
use Rattle.meta_types.specs.TypeNumber.{type_with, IsTypeNumber}
use Rattle.meta_lines.specs.Control.{control_text, IsAfter}
use Rattle.meta_lines.proofs.PieceLemmas.{slice_split_cons, only_piece, whole_piece, first_piece}
use Rattle.meta_lines.proofs.NameLemmas.{has_no_slash, no_dash}

-- the names that a slash parts
abbrev control_names : TypeParts → Option TypeParts → List (List ℕ)
control_names t None = name_of t ∷ []
control_names t (Some u) = name_of t ∷ name_of u ∷ []

control_parted : (t : TypeParts) (d : Option TypeParts) → IsType t → IfSome d IsType
    → pieces_of 47 (control_text (Some t) d) ≡ control_names t d
control_parted t None h k = whole_piece 47 (name_of t) (has_no_slash t h)
control_parted t (Some u) h k = first_piece 47 (name_of t) (name_of u) (has_no_slash t h)
    ∙ ap (λ ps. name_of t ∷ ps) (whole_piece 47 (name_of u) (has_no_slash u k))

-- a word that names a controlling type doesn't begin with `-`
control_begins : (t : TypeParts) (d : Option TypeParts) → codes "-" ≡ control_text (Some t) d → ⊥
control_begins t None e = no_dash t [] (e ∙ sym (append-nil (name_of t)))
control_begins t (Some u) e = no_dash t (47 ∷ name_of u) e

same_names_of : (t u : TypeParts) (d g : Option TypeParts) → IsType t → IsType u → IfSome d IsType → IfSome g IsType
    → control_names t d ≡ control_names u g → (t ≡ u) × (d ≡ g)
same_names_of t u None None h k m n e = let first : name_of t ≡ name_of u = cc in (one_name t u h k first, refl)
same_names_of t u None (Some v) h k m n e = absurd (cc)
same_names_of t u (Some v) None h k m n e = absurd (cc)
same_names_of t u (Some v) (Some w) h k m n e =
    let first : name_of t ≡ name_of u = cc in
    let second : name_of v ≡ name_of w = cc in
    (one_name t u h k first, ap Some (one_name v w m n second))

pub same_controls : (c d e g : Option TypeParts) → IfSome c IsType → IfSome d IsType → IsAfter c d → IfSome e IsType
    → IfSome g IsType → IsAfter e g → control_text c d ≡ control_text e g → (c ≡ e) × (d ≡ g)
same_controls None d None g h m b k n f s = (refl, b refl ∙ sym (f refl))
same_controls None d (Some u) g h m b k n f s = absurd (control_begins u g s)
same_controls (Some t) d None g h m b k n f s = absurd (control_begins t d (sym s))
same_controls (Some t) d (Some u) g h m b k n f s =
    let both = same_names_of t u d g h k m n (sym (control_parted t d h m) ∙ ap (pieces_of 47) s ∙ control_parted u g k n) in
    (ap Some both.0, both.1)

-- a word whose first piece names no type gives no controlling types
pub refused_first : (word first : List ℕ) (others : List (List ℕ)) → word ≢ codes "-"
    → pieces_of 47 word ≡ first ∷ others → ((t : TypeParts) → IsType t → name_of t ≢ first) → (c d : Option TypeParts)
    → IfSome c IsType → IfSome d IsType → IsAfter c d → control_text c d ≢ word
refused_first word first others dash pieces none None d h m b e = dash (sym e)
refused_first word first others dash pieces none (Some t) d h m b e =
    none t h (by_names d (sym (control_parted t d h m) ∙ ap (pieces_of 47) e ∙ pieces))
  where
    by_names : (d : Option TypeParts) → control_names t d ≡ first ∷ others → name_of t ≡ first
    by_names None e = cc
    by_names (Some u) e = cc

-- nor does one whose second part names none
pub refused_second : (word first rest : List ℕ) → word ≢ codes "-" → pieces_of 47 word ≡ first ∷ pieces_of 47 rest
    → ((t : TypeParts) → IsType t → name_of t ≢ rest) → (c d : Option TypeParts) → IfSome c IsType → IfSome d IsType
    → IsAfter c d → control_text c d ≢ word
refused_second word first rest dash pieces none None d h m b e = dash (sym e)
refused_second word first rest dash pieces none (Some t) None h m b e =
    let more = slice_split_cons (λ b. b == 47) rest in
    let names : name_of t ∷ [] ≡ first ∷ more.first ∷ more.others = sym (control_parted t None h m)
    ∙ ap (pieces_of 47) e ∙ pieces ∙ ap (λ ps. first ∷ ps) more.is in
    absurd (cc)
refused_second word first rest dash pieces none (Some t) (Some u) h m b e =
    let names : name_of t ∷ name_of u ∷ [] ≡ first ∷ pieces_of 47 rest = sym (control_parted t (Some u) h m)
    ∙ ap (pieces_of 47) e ∙ pieces in
    let second : pieces_of 47 rest ≡ name_of u ∷ [] = cc in
    none u m (only_piece 47 rest (name_of u) second)

-- a word of one piece is the name of that type
pub one_part_control : (word first : List ℕ) (t : TypeParts) → pieces_of 47 word ≡ first ∷ [] → name_of t ≡ first
    → control_text (Some t) None ≡ word
one_part_control word first t pieces named = named ∙ only_piece 47 word first pieces

-- and one of two parts is the names of both
pub two_controls : (word first rest : List ℕ) (t u : TypeParts) → pieces_of 47 word ≡ first ∷ pieces_of 47 rest
    → name_of t ≡ first → name_of u ≡ rest → control_text (Some t) (Some u) ≡ word
two_controls word first rest t u pieces named second =
    let more = slice_split_cons (λ b. b == 47) rest in
    let after : first ++ 47 ∷ rest ≡ join_with_byte 47 (first ∷ pieces_of 47 rest) =
    ap (λ r. first ++ 47 ∷ r) (sym (join_with_byte-slice_split 47 rest) ∙ ap (join_with_byte 47) more.is)
    ∙ sym (ap (λ ps. join_with_byte 47 (first ∷ ps)) more.is) in
    ap₂ (λ (x y : List ℕ). x ++ 47 ∷ y) named second ∙ after ∙ sym (ap (join_with_byte 47) pieces) ∙ join_with_byte-slice_split 47 word

pub control_has_bytes : (c d : Option TypeParts) → 0 < length (control_text c d)
control_has_bytes None d = omega arith
control_has_bytes (Some t) None = omega arith
control_has_bytes (Some t) (Some u) = omega arith

pub control_is_type : (c : Option ℕ) → IfSome c IsTypeNumber → IfSome (option_map type_with c) IsType
control_is_type None h = tt
control_is_type (Some n) h = h.is_type
