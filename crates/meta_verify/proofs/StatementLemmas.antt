-- What a line states.
use Rattle.std.proofs.Common.{◌≡◌, ◌≢◌, ℕ, ◌<◌, ◌≤◌, ◌^◌, ◌==◌, List, [], ◌∷◌, ◌++◌, map, length, All, codes, Option, IfSome, false, refl}
use Rattle.std.proofs.Common.{sym, ap, ap₂, ◌∙◌, arith}
use Rattle.std.specs.Fmt.{decimal}
use Rattle.std.specs.List.{join_with_byte}
use Rattle.std.proofs.lemmas.Fmt.{decimal_injective}
use Rattle.std.proofs.lemmas.List.Elements.{All-nil, All-cons, All-head, All-tail, All-same, All-append}
use Rattle.std.proofs.lemmas.List.Splits.{join_with_byte-slice_split}
use Rattle.meta_types.specs.TypeParts.{TypeParts, IsType, name_of}
use Rattle.meta_types.proofs.Names.{one_name}
use Rattle.meta_lines.specs.Words.{IsWord, AreWords, pieces_of}
use Rattle.meta_lines.specs.Control.{control_text, IsAfter}
use Rattle.meta_lines.proofs.PieceLemmas.{slice_split_cons, All-slice_split, only_piece, whole_piece, first_piece}
use Rattle.meta_lines.proofs.NameLemmas.{IsDigit, decimal_lacks, has_no_comma, has_no_colon}
use Rattle.meta_lines.proofs.WordLemmas.{pieces_of-words, words_from}
use Rattle.meta_lines.proofs.ControlLemmas.{same_controls, control_has_bytes}
use Rattle.meta_verify.specs.Statement.{TypedValue, Application, Statement, OfParameter, OfApplication, IsValue, IsTyped, CanApply}
use Rattle.meta_verify.specs.Statement.{IsStatement, value_text, typed_text, list_text, words_of}
use Rattle.meta_verify.specs.Numbers.{typed_value_of, IsTypedNumber}
use Rattle.meta_verify.specs.declared.statement.TypedNumber.{TypedNumber}
use Rattle.meta_verify.proofs.ListLemmas.{same_list, list_has_bytes}

-- ---- values

wide : (v : ℕ) → IsValue v → v < 2 ^ 64
wide v h = omega arith

comma : IsDigit 44 → ⊥
comma h = let low : 48 ≤ 44 = h.low in omega arith

colon : IsDigit 58 → ⊥
colon h = let high : 58 ≤ 57 = h.high in omega arith

-- the text of a value has no comma, and no colon
pub value_no_comma : (v : ℕ) → IsValue v → All (λ b. b ≢ 44) (value_text v)
value_no_comma v h = All-cons (λ b. b ≢ 44) 118 (decimal v) (omega arith) (decimal_lacks 44 v (wide v h) comma)

pub value_no_colon : (v : ℕ) → IsValue v → All (λ b. b ≢ 58) (value_text v)
value_no_colon v h = All-cons (λ b. b ≢ 58) 118 (decimal v) (omega arith) (decimal_lacks 58 v (wide v h) colon)

pub one_written_value : (v u : ℕ) → IsValue v → IsValue u → value_text v ≡ value_text u → v ≡ u
one_written_value v u h k e =
    let digits : decimal v ≡ decimal u = cc in
    decimal_injective v u (wide v h) (wide u k) digits

pub value_no_dash : (v : ℕ) (rest : List ℕ) → IsValue v → codes "-" ≡ value_text v ++ rest → ⊥
value_no_dash v rest h e = absurd (cc)

value_some : (v : ℕ) (rest : List ℕ) → [] ≢ value_text v ++ rest
value_some v rest e = absurd (cc)

-- ---- typed values

pub typed_no_comma : (r : TypedValue) → IsTyped r → All (λ b. b ≢ 44) (typed_text r)
typed_no_comma r h = All-append (λ b. b ≢ 44) (value_text r.value) (58 ∷ name_of r.type) (value_no_comma r.value h.value)
    (All-cons (λ b. b ≢ 44) 58 (name_of r.type) (omega arith) (has_no_comma r.type h.is_type))

-- the pieces between colons are the value and the name
pub typed_parted : (r : TypedValue) → IsTyped r → pieces_of 58 (typed_text r) ≡ value_text r.value ∷ name_of r.type ∷ []
typed_parted r h =
    first_piece 58 (value_text r.value) (name_of r.type) (value_no_colon r.value h.value)
    ∙ ap (λ ps. value_text r.value ∷ ps) (whole_piece 58 (name_of r.type) (has_no_colon r.type h.is_type))

pub one_typed : (r s : TypedValue) → IsTyped r → IsTyped s → typed_text r ≡ typed_text s → r ≡ s
one_typed r s h k e =
    let pieces : value_text r.value ∷ name_of r.type ∷ [] ≡ value_text s.value ∷ name_of s.type ∷ [] = sym (typed_parted r h)
    ∙ ap (pieces_of 58) e ∙ typed_parted s k in
    let values : value_text r.value ≡ value_text s.value = cc in
    let names : name_of r.type ≡ name_of s.type = cc in
    let value = one_written_value r.value s.value h.value k.value values in
    let type = one_name r.type s.type h.is_type k.is_type names in
    λ i. record { value = value i; type = type i }

pub typed_no_dash : (r : TypedValue) (rest : List ℕ) → IsTyped r → codes "-" ≡ typed_text r ++ rest → ⊥
typed_no_dash r rest h e = absurd (cc)

typed_some : (r : TypedValue) (rest : List ℕ) → [] ≢ typed_text r ++ rest
typed_some r rest e = absurd (cc)

-- a word of one piece between colons is no typed value
pub no_colon : (word first : List ℕ) → pieces_of 58 word ≡ first ∷ [] → (r : TypedValue) → IsTyped r → word ≢ typed_text r
no_colon word first pieces r h e =
    let names : value_text r.value ∷ name_of r.type ∷ [] ≡ first ∷ [] = sym (typed_parted r h) ∙ ap (pieces_of 58) (sym e) ∙ pieces in
    absurd (cc)

-- a word whose first piece is no value is no typed value
pub no_value : (word first : List ℕ) (others : List (List ℕ)) → pieces_of 58 word ≡ first ∷ others
    → ((v : ℕ) → IsValue v → first ≢ value_text v) → (r : TypedValue) → IsTyped r → word ≢ typed_text r
no_value word first others pieces none r h e =
    let names : value_text r.value ∷ name_of r.type ∷ [] ≡ first ∷ others = sym (typed_parted r h) ∙ ap (pieces_of 58) (sym e) ∙ pieces in
    none r.value h.value (cc)

-- a word whose second part names no type is no typed value
pub no_type : (word first rest : List ℕ) → pieces_of 58 word ≡ first ∷ pieces_of 58 rest → ((t : TypeParts) → IsType t → name_of t ≢ rest)
    → (r : TypedValue) → IsTyped r → word ≢ typed_text r
no_type word first rest pieces none r h e =
    let names : value_text r.value ∷ name_of r.type ∷ [] ≡ first ∷ pieces_of 58 rest = sym (typed_parted r h) ∙ ap (pieces_of 58) (sym e)
    ∙ pieces in
    let second : pieces_of 58 rest ≡ name_of r.type ∷ [] = cc in
    none r.type h.is_type (only_piece 58 rest (name_of r.type) second)

-- a word of these two parts is the typed value
pub is_typed : (word first rest : List ℕ) (v : ℕ) (t : TypeParts) → pieces_of 58 word ≡ first ∷ pieces_of 58 rest → first ≡ value_text v
    → name_of t ≡ rest → word ≡ value_text v ++ 58 ∷ name_of t
is_typed word first rest v t pieces value named =
    let more = slice_split_cons (λ b. b == 58) rest in
    let after : first ++ 58 ∷ rest ≡ join_with_byte 58 (first ∷ pieces_of 58 rest) =
    ap (λ r. first ++ 58 ∷ r) (sym (join_with_byte-slice_split 58 rest) ∙ ap (join_with_byte 58) more.is)
    ∙ sym (ap (λ ps. join_with_byte 58 (first ∷ ps)) more.is) in
    sym (ap₂ (λ (x y : List ℕ). x ++ 58 ∷ y) (sym value) named ∙ after ∙ sym (ap (join_with_byte 58) pieces)
    ∙ join_with_byte-slice_split 58 word)

-- ---- lines

-- numbers of types are those of typed values that can be named
pub typed_numbers : (rs : List TypedNumber) → All IsTypedNumber rs → All IsTyped (map typed_value_of rs)
typed_numbers [] h = All-nil IsTyped
typed_numbers (r ∷ rs) h =
    let first = All-head IsTypedNumber r rs h in
    All-cons IsTyped (typed_value_of r) (map typed_value_of rs) (record { value = first.value; is_type = first.number.is_type })
    (typed_numbers rs (All-tail IsTypedNumber r rs h))

-- the line whose pieces are the words of s states s
states : (line : List ℕ) (s : Statement) → All (λ w. 0 < length w) (words_of s) → pieces_of 32 line ≡ words_of s
    → AreWords line (words_of s)
states line s some pieces = record {
  parted = sym (join_with_byte-slice_split 32 line) ∙ ap (join_with_byte 32) pieces;
  each = words_from (words_of s) some (All-same (λ w. All (λ b. (b == 32) ≡ false) w) (words_of s) (pieces_of 32 line) (sym pieces)
      (All-slice_split (λ b. b == 32) line));
}

longer : (w : List ℕ) → [] ≢ w → 0 < length w
longer [] h = absurd (h refl)
longer (c ∷ cs) h = omega arith

pub states_parameter : (line value name : List ℕ) (r : TypedValue) → IsTyped r → pieces_of 32 line ≡ codes "param" ∷ value ∷ name ∷ []
    → value ≡ value_text r.value → name_of r.type ≡ name → IsStatement line (OfParameter r)
states_parameter line value name r can pieces is named =
    let P : List ℕ → Type 0 = λ w. 0 < length w in
    let words : pieces_of 32 line ≡ words_of (OfParameter r) = pieces ∙ ap₂ (λ (x y : List ℕ). codes "param" ∷ x ∷ y ∷ []) is (sym named) in
    record {
      words = states line (OfParameter r) (All-cons P (codes "param") (value_text r.value ∷ name_of r.type ∷ []) (omega arith)
          (All-cons P (value_text r.value) (name_of r.type ∷ []) (omega arith) (All-cons P (name_of r.type) [] (omega arith) (All-nil P))))
          words;
      can = can;
    }

pub states_application : (line name control results values : List ℕ) (a : Application) → CanApply a
    → pieces_of 32 line ≡ codes "line" ∷ name ∷ control ∷ results ∷ values ∷ [] → 0 < length name
    → a.name ≡ name → control_text a.control a.second ≡ control → list_text (map typed_text a.results) ≡ results
    → list_text (map value_text a.values) ≡ values → IsStatement line (OfApplication a)
states_application line name control results values a can pieces has_name named ce re ve =
    let P : List ℕ → Type 0 = λ w. 0 < length w in
    let words : pieces_of 32 line ≡ words_of (OfApplication a) = cc in
    let cw = control_text a.control a.second in
    let rw' = list_text (map typed_text a.results) in
    let vw = list_text (map value_text a.values) in
    let name_some : 0 < length a.name = omega (arith, has_name, ap length named) in
    let some : All P (words_of (OfApplication a)) =
    All-cons P (codes "line") (a.name ∷ cw ∷ rw' ∷ vw ∷ []) (omega arith)
    (All-cons P a.name (cw ∷ rw' ∷ vw ∷ []) name_some
    (All-cons P cw (rw' ∷ vw ∷ []) (control_has_bytes a.control a.second)
    (All-cons P rw' (vw ∷ []) (longer rw' (list_has_bytes typed_text typed_some a.results))
    (All-cons P vw [] (longer vw (list_has_bytes value_text value_some a.values)) (All-nil P))))) in
    record { words = states line (OfApplication a) some words; can = can }

-- ---- a line that states nothing

-- the pieces of a line that states s are its words
pub pieces_are : (line : List ℕ) (s : Statement) → IsStatement line s → pieces_of 32 line ≡ words_of s
pieces_are line (OfParameter r) h = pieces_of-words line _ _ h.words
pieces_are line (OfApplication a) h = pieces_of-words line _ _ h.words

pub name_has_bytes : (line : List ℕ) (a : Application) → IsStatement line (OfApplication a) → 0 < length a.name
name_has_bytes line a h =
    let after : List (List ℕ) = control_text a.control a.second ∷ list_text (map typed_text a.results)
    ∷ list_text (map value_text a.values) ∷ [] in
    (All-head IsWord a.name after (All-tail IsWord (codes "line") (a.name ∷ after) h.words.each)).has_bytes

-- where a line of an application has these words
module _ (line name control results values : List ℕ) (pieces : pieces_of 32 line ≡ codes "line" ∷ name ∷ control ∷ results ∷ values ∷ [])
    (a : Application) (h : IsStatement line (OfApplication a)) where
  same_words : words_of (OfApplication a) ≡ codes "line" ∷ name ∷ control ∷ results ∷ values ∷ []
  same_words = sym (pieces_are line (OfApplication a) h) ∙ pieces

  pub no_control : ((c d : Option TypeParts) → IfSome c IsType → IfSome d IsType → IsAfter c d → control_text c d ≢ control) → ⊥
  no_control none = let e = same_words in none a.control a.second h.can.control h.can.second h.can.after (cc)

  pub no_results : ((rs : List TypedValue) → All IsTyped rs → list_text (map typed_text rs) ≢ results) → ⊥
  no_results none = let e = same_words in none a.results h.can.results (cc)

  pub no_values : ((vs : List ℕ) → All IsValue vs → list_text (map value_text vs) ≢ values) → ⊥
  no_values none = let e = same_words in none a.values h.can.values (cc)

-- a line of other words is no parameter
pub no_parameter : (line : List ℕ) → ((value name : List ℕ) → pieces_of 32 line ≢ codes "param" ∷ value ∷ name ∷ []) → (r : TypedValue)
    → IsStatement line (OfParameter r) → ⊥
no_parameter line none r h = none (value_text r.value) (name_of r.type) (pieces_are line (OfParameter r) h)

-- a line that begins with another byte has another first word
pub no_param_word : (line : List ℕ) → ((rest : List ℕ) → line ≢ 112 ∷ rest) → (value name : List ℕ)
    → pieces_of 32 line ≢ codes "param" ∷ value ∷ name ∷ []
no_param_word line none value name e =
    none (97 ∷ 114 ∷ 97 ∷ 109 ∷ 32 ∷ join_with_byte 32 (value ∷ name ∷ [])) (sym (join_with_byte-slice_split 32 line)
    ∙ ap (join_with_byte 32) e)

-- a line is no parameter if its words are no value or no type
pub no_parameter_value : (line value name : List ℕ) → pieces_of 32 line ≡ codes "param" ∷ value ∷ name ∷ []
    → ((v : ℕ) → IsValue v → value ≢ value_text v) → (r : TypedValue) → IsStatement line (OfParameter r) → ⊥
no_parameter_value line value name pieces none r h =
    let words : codes "param" ∷ value ∷ name ∷ [] ≡ words_of (OfParameter r) = sym pieces ∙ pieces_are line (OfParameter r) h in
    none r.value h.can.value (cc)

pub no_parameter_type : (line value name : List ℕ) → pieces_of 32 line ≡ codes "param" ∷ value ∷ name ∷ []
    → ((t : TypeParts) → IsType t → name_of t ≢ name) → (r : TypedValue) → IsStatement line (OfParameter r) → ⊥
no_parameter_type line value name pieces none r h =
    let words : codes "param" ∷ value ∷ name ∷ [] ≡ words_of (OfParameter r) = sym pieces ∙ pieces_are line (OfParameter r) h in
    none r.type h.can.is_type (cc)

-- a line of other words is no application
pub no_application : (line : List ℕ) → ((name control results values : List ℕ) → 0 < length name
    → pieces_of 32 line ≢ codes "line" ∷ name ∷ control ∷ results ∷ values ∷ []) → (a : Application) → IsStatement line (OfApplication a)
    → ⊥
no_application line none a h = none a.name (control_text a.control a.second) (list_text (map typed_text a.results))
    (list_text (map value_text a.values)) (name_has_bytes line a h) (pieces_are line (OfApplication a) h)

-- ---- a line states at most one thing

pub one_statement : (line : List ℕ) (s t : Statement) → IsStatement line s → IsStatement line t → s ≡ t
one_statement line (OfParameter r) (OfParameter q) h k =
    let words : words_of (OfParameter r) ≡ words_of (OfParameter q) = sym (pieces_are line (OfParameter r) h)
    ∙ pieces_are line (OfParameter q) k in
    let values : value_text r.value ≡ value_text q.value = cc in
    let names : name_of r.type ≡ name_of q.type = cc in
    let value = one_written_value r.value q.value h.can.value k.can.value values in
    let type = one_name r.type q.type h.can.is_type k.can.is_type names in
    λ i. OfParameter (record { value = value i; type = type i })
one_statement line (OfParameter r) (OfApplication a) h k =
    let words : words_of (OfParameter r) ≡ words_of (OfApplication a) = sym (pieces_are line (OfParameter r) h)
    ∙ pieces_are line (OfApplication a) k in
    absurd (cc)
one_statement line (OfApplication a) (OfParameter r) h k =
    let words : words_of (OfApplication a) ≡ words_of (OfParameter r) = sym (pieces_are line (OfApplication a) h)
    ∙ pieces_are line (OfParameter r) k in
    absurd (cc)
one_statement line (OfApplication a) (OfApplication b) h k =
    let words : words_of (OfApplication a) ≡ words_of (OfApplication b) = sym (pieces_are line (OfApplication a) h)
    ∙ pieces_are line (OfApplication b) k in
    let names : a.name ≡ b.name = cc in
    let controls : control_text a.control a.second ≡ control_text b.control b.second = cc in
    let results : list_text (map typed_text a.results) ≡ list_text (map typed_text b.results) = cc in
    let values : list_text (map value_text a.values) ≡ list_text (map value_text b.values) = cc in
    let c = same_controls a.control a.second b.control b.second h.can.control h.can.second h.can.after k.can.control k.can.second
    k.can.after controls in
    let r = same_list IsTyped typed_text typed_no_comma typed_no_dash one_typed a.results b.results h.can.results k.can.results results in
    let v = same_list IsValue value_text value_no_comma value_no_dash one_written_value a.values b.values h.can.values k.can.values values
    in
    λ i. OfApplication (record { name = names i; control = c.0 i; second = c.1 i; results = r i; values = v i })
