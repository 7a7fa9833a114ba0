-- What a line asks that explains.
use Rattle.std.proofs.Common.{◌≡◌, ◌≢◌, ℕ, ◌<◌, List, [], ◌∷◌, length, codes, Option, Some, None, IfSome, refl, sym}
use Rattle.std.proofs.Common.{◌==◌, ap, ap₂, ◌∙◌, arith}
use Rattle.std.specs.Option.{option_map}
use Rattle.std.proofs.lemmas.List.Elements.{All-nil, All-cons, All-head, All-tail}
use Rattle.meta_types.specs.TypeParts.{TypeParts, IsType, number_of}
use Rattle.meta_types.specs.TypeNumber.{type_with, IsTypeNumber}
use Rattle.meta_lines.specs.Words.{IsWord, pieces_of}
use Rattle.meta_lines.specs.Control.{control_text, IsAfter}
use Rattle.meta_lines.proofs.PieceLemmas.{slice_split_cons}
use Rattle.meta_lines.proofs.WordLemmas.{words_pieces, are_words}
use Rattle.meta_lines.proofs.ControlLemmas.{same_controls, control_has_bytes, control_is_type}
use Rattle.meta_explain.specs.declared.control_types.ControlTypes.{ControlTypes}
use Rattle.meta_query_lines.specs.Query.{Asked, OfQuestion, OfInference, OfSetting, Asks, setting_words}
use Rattle.meta_query_lines.specs.Question.{question_words_of}
use Rattle.meta_query_lines.specs.Request.{Request, OfTypes, OfFind, OfNames, sought_text, controls_text, controls_words, name_words}
use Rattle.meta_query_lines.specs.Request.{request_words, AreControls, AreSought, Requests}
use Rattle.meta_query_lines.proofs.SoughtLemmas.{byte_in, same_sought, sought_has_bytes}

-- ---- the first word

-- the first byte of the first word
abbrev first_byte : List (List ℕ) → ℕ
first_byte [] = 0
first_byte (word ∷ words) = byte_in word

abbrev request_byte : Request → ℕ
request_byte (OfTypes name c) = 116
request_byte (OfFind results values) = 102
request_byte (OfNames name) = 108

byte_of_request : (r : Request) → first_byte (request_words r) ≡ request_byte r
byte_of_request (OfTypes name c) = refl
byte_of_request (OfFind results values) = refl
byte_of_request (OfNames name) = refl

has_words : (r : Request) → 0 < length (request_words r)
has_words (OfTypes name c) = omega arith
has_words (OfFind results values) = omega arith
has_words (OfNames name) = omega arith

-- the pieces of a line that makes a request
pub request_pieces : (line : List ℕ) (r : Request) → Requests line r → pieces_of 32 line ≡ request_words r
request_pieces line r h = words_pieces line (request_words r) h.words (has_words r)

-- a line whose first word begins with another byte makes no request
other_byte : (line first : List ℕ) (rest : List (List ℕ)) (r : Request) → pieces_of 32 line ≡ first ∷ rest → Requests line r
    → byte_in first ≡ request_byte r
other_byte line first rest r pieces h = ap first_byte (sym pieces ∙ request_pieces line r h) ∙ byte_of_request r

pub not_accept : (line : List ℕ) (rest : List (List ℕ)) → pieces_of 32 line ≡ codes "accept" ∷ rest → (r : Request) → Requests line r → ⊥
not_accept line rest pieces (OfTypes name c) h = let e = other_byte line (codes "accept") rest (OfTypes name c) pieces h in omega (arith, e)
not_accept line rest pieces (OfFind os ps) h = let e = other_byte line (codes "accept") rest (OfFind os ps) pieces h in omega (arith, e)
not_accept line rest pieces (OfNames name) h = let e = other_byte line (codes "accept") rest (OfNames name) pieces h in omega (arith, e)

pub not_infer : (line : List ℕ) (rest : List (List ℕ)) → pieces_of 32 line ≡ codes "infer" ∷ rest → (r : Request) → Requests line r → ⊥
not_infer line rest pieces (OfTypes name c) h = let e = other_byte line (codes "infer") rest (OfTypes name c) pieces h in omega (arith, e)
not_infer line rest pieces (OfFind os ps) h = let e = other_byte line (codes "infer") rest (OfFind os ps) pieces h in omega (arith, e)
not_infer line rest pieces (OfNames name) h = let e = other_byte line (codes "infer") rest (OfNames name) pieces h in omega (arith, e)

pub not_setting : (line : List ℕ) (rest : List (List ℕ)) → pieces_of 32 line ≡ codes "setting" ∷ rest → (r : Request) → Requests line r → ⊥
not_setting line rest pieces (OfTypes name c) h = let e = other_byte line (codes "setting") rest (OfTypes name c) pieces h in omega (arith, e)
not_setting line rest pieces (OfFind os ps) h = let e = other_byte line (codes "setting") rest (OfFind os ps) pieces h in omega (arith, e)
not_setting line rest pieces (OfNames name) h = let e = other_byte line (codes "setting") rest (OfNames name) pieces h in omega (arith, e)

-- ---- a line makes one request at most

abbrev AreForBoth : List ℕ → Request → Request → Type 0
AreForBoth line r p = Requests line r → Requests line p → r ≡ p

both_words : (line : List ℕ) (r p : Request) → Requests line r → Requests line p → request_words r ≡ request_words p
both_words line r p h g = sym (request_pieces line r h) ∙ request_pieces line p g

both_bytes : (line : List ℕ) (r p : Request) → Requests line r → Requests line p → request_byte r ≡ request_byte p
both_bytes line r p h g = sym (byte_of_request r) ∙ ap first_byte (both_words line r p h g) ∙ byte_of_request p

-- numbers of types are told by the types
same_number : (c d : Option ℕ) → IfSome c IsTypeNumber → IfSome d IsTypeNumber → option_map type_with c ≡ option_map type_with d → c ≡ d
same_number None None h g e = refl
same_number None (Some m) h g e = absurd (cc)
same_number (Some n) None h g e = absurd (cc)
same_number (Some n) (Some m) h g e =
    let types : type_with n ≡ type_with m = cc in
    ap Some (sym h.numbered ∙ ap number_of types ∙ g.numbered)

same_control_types : (c d : ControlTypes) → AreControls c → AreControls d → controls_text c ≡ controls_text d → c ≡ d
same_control_types c d h g e =
    let types = same_controls (option_map type_with c.ctrl) (option_map type_with c.second) (option_map type_with d.ctrl)
    (option_map type_with d.second) (control_is_type c.ctrl h.control) (control_is_type c.second h.second) h.after
    (control_is_type d.ctrl g.control) (control_is_type d.second g.second) g.after e in
    let first = same_number c.ctrl d.ctrl h.control g.control types.0 in
    let second = same_number c.second d.second h.second g.second types.1 in
    λ i. record { ctrl = first i; second = second i }

same_given : (c d : Option ControlTypes) → IfSome c AreControls → IfSome d AreControls → controls_words c ≡ controls_words d → c ≡ d
same_given None None h g e = refl
same_given None (Some d) h g e = absurd (cc)
same_given (Some c) None h g e = absurd (cc)
same_given (Some c) (Some d) h g e =
    let words : controls_text c ≡ controls_text d = cc in
    ap Some (same_control_types c d h g words)

same_names : (n m : Option (List ℕ)) → name_words n ≡ name_words m → n ≡ m
same_names None None e = refl
same_names None (Some m) e = absurd (cc)
same_names (Some n) None e = absurd (cc)
same_names (Some n) (Some m) e = let same : n ≡ m = cc in ap Some same

pub one_request : (line : List ℕ) (r p : Request) → Requests line r → Requests line p → r ≡ p
one_request line (OfTypes n c) (OfTypes m d) h g =
    let words = both_words line (OfTypes n c) (OfTypes m d) h g in
    let names : n ≡ m = cc in
    let given : controls_words c ≡ controls_words d = cc in
    ap₂ OfTypes names (same_given c d h.types g.types given)
one_request line (OfTypes n c) (OfFind os ps) h g = let e = both_bytes line (OfTypes n c) (OfFind os ps) h g in absurd (omega (arith, e))
one_request line (OfTypes n c) (OfNames m) h g = let e = both_bytes line (OfTypes n c) (OfNames m) h g in absurd (omega (arith, e))
one_request line (OfFind os ps) (OfTypes n c) h g = let e = both_bytes line (OfFind os ps) (OfTypes n c) h g in absurd (omega (arith, e))
one_request line (OfFind os ps) (OfFind qs rs) h g =
    let words = both_words line (OfFind os ps) (OfFind qs rs) h g in
    let results : sought_text os ≡ sought_text qs = cc in
    let values : sought_text ps ≡ sought_text rs = cc in
    ap₂ OfFind (same_sought os qs h.types.0 g.types.0 results) (same_sought ps rs h.types.1 g.types.1 values)
one_request line (OfFind os ps) (OfNames m) h g = let e = both_bytes line (OfFind os ps) (OfNames m) h g in absurd (omega (arith, e))
one_request line (OfNames n) (OfTypes m c) h g = let e = both_bytes line (OfNames n) (OfTypes m c) h g in absurd (omega (arith, e))
one_request line (OfNames n) (OfFind os ps) h g = let e = both_bytes line (OfNames n) (OfFind os ps) h g in absurd (omega (arith, e))
one_request line (OfNames n) (OfNames m) h g =
    let words = both_words line (OfNames n) (OfNames m) h g in
    let given : name_words n ≡ name_words m = cc in
    ap OfNames (same_names n m given)

-- a line that asks something of `query` makes no request
pub asks_no_request : (line : List ℕ) (q : Asked) (r : Request) → Asks line q → Requests line r → ⊥
asks_no_request line (OfQuestion q) r h g = not_accept line _ (words_pieces line (question_words_of q) h.words (omega arith)) r g
asks_no_request line (OfInference q) r h g = not_infer line _ (words_pieces line _ h.words (omega arith)) r g
asks_no_request line (OfSetting name) r h g = not_setting line _ (words_pieces line (setting_words name) h (omega arith)) r g

-- a line whose first word is another asks nothing of `query`
abbrev asked_byte : Asked → ℕ
asked_byte (OfQuestion q) = 97
asked_byte (OfInference q) = 105
asked_byte (OfSetting name) = 115

byte_asked : (line first : List ℕ) (rest : List (List ℕ)) (q : Asked) → pieces_of 32 line ≡ first ∷ rest → Asks line q
    → byte_in first ≡ asked_byte q
byte_asked line first rest (OfQuestion q) pieces h =
    ap first_byte (sym pieces ∙ words_pieces line (question_words_of q) h.words (omega arith))
byte_asked line first rest (OfInference q) pieces h = ap first_byte (sym pieces ∙ words_pieces line _ h.words (omega arith))
byte_asked line first rest (OfSetting name) pieces h = ap first_byte (sym pieces ∙ words_pieces line (setting_words name) h (omega arith))

no_byte_asked : (n : ℕ) (q : Asked) → n ≡ asked_byte q → n ≢ 97 → n ≢ 105 → n ≢ 115 → ⊥
no_byte_asked n (OfQuestion q) e a i s = a e
no_byte_asked n (OfInference q) e a i s = i e
no_byte_asked n (OfSetting name) e a i s = s e

pub types_alone : (line : List ℕ) (rest : List (List ℕ)) → pieces_of 32 line ≡ codes "types" ∷ rest → (q : Asked) → Asks line q → ⊥
types_alone line rest pieces q h = no_byte_asked 116 q (byte_asked line (codes "types") rest q pieces h)
    (λ e. omega (arith, e)) (λ e. omega (arith, e)) (λ e. omega (arith, e))

pub find_alone : (line : List ℕ) (rest : List (List ℕ)) → pieces_of 32 line ≡ codes "find" ∷ rest → (q : Asked) → Asks line q → ⊥
find_alone line rest pieces q h = no_byte_asked 102 q (byte_asked line (codes "find") rest q pieces h)
    (λ e. omega (arith, e)) (λ e. omega (arith, e)) (λ e. omega (arith, e))

-- ---- from a line to its request

name_has_bytes : (line name : List ℕ) (c : Option ControlTypes) → Requests line (OfTypes name c) → 0 < length name
name_has_bytes line name c h =
    (All-head IsWord name (controls_words c) (All-tail IsWord (codes "types") (name ∷ controls_words c) h.words.each)).has_bytes

module _ (line first after : List ℕ) (pieces : pieces_of 32 line ≡ first ∷ pieces_of 32 after) where
  -- the first word is none of these
  pub none_of_these : first ≢ codes "types" → first ≢ codes "find" → first ≢ codes "list" → (r : Request) → Requests line r → ⊥
  none_of_these types find list (OfTypes name c) h = let e = sym pieces ∙ request_pieces line (OfTypes name c) h in types (cc)
  none_of_these types find list (OfFind os ps) h = let e = sym pieces ∙ request_pieces line (OfFind os ps) h in find (cc)
  none_of_these types find list (OfNames name) h = let e = sym pieces ∙ request_pieces line (OfNames name) h in list (cc)

  pub no_types_words : first ≡ codes "types" → ((name : List ℕ) → 0 < length name → pieces_of 32 after ≢ name ∷ [])
      → ((name control : List ℕ) → 0 < length name → pieces_of 32 after ≢ name ∷ control ∷ []) → (r : Request) → Requests line r → ⊥
  no_types_words is none none_under (OfTypes name None) h =
      let e = sym pieces ∙ request_pieces line (OfTypes name None) h in
      none name (name_has_bytes line name None h) (cc)
  no_types_words is none none_under (OfTypes name (Some c)) h =
      let e = sym pieces ∙ request_pieces line (OfTypes name (Some c)) h in
      none_under name (controls_text c) (name_has_bytes line name (Some c) h) (cc)
  no_types_words is none none_under (OfFind os ps) h =
      let e = other_byte line first (pieces_of 32 after) (OfFind os ps) pieces h in
      let b = ap byte_in is in omega (arith, e, b)
  no_types_words is none none_under (OfNames name) h =
      let e = other_byte line first (pieces_of 32 after) (OfNames name) pieces h in
      let b = ap byte_in is in omega (arith, e, b)

  pub no_find_words : first ≡ codes "find" → ((results values : List ℕ) → pieces_of 32 after ≢ results ∷ values ∷ [])
      → (r : Request) → Requests line r → ⊥
  no_find_words is none (OfFind os ps) h =
      let e = sym pieces ∙ request_pieces line (OfFind os ps) h in
      none (sought_text os) (sought_text ps) (cc)
  no_find_words is none (OfTypes name c) h =
      let e = other_byte line first (pieces_of 32 after) (OfTypes name c) pieces h in
      let b = ap byte_in is in omega (arith, e, b)
  no_find_words is none (OfNames name) h =
      let e = other_byte line first (pieces_of 32 after) (OfNames name) pieces h in
      let b = ap byte_in is in omega (arith, e, b)

  pub no_list_words : first ≡ codes "list" → ((name : List ℕ) → 0 < length name → pieces_of 32 after ≢ name ∷ [])
      → 0 < length (pieces_of 32 after) → (r : Request) → Requests line r → ⊥
  no_list_words is none some (OfNames None) h =
      let e = sym pieces ∙ request_pieces line (OfNames None) h in
      let n = ap length e in absurd (omega (arith, n, some))
  no_list_words is none some (OfNames (Some name)) h =
      let e = sym pieces ∙ request_pieces line (OfNames (Some name)) h in
      none name (All-head IsWord name [] (All-tail IsWord (codes "list") (name ∷ []) h.words.each)).has_bytes (cc)
  no_list_words is none some (OfTypes name c) h =
      let e = other_byte line first (pieces_of 32 after) (OfTypes name c) pieces h in
      let b = ap byte_in is in omega (arith, e, b)
  no_list_words is none some (OfFind os ps) h =
      let e = other_byte line first (pieces_of 32 after) (OfFind os ps) pieces h in
      let b = ap byte_in is in omega (arith, e, b)

-- there is a piece
pub some_pieces : (text : List ℕ) → 0 < length (pieces_of 32 text)
some_pieces text =
    let more = slice_split_cons (λ b. b == 32) text in
    let n : length (pieces_of 32 text) ≡ length (more.first ∷ more.others) = ap length more.is in
    omega (arith, n)

-- a line of one word that isn't `list` makes no request
pub one_word : (line first : List ℕ) → pieces_of 32 line ≡ first ∷ [] → first ≢ codes "list" → (r : Request) → Requests line r → ⊥
one_word line first pieces other (OfTypes name c) h =
    let e = ap length (sym pieces ∙ request_pieces line (OfTypes name c) h) in omega (arith, e)
one_word line first pieces other (OfFind os ps) h =
    let e = ap length (sym pieces ∙ request_pieces line (OfFind os ps) h) in omega (arith, e)
one_word line first pieces other (OfNames None) h = let e = sym pieces ∙ request_pieces line (OfNames None) h in other (cc)
one_word line first pieces other (OfNames (Some name)) h =
    let e = ap length (sym pieces ∙ request_pieces line (OfNames (Some name)) h) in omega (arith, e)

-- ---- from the words of a line to its request

abbrev SomeBytes : List ℕ → Type 0
SomeBytes w = 0 < length w

pub requests_types : (line name : List ℕ) → pieces_of 32 line ≡ codes "types" ∷ name ∷ [] → 0 < length name → Requests line (OfTypes name None)
requests_types line name pieces named = record {
  words = are_words line (request_words (OfTypes name None)) (sym pieces)
      (All-cons SomeBytes (codes "types") (name ∷ []) (omega arith) (All-cons SomeBytes name [] named (All-nil SomeBytes)));
  types = tt;
}

pub requests_under : (line name word : List ℕ) (c : ControlTypes) → AreControls c → controls_text c ≡ word
    → pieces_of 32 line ≡ codes "types" ∷ name ∷ word ∷ [] → 0 < length name → Requests line (OfTypes name (Some c))
requests_under line name word c are is pieces named = record {
  words = are_words line (request_words (OfTypes name (Some c)))
      (ap (λ w. codes "types" ∷ name ∷ w ∷ []) is ∙ sym pieces)
      (All-cons SomeBytes (codes "types") (name ∷ controls_text c ∷ []) (omega arith)
      (All-cons SomeBytes name (controls_text c ∷ []) named
      (All-cons SomeBytes (controls_text c) [] (control_has_bytes (option_map type_with c.ctrl) (option_map type_with c.second))
      (All-nil SomeBytes))));
  types = are;
}

pub requests_find : (line results values : List ℕ) (os ps : List (Option ℕ)) → AreSought os → AreSought ps → sought_text os ≡ results
    → sought_text ps ≡ values → pieces_of 32 line ≡ codes "find" ∷ results ∷ values ∷ [] → Requests line (OfFind os ps)
requests_find line results values os ps h g r v pieces = record {
  words = are_words line (request_words (OfFind os ps))
      (ap₂ (λ a b. codes "find" ∷ a ∷ b ∷ []) r v ∙ sym pieces)
      (All-cons SomeBytes (codes "find") (sought_text os ∷ sought_text ps ∷ []) (omega arith)
      (All-cons SomeBytes (sought_text os) (sought_text ps ∷ []) (sought_has_bytes os)
      (All-cons SomeBytes (sought_text ps) [] (sought_has_bytes ps) (All-nil SomeBytes))));
  types = (h, g);
}

pub requests_all : (line : List ℕ) → pieces_of 32 line ≡ codes "list" ∷ [] → Requests line (OfNames None)
requests_all line pieces = record {
  words = are_words line (request_words (OfNames None)) (sym pieces)
      (All-cons SomeBytes (codes "list") [] (omega arith) (All-nil SomeBytes));
  types = tt;
}

pub requests_names : (line name : List ℕ) → pieces_of 32 line ≡ codes "list" ∷ name ∷ [] → 0 < length name
    → Requests line (OfNames (Some name))
requests_names line name pieces named = record {
  words = are_words line (request_words (OfNames (Some name))) (sym pieces)
      (All-cons SomeBytes (codes "list") (name ∷ []) (omega arith) (All-cons SomeBytes name [] named (All-nil SomeBytes)));
  types = tt;
}

-- ---- where the words of a form name no types

-- the controls of a line of `types`, if it has some, have another form
pub no_controls : (line name word : List ℕ) → pieces_of 32 line ≡ codes "types" ∷ name ∷ word ∷ []
    → ((c d : Option TypeParts) → IfSome c IsType → IfSome d IsType → IsAfter c d → control_text c d ≢ word)
    → (r : Request) → Requests line r → ⊥
no_controls line name word pieces none (OfTypes n None) h =
    let e = ap length (sym pieces ∙ request_pieces line (OfTypes n None) h) in omega (arith, e)
no_controls line name word pieces none (OfTypes n (Some c)) h =
    let e = sym pieces ∙ request_pieces line (OfTypes n (Some c)) h in
    none (option_map type_with c.ctrl) (option_map type_with c.second) (control_is_type c.ctrl h.types.control)
    (control_is_type c.second h.types.second) h.types.after (cc)
no_controls line name word pieces none (OfFind os ps) h =
    let e = other_byte line (codes "types") (name ∷ word ∷ []) (OfFind os ps) pieces h in omega (arith, e)
no_controls line name word pieces none (OfNames n) h =
    let e = other_byte line (codes "types") (name ∷ word ∷ []) (OfNames n) pieces h in omega (arith, e)

module _ (line results values : List ℕ) (pieces : pieces_of 32 line ≡ codes "find" ∷ results ∷ values ∷ []) where
  -- nor do the results of a line of `find`
  pub no_results_sought : ((os : List (Option ℕ)) → AreSought os → sought_text os ≢ results) → (r : Request) → Requests line r → ⊥
  no_results_sought none (OfFind os ps) h = let e = sym pieces ∙ request_pieces line (OfFind os ps) h in none os h.types.0 (cc)
  no_results_sought none (OfTypes n c) h =
      let e = other_byte line (codes "find") (results ∷ values ∷ []) (OfTypes n c) pieces h in omega (arith, e)
  no_results_sought none (OfNames n) h =
      let e = other_byte line (codes "find") (results ∷ values ∷ []) (OfNames n) pieces h in omega (arith, e)

  -- nor its values
  pub no_values_sought : ((os : List (Option ℕ)) → AreSought os → sought_text os ≢ values) → (r : Request) → Requests line r → ⊥
  no_values_sought none (OfFind os ps) h = let e = sym pieces ∙ request_pieces line (OfFind os ps) h in none ps h.types.1 (cc)
  no_values_sought none (OfTypes n c) h =
      let e = other_byte line (codes "find") (results ∷ values ∷ []) (OfTypes n c) pieces h in omega (arith, e)
  no_values_sought none (OfNames n) h =
      let e = other_byte line (codes "find") (results ∷ values ∷ []) (OfNames n) pieces h in omega (arith, e)
