-- What is written is read.
use Rattle.std.proofs.Common.{◌≡◌, ◌∙◌, ℕ, ◌-◌, length, get_or, arith, length-append, Bool, true, false, cond, List, [], ◌∷◌, ◌++◌}
use Rattle.std.proofs.Common.{refl, sym, ap, subst, append_assoc, inl, inr}
use Rattle.std.specs.Prelude.{◌==◌, ◌||◌}
use Rattle.std.proofs.lemmas.Bool.{eqb-true}
use Rattle.std.proofs.lemmas.List.{append-nil}
use Rattle.std.proofs.Math.Seq.{take-append_seam}
use Rattle.meta_file_syntax.specs.Scan.{is_word_byte, scanned, tokens_in, next, ended_by, ended, class_of, word_token}
use Rattle.std.specs.Str.Lines.{strip_carriage_return}
use Rattle.meta_file_syntax.specs.Laid.{escaped, escaped_byte, cr_more, AreWordBytes, AreLineBytes, CanWrite, CanWriteAll, written}
use Rattle.meta_file_syntax.specs.Laid.{then_text, laid, starts, is_doc, closes, opens, IsWord, IsSignByte}
use Rattle.meta_file_syntax.specs.Keywords.{keyword_of, keyword_text}
use Rattle.meta_file_syntax.specs.declared.keyword.Keyword.{Keyword}
use Rattle.meta_file_syntax.specs.declared.keyword.Keyword.TheVariants as key
use Rattle.meta_file_syntax.specs.declared.scanner.Mode.{Mode}
use Rattle.meta_file_syntax.specs.declared.token.Token.{Token}
use Rattle.meta_file_syntax.specs.declared.token.Token.TheVariants.{Key, Word, Quoted, Sign, Doc, Stray}
use Rattle.meta_file_syntax.specs.declared.scanner.Mode.TheVariants.{Start, Between, InWord, InText, ThreeSlashes, InDoc, Lost}

word_is_no_lf_by : (c : ℕ) (b : Bool) → (c == 10) ≡ b → is_word_byte c ≡ true → b ≡ false
word_is_no_lf_by c false e h = refl
word_is_no_lf_by c true e h =
    let is : c ≡ 10 = eqb-true c 10 e in
    let wrong : is_word_byte 10 ≡ true = subst (λ (n : ℕ). is_word_byte n ≡ true) is h in
    absurd (cc)

pub word_is_no_lf : (c : ℕ) → is_word_byte c ≡ true → (c == 10) ≡ false
word_is_no_lf c h = word_is_no_lf_by c (c == 10) refl h

-- a word goes on
pub word_goes_on : (v w rest : List ℕ) → AreWordBytes w → scanned InWord v (w ++ rest) ≡ scanned InWord (v ++ w) rest
unfolding next ended_by
word_goes_on v [] rest h = ap (λ (x : List ℕ). scanned InWord x rest) (sym (append-nil v))
word_goes_on v (c ∷ cs) rest h =
    let here : is_word_byte c ≡ true = h.0 in
    let one : scanned InWord v ((c ∷ cs) ++ rest) ≡ scanned InWord (v ++ c ∷ []) (cs ++ rest) = rw (word_is_no_lf c here, here) refl in
    one ∙ word_goes_on (v ++ c ∷ []) cs rest h.1 ∙ ap (λ (x : List ℕ). scanned InWord x rest) (append_assoc v (c ∷ []) cs)

-- a text goes on up to its quote
plain : (t : List ℕ) (c : ℕ) (rest : List ℕ) → (c == 10) ≡ false → (c == 34) ≡ false → (c == 92) ≡ false
    → scanned InText t (c ∷ rest) ≡ scanned InText (t ++ c ∷ []) rest
unfolding next ended_by
plain t c rest a b d = rw (a, b, d) refl

escaped_reads_by : (t : List ℕ) (c : ℕ) (rest : List ℕ) (p q r : Bool) → (c == 10) ≡ p → (c == 34) ≡ q → (c == 92) ≡ r
    → scanned InText t (cond p (92 ∷ 110 ∷ []) (cond (q || r) (92 ∷ c ∷ []) (c ∷ [])) ++ rest) ≡ scanned InText (t ++ c ∷ []) rest
unfolding next ended_by
escaped_reads_by t c rest true q r hp hq hr = rw (eqb-true c 10 hp) refl
escaped_reads_by t c rest false true r hp hq hr = rw (eqb-true c 34 hq) refl
escaped_reads_by t c rest false false true hp hq hr = rw (eqb-true c 92 hr) refl
escaped_reads_by t c rest false false false hp hq hr = plain t c rest hp hq hr

pub text_goes_on : (t u rest : List ℕ) → scanned InText t (escaped u ++ rest) ≡ scanned InText (t ++ u) rest
text_goes_on t [] rest = ap (λ (x : List ℕ). scanned InText x rest) (sym (append-nil t))
text_goes_on t (c ∷ cs) rest =
    ap (λ (x : List ℕ). scanned InText t x) (append_assoc (escaped_byte c) (escaped cs) rest)
    ∙ escaped_reads_by t c (escaped cs ++ rest) _ _ _ refl refl refl
    ∙ text_goes_on (t ++ c ∷ []) cs rest
    ∙ ap (λ (x : List ℕ). scanned InText x rest) (append_assoc t (c ∷ []) cs)

-- a whole text between quotes, after something else
pub text_reads : (u rest : List ℕ) → scanned Between [] (34 ∷ (escaped u ++ 34 ∷ rest)) ≡ Quoted u ∷ scanned Between [] rest
unfolding next ended_by class_of
text_reads u rest = text_goes_on [] u (34 ∷ rest)

-- a line of documentation goes on
pub doc_goes_on : (v w rest : List ℕ) → AreLineBytes w → scanned InDoc v (w ++ rest) ≡ scanned InDoc (v ++ w) rest
unfolding next ended_by
doc_goes_on v [] rest h = ap (λ (x : List ℕ). scanned InDoc x rest) (sym (append-nil v))
doc_goes_on v (c ∷ cs) rest h =
    let lf : (c == 10) ≡ false = h.0 in
    let one : scanned InDoc v ((c ∷ cs) ++ rest) ≡ scanned InDoc (v ++ c ∷ []) (cs ++ rest) = rw lf refl in
    one ∙ doc_goes_on (v ++ c ∷ []) cs rest h.1 ∙ ap (λ (x : List ℕ). scanned InDoc x rest) (append_assoc v (c ∷ []) cs)

-- the CR more has no LF
cr_is_line_by : (b : Bool) → AreLineBytes (cond b (13 ∷ []) [])
cr_is_line_by true = (refl, tt)
cr_is_line_by false = tt

cr_is_line : (d : List ℕ) → AreLineBytes (cr_more d)
cr_is_line d = cr_is_line_by (get_or d (length d - 1) 0 == 13)

line_append : (v w : List ℕ) → AreLineBytes v → AreLineBytes w → AreLineBytes (v ++ w)
line_append [] w h g = g
line_append (c ∷ cs) w h g = (h.0, line_append cs w h.1 g)

at_seam : (d : List ℕ) (x : ℕ) → get_or (d ++ x ∷ []) (length d) 0 ≡ x
at_seam [] x = refl
at_seam (c ∷ cs) x = at_seam cs x

strip_one : (d : List ℕ) → strip_carriage_return (d ++ 13 ∷ []) ≡ d
strip_one d =
    let k : length (d ++ 13 ∷ []) - 1 ≡ length d = omega (arith, length-append d (13 ∷ [])) in
    rw (k, at_seam d 13) (take-append_seam d (13 ∷ []))

strip_none : (d : List ℕ) → (get_or d (length d - 1) 0 == 13) ≡ false → strip_carriage_return d ≡ d
strip_none d e = rw e refl

strip_by : (d : List ℕ) (b : Bool) → (get_or d (length d - 1) 0 == 13) ≡ b → strip_carriage_return (d ++ cond b (13 ∷ []) []) ≡ d
strip_by d true e = strip_one d
strip_by d false e = ap strip_carriage_return (append-nil d) ∙ strip_none d e

-- without its last CR, a line with one CR more is the line
strip_more : (d : List ℕ) → strip_carriage_return (d ++ cr_more d) ≡ d
strip_more d = strip_by d _ refl

-- ---- whole tokens

abbrev mode_after : Token → Mode
mode_after (Key k) = InWord
mode_after (Word w) = InWord
mode_after (Quoted t) = Between
mode_after (Sign c) = Between
mode_after (Doc []) = ThreeSlashes
mode_after (Doc (c ∷ cs)) = InDoc
mode_after (Stray f) = Lost

abbrev bytes_after : Token → List ℕ
bytes_after (Key k) = keyword_text k
bytes_after (Word w) = w
bytes_after (Quoted t) = []
bytes_after (Sign c) = []
bytes_after (Doc []) = []
bytes_after (Doc (c ∷ cs)) = (c ∷ cs) ++ cr_more (c ∷ cs)
bytes_after (Stray f) = []

-- the token if what comes after it is needed to tell it
abbrev pending : Token → List Token
pending (Key k) = Key k ∷ []
pending (Word w) = Word w ∷ []
pending (Quoted t) = []
pending (Sign c) = []
pending (Doc d) = Doc d ∷ []
pending (Stray f) = []

-- the token where it is told at once
abbrev emitted : Token → List Token
emitted (Key k) = []
emitted (Word w) = []
emitted (Quoted t) = Quoted t ∷ []
emitted (Sign c) = Sign c ∷ []
emitted (Doc d) = []
emitted (Stray f) = []

emitted-pending : (t : Token) (ts : List Token) → CanWrite t → emitted t ++ (pending t ++ ts) ≡ t ∷ ts
emitted-pending (Key k) ts h = refl
emitted-pending (Word w) ts h = refl
emitted-pending (Quoted t) ts h = refl
emitted-pending (Sign c) ts h = refl
emitted-pending (Doc d) ts h = refl
emitted-pending (Stray f) ts h = absurd h

word_token_of_key : (k : Keyword) → word_token (keyword_text k) ≡ Key k
unfolding keyword_of
word_token_of_key key.Type = refl
word_token_of_key key.Kind = refl
word_token_of_key key.Format = refl
word_token_of_key key.Inst = refl
word_token_of_key key.Group = refl
word_token_of_key key.Bool = refl
word_token_of_key key.Num = refl
word_token_of_key key.Enum = refl
word_token_of_key key.Preset = refl

pub key_bytes : (k : Keyword) → AreWordBytes (keyword_text k)
key_bytes key.Type = (refl, (refl, (refl, (refl, tt))))
key_bytes key.Kind = (refl, (refl, (refl, (refl, tt))))
key_bytes key.Format = (refl, (refl, (refl, (refl, (refl, (refl, tt))))))
key_bytes key.Inst = (refl, (refl, (refl, (refl, tt))))
key_bytes key.Group = (refl, (refl, (refl, (refl, (refl, tt)))))
key_bytes key.Bool = (refl, (refl, (refl, (refl, tt))))
key_bytes key.Num = (refl, (refl, (refl, tt)))
key_bytes key.Enum = (refl, (refl, (refl, (refl, tt))))
key_bytes key.Preset = (refl, (refl, (refl, (refl, (refl, (refl, tt))))))

-- where nothing began, at the front of a line or not
abbrev free_mode : Bool → Mode
free_mode true = Start
free_mode false = Between

word_opens : (front : Bool) (c : ℕ) (cs rest : List ℕ) → AreWordBytes (c ∷ cs)
    → scanned (free_mode front) [] ((c ∷ cs) ++ rest) ≡ scanned InWord (c ∷ cs) rest
unfolding next ended_by class_of
word_opens true c cs rest h = let here : is_word_byte c ≡ true = h.0 in let lf = word_is_no_lf c here in
    let one : scanned Start [] (c ∷ (cs ++ rest)) ≡ scanned InWord (c ∷ []) (cs ++ rest) = rw (lf, here) refl in
    one ∙ word_goes_on (c ∷ []) cs rest h.1
word_opens false c cs rest h = let here : is_word_byte c ≡ true = h.0 in let lf = word_is_no_lf c here in
    let one : scanned Between [] (c ∷ (cs ++ rest)) ≡ scanned InWord (c ∷ []) (cs ++ rest) = rw (lf, here) refl in
    one ∙ word_goes_on (c ∷ []) cs rest h.1

key_opens : (front : Bool) (k : Keyword) (rest : List ℕ)
    → scanned (free_mode front) [] (keyword_text k ++ rest) ≡ scanned InWord (keyword_text k) rest
key_opens front key.Type rest = word_opens front _ _ rest (key_bytes key.Type)
key_opens front key.Kind rest = word_opens front _ _ rest (key_bytes key.Kind)
key_opens front key.Format rest = word_opens front _ _ rest (key_bytes key.Format)
key_opens front key.Inst rest = word_opens front _ _ rest (key_bytes key.Inst)
key_opens front key.Group rest = word_opens front _ _ rest (key_bytes key.Group)
key_opens front key.Bool rest = word_opens front _ _ rest (key_bytes key.Bool)
key_opens front key.Num rest = word_opens front _ _ rest (key_bytes key.Num)
key_opens front key.Enum rest = word_opens front _ _ rest (key_bytes key.Enum)
key_opens front key.Preset rest = word_opens front _ _ rest (key_bytes key.Preset)

pub by_sign : (P : ℕ → Type 0) → P 61 → P 58 → P 44 → P 40 → P 41 → P 91 → P 93 → P 45 → P 62 → P 46 → (c : ℕ) → IsSignByte c → P c
by_sign P a b d e f g h i j k c (inl x) = subst P (sym x) a
by_sign P a b d e f g h i j k c (inr (inl x)) = subst P (sym x) b
by_sign P a b d e f g h i j k c (inr (inr (inl x))) = subst P (sym x) d
by_sign P a b d e f g h i j k c (inr (inr (inr (inl x)))) = subst P (sym x) e
by_sign P a b d e f g h i j k c (inr (inr (inr (inr (inl x))))) = subst P (sym x) f
by_sign P a b d e f g h i j k c (inr (inr (inr (inr (inr (inl x)))))) = subst P (sym x) g
by_sign P a b d e f g h i j k c (inr (inr (inr (inr (inr (inr (inl x))))))) = subst P (sym x) h
by_sign P a b d e f g h i j k c (inr (inr (inr (inr (inr (inr (inr (inl x)))))))) = subst P (sym x) i
by_sign P a b d e f g h i j k c (inr (inr (inr (inr (inr (inr (inr (inr (inl x))))))))) = subst P (sym x) j
by_sign P a b d e f g h i j k c (inr (inr (inr (inr (inr (inr (inr (inr (inr x))))))))) = subst P (sym x) k

sign_opens : (front : Bool) (c : ℕ) (rest : List ℕ) → IsSignByte c
    → scanned (free_mode front) [] (c ∷ rest) ≡ Sign c ∷ scanned Between [] rest
unfolding next ended_by class_of
sign_opens true c rest h =
    by_sign (λ n. scanned Start [] (n ∷ rest) ≡ Sign n ∷ scanned Between [] rest) refl refl refl refl refl refl refl refl refl refl c h
sign_opens false c rest h =
    by_sign (λ n. scanned Between [] (n ∷ rest) ≡ Sign n ∷ scanned Between [] rest) refl refl refl refl refl refl refl refl refl refl c h

sign_ends_word : (w : List ℕ) (t : Token) (c : ℕ) (rest : List ℕ) → word_token w ≡ t → IsSignByte c
    → scanned InWord w (c ∷ rest) ≡ t ∷ Sign c ∷ scanned Between [] rest
unfolding next ended_by class_of
sign_ends_word w t c rest e h = by_sign (λ n. scanned InWord w (n ∷ rest) ≡ t ∷ Sign n ∷ scanned Between [] rest)
    (rw e refl) (rw e refl) (rw e refl) (rw e refl) (rw e refl) (rw e refl) (rw e refl) (rw e refl) (rw e refl) (rw e refl) c h

text_opens : (front : Bool) (u rest : List ℕ) → scanned (free_mode front) [] ((34 ∷ (escaped u ++ 34 ∷ [])) ++ rest)
    ≡ Quoted u ∷ scanned Between [] rest
unfolding next ended_by class_of
text_opens true u rest = rw (append_assoc (escaped u) (34 ∷ []) rest) (text_goes_on [] u (34 ∷ rest))
text_opens false u rest = rw (append_assoc (escaped u) (34 ∷ []) rest) (text_goes_on [] u (34 ∷ rest))

-- a line of documentation, at the front of a line
doc_opens : (d rest : List ℕ) → AreLineBytes d → scanned Start [] (written (Doc d) ++ rest)
    ≡ scanned (mode_after (Doc d)) (bytes_after (Doc d)) rest
unfolding next ended_by class_of
doc_opens [] rest h = refl
doc_opens (c ∷ cs) rest h = doc_goes_on [] ((c ∷ cs) ++ cr_more (c ∷ cs)) rest
    (line_append (c ∷ cs) (cr_more (c ∷ cs)) h (cr_is_line (c ∷ cs)))

-- a token where nothing began: documentation only at the front of a line
opened : (front : Bool) (t : Token) (rest : List ℕ) → CanWrite t → (is_doc t ≡ true → front ≡ true)
    → scanned (free_mode front) [] (written t ++ rest) ≡ emitted t ++ scanned (mode_after t) (bytes_after t) rest
opened front (Key k) rest h g = key_opens front k rest
opened front (Word w) rest h g = subst (λ (v : List ℕ). scanned (free_mode front) [] (v ++ rest)
    ≡ scanned InWord v rest) (sym h.is) (word_opens front h.first h.more rest h.bytes)
opened front (Quoted t) rest h g = text_opens front t rest
opened front (Sign c) rest h g = sign_opens front c rest h
opened true (Doc d) rest h g = doc_opens d rest h.0
opened false (Doc d) rest h g = absurd (let wrong : false ≡ true = g refl in cc)
opened front (Stray f) rest h g = absurd h

-- what doesn't begin a line is no documentation
no_doc : (t : Token) → starts t ≡ false → is_doc t ≡ true → false ≡ true
no_doc (Key k) e d = d
no_doc (Word w) e d = d
no_doc (Quoted t) e d = d
no_doc (Sign c) e d = d
no_doc (Doc x) e d = sym e
no_doc (Stray f) e d = d

word_is : (w : List ℕ) → IsWord w → word_token w ≡ Word w
word_is w h = rw h.free refl

-- after a token: the end of a line, a blank, or a token that stands close
line_ends : (u : Token) (rest : List ℕ) → CanWrite u
    → scanned (mode_after u) (bytes_after u) (10 ∷ rest) ≡ pending u ++ scanned Start [] rest
unfolding ended
line_ends (Key k) rest h = rw (word_token_of_key k) refl
line_ends (Word w) rest h = rw (word_is w h) refl
line_ends (Quoted t) rest h = refl
line_ends (Sign c) rest h = refl
line_ends (Doc []) rest h = refl
line_ends (Doc (c ∷ cs)) rest h = ap (λ (x : List ℕ). Doc x ∷ scanned Start [] rest) (strip_more (c ∷ cs))
line_ends (Stray f) rest h = absurd h

blank_stands : (u : Token) (rest : List ℕ) → CanWrite u → is_doc u ≡ false
    → scanned (mode_after u) (bytes_after u) (32 ∷ rest) ≡ pending u ++ scanned Between [] rest
unfolding next ended_by class_of
blank_stands (Key k) rest h undoc = rw (word_token_of_key k) refl
blank_stands (Word w) rest h undoc = rw (word_is w h) refl
blank_stands (Quoted t) rest h undoc = refl
blank_stands (Sign c) rest h undoc = refl
blank_stands (Doc d) rest h undoc = absurd cc
blank_stands (Stray f) rest h undoc = absurd h

touches : (u t : Token) (rest : List ℕ) → CanWrite u → CanWrite t → is_doc u ≡ false → starts t ≡ false → (closes t || opens u) ≡ true
    → scanned (mode_after u) (bytes_after u) (written t ++ rest) ≡ pending u ++ (emitted t ++ scanned (mode_after t) (bytes_after t) rest)
touches (Sign c) t rest h g undoc still e = opened false t rest g (no_doc t still)
touches (Key k) (Sign c) rest h g undoc still e = sign_ends_word (keyword_text k) (Key k) c rest (word_token_of_key k) g
touches (Word w) (Sign c) rest h g undoc still e = sign_ends_word w (Word w) c rest (word_is w h) g
touches (Quoted u) (Sign c) rest h g undoc still e = sign_opens false c rest g
touches (Key k) (Key l) rest h g undoc still e = absurd cc
touches (Key k) (Word w) rest h g undoc still e = absurd cc
touches (Key k) (Quoted w) rest h g undoc still e = absurd cc
touches (Key k) (Doc w) rest h g undoc still e = absurd cc
touches (Key k) (Stray f) rest h g undoc still e = absurd cc
touches (Word v) (Key l) rest h g undoc still e = absurd cc
touches (Word v) (Word w) rest h g undoc still e = absurd cc
touches (Word v) (Quoted w) rest h g undoc still e = absurd cc
touches (Word v) (Doc w) rest h g undoc still e = absurd cc
touches (Word v) (Stray f) rest h g undoc still e = absurd cc
touches (Quoted v) (Key l) rest h g undoc still e = absurd cc
touches (Quoted v) (Word w) rest h g undoc still e = absurd cc
touches (Quoted v) (Quoted w) rest h g undoc still e = absurd cc
touches (Quoted v) (Doc w) rest h g undoc still e = absurd cc
touches (Quoted v) (Stray f) rest h g undoc still e = absurd cc
touches (Doc d) t rest h g undoc still e = absurd cc
touches (Stray f) t rest h g undoc still e = absurd h

neither : (a b : Bool) → (a || b) ≡ false → (a ≡ false) × (b ≡ false)
neither false false e = (refl, refl)
neither false true e = absurd cc
neither true b e = absurd cc

separated : (u t : Token) (rest : List ℕ) (p q : Bool) → CanWrite u → CanWrite t → (is_doc u || starts t) ≡ p → (closes t || opens u) ≡ q
    → scanned (mode_after u) (bytes_after u) (cond p (10 ∷ []) (cond q [] (32 ∷ [])) ++ (written t ++ rest))
    ≡ pending u ++ (emitted t ++ scanned (mode_after t) (bytes_after t) rest)
separated u t rest true q h g l e = line_ends u (written t ++ rest) h
    ∙ ap (λ (x : List Token). pending u ++ x) (opened true t rest g (λ d. refl))
separated u t rest false true h g l e = let n = neither (is_doc u) (starts t) l in touches u t rest h g n.0 n.1 e
separated u t rest false false h g l e =
    let n = neither (is_doc u) (starts t) l in
    blank_stands u (written t ++ rest) h n.0 ∙ ap (λ (x : List Token). pending u ++ x) (opened false t rest g (no_doc t n.1))

laid_after : (u : Token) (ts : List Token) → CanWrite u → CanWriteAll ts
    → scanned (mode_after u) (bytes_after u) (then_text u ts) ≡ pending u ++ ts
unfolding then_text ended
laid_after u [] h all = line_ends u [] h
laid_after u (t ∷ ts) h all =
    separated u t (then_text t ts) _ _ h all.0 refl refl
    ∙ ap (λ (x : List Token). pending u ++ (emitted t ++ x)) (laid_after t ts all.0 all.1)
    ∙ ap (λ (x : List Token). pending u ++ x) (emitted-pending t ts all.0)

pub laid_reads : (ts : List Token) → CanWriteAll ts → tokens_in (laid ts) ≡ ts
unfolding laid ended
laid_reads [] all = refl
laid_reads (t ∷ ts) all = opened true t (then_text t ts) all.0 (λ d. refl)
    ∙ ap (λ (x : List Token). emitted t ++ x) (laid_after t ts all.0 all.1) ∙ emitted-pending t ts all.0
