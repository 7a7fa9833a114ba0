-- The tokens of a text that is UTF-8 can be written, but for flaws.
use Rattle.std.proofs.Common.{◌≡◌, ◌∙◌, ℕ, zero, suc, ◌+◌, ◌-◌, ◌<◌, ◌≤◌, Bool, true, false, cond, List, [], ◌∷◌, ◌++◌, length, take, drop}
use Rattle.std.proofs.Common.{get_or, Option}
use Rattle.std.proofs.Common.{Some, None, inl, inr, refl, sym, ap, subst, arith, append_assoc, append-nil, length-append}
use Rattle.std.specs.Prelude.{◌==◌, ◌||◌, ◌&&◌, ◌⊎◌, nat_le}
use Rattle.std.specs.Str.{IsUtf8}
use Rattle.std.specs.Str.Lines.{strip_carriage_return}
use Rattle.std.proofs.lemmas.Bool.{or_cases, and_parts, eqb-true, leb-true}
use Rattle.std.proofs.lemmas.Str.{IsUtf8-append, IsUtf8-nil, IsUtf8-encode, IsUtf8-take, IsUtf8-drop, encode_ascii}
use Rattle.std.proofs.lemmas.Str.{IsCharBoundary-before_ascii, IsCharBoundary-after_ascii}
use Rattle.std.proofs.Math.Seq.{take-append_seam, drop-append_seam, get_or-append_seam}
use lib.Utf8.{low_scalar}
use Rattle.meta_file_syntax.specs.declared.flaw.Flaw.TheVariants.{BadEscape, LoneSlash}
use Rattle.meta_file_syntax.specs.declared.keyword.Keyword.{Keyword}
use Rattle.meta_file_syntax.specs.declared.token.Token.{Token}
use Rattle.meta_file_syntax.specs.declared.token.Token.TheVariants.{Key, Word, Quoted, Sign, Doc, Stray}
use Rattle.meta_file_syntax.specs.Keywords.{keyword_of}
use Rattle.meta_file_syntax.specs.Scan.{State, is_word_byte, is_blank, is_sign, class_of, begun, told, word_by, word_token, in_mode}
use Rattle.meta_file_syntax.specs.Scan.{next, ended_by}
use Rattle.meta_file_syntax.specs.Scan.{ended, after, scanned, tokens_in}
use Rattle.meta_file_syntax.specs.Laid.{AreWordBytes, AreLineBytes, IsSignByte, CanWrite}

-- a flaw, or a token that can be written
abbrev pub Fine : Token → Type 0
Fine (Key k) = Unit {0}
Fine (Word w) = CanWrite (Word w)
Fine (Quoted t) = CanWrite (Quoted t)
Fine (Sign c) = CanWrite (Sign c)
Fine (Doc d) = CanWrite (Doc d)
Fine (Stray f) = Unit {0}

abbrev pub AllFine : List Token → Type 0
AllFine [] = Unit {0}
AllFine (t ∷ ts) = Fine t × AllFine ts

both_fine : (a b : List Token) → AllFine a → AllFine b → AllFine (a ++ b)
both_fine [] b h g = g
both_fine (t ∷ ts) b h g = (h.0, both_fine ts b h.1 g)

-- ---- bytes

-- before and after an ASCII byte
beside : (xs : List ℕ) (c : ℕ) (ys : List ℕ) → c < 128 → IsUtf8 (xs ++ c ∷ ys) → IsUtf8 xs × IsUtf8 ys
beside xs c ys small u =
    let in_it : length xs < length (xs ++ c ∷ ys) = omega (arith, length-append xs (c ∷ ys)) in
    let ascii : get_or (xs ++ c ∷ ys) (length xs) 0 < 128 = rw (get_or-append_seam xs c ys 0) small in
    let more : length (xs ++ c ∷ []) ≡ length xs + 1 = length-append xs (c ∷ []) in
    let same : drop (length xs + 1) (xs ++ c ∷ ys) ≡ ys = ap (λ (n : ℕ). drop n (xs ++ c ∷ ys)) (sym more)
    ∙ ap (λ (zs : List ℕ). drop (length (xs ++ c ∷ [])) zs) (sym (append_assoc xs (c ∷ []) ys)) ∙ drop-append_seam (xs ++ c ∷ []) ys in (
      subst IsUtf8 (take-append_seam xs (c ∷ ys))
          (IsUtf8-take (xs ++ c ∷ ys) (length xs) u (IsCharBoundary-before_ascii (xs ++ c ∷ ys) (length xs) in_it ascii)),
      subst IsUtf8 same
          (IsUtf8-drop (xs ++ c ∷ ys) (length xs + 1) u (IsCharBoundary-after_ascii (xs ++ c ∷ ys) (length xs) u in_it ascii)),
    )

alone : (c : ℕ) → c < 128 → IsUtf8 (c ∷ [])
alone c small = subst IsUtf8 (encode_ascii c small) (IsUtf8-encode c (low_scalar c (omega arith)))

or_small : (c k : ℕ) (more : Bool) → k < 128 → ((c == k) || more) ≡ true → (more ≡ true → c < 128) → c < 128
or_small c k more small e later = elim (or_cases (c == k) more e) [
  | inl h ↦ let is : c ≡ k = eqb-true c k h in omega arith
  | inr h ↦ later h
]

is_small : (c k : ℕ) → k < 128 → (c == k) ≡ true → c < 128
is_small c k small e = let is : c ≡ k = eqb-true c k e in omega arith

range_small : (c l h : ℕ) (more : Bool) → h < 128 → ((nat_le l c && nat_le c h) || more) ≡ true → (more ≡ true → c < 128) → c < 128
range_small c l h more small e later = elim (or_cases (nat_le l c && nat_le c h) more e) [
  | inl g ↦ let p : c ≤ h = leb-true c h (and_parts (nat_le l c) (nat_le c h) g).1 in omega arith
  | inr g ↦ later g
]

word_small : (c : ℕ) → is_word_byte c ≡ true → c < 128
word_small c e = range_small c 97 122 _ (omega arith) e (λ e. range_small c 65 90 _ (omega arith) e
    (λ e. range_small c 48 57 _ (omega arith) e (λ e. is_small c 95 (omega arith) e)))

blank_small : (c : ℕ) → is_blank c ≡ true → c < 128
blank_small c e = or_small c 32 _ (omega arith) e (λ e. or_small c 9 _ (omega arith) e (λ e. is_small c 13 (omega arith) e))

sign_small : (c : ℕ) → is_sign c ≡ true → c < 128
sign_small c e = or_small c 61 _ (omega arith) e (λ e. or_small c 58 _ (omega arith) e (λ e. or_small c 44 _ (omega arith) e
    (λ e. or_small c 40 _ (omega arith) e (λ e. or_small c 41 _ (omega arith) e (λ e. or_small c 91 _ (omega arith) e
    (λ e. or_small c 93 _ (omega arith) e (λ e. or_small c 45 _ (omega arith) e (λ e. or_small c 62 _ (omega arith) e
    (λ e. is_small c 46 (omega arith) e)))))))))

or_eq : (c k : ℕ) (more : Bool) (Q : Type 0) → ((c == k) || more) ≡ true → (more ≡ true → Q) → (c ≡ k) ⊎ Q
or_eq c k more Q e later = elim (or_cases (c == k) more e) [
  | inl h ↦ inl (eqb-true c k h)
  | inr h ↦ inr (later h)
]

sign_byte : (c : ℕ) → is_sign c ≡ true → IsSignByte c
sign_byte c e = or_eq c 61 _ _ e (λ e. or_eq c 58 _ _ e (λ e. or_eq c 44 _ _ e (λ e. or_eq c 40 _ _ e (λ e. or_eq c 41 _ _ e
    (λ e. or_eq c 91 _ _ e (λ e. or_eq c 93 _ _ e (λ e. or_eq c 45 _ _ e (λ e. or_eq c 62 _ _ e (λ e. eqb-true c 46 e)))))))))

words_more : (w : List ℕ) (c : ℕ) → AreWordBytes w → is_word_byte c ≡ true → AreWordBytes (w ++ c ∷ [])
words_more [] c h is = (is, tt)
words_more (x ∷ xs) c h is = (h.0, words_more xs c h.1 is)

line_more : (d : List ℕ) (c : ℕ) → AreLineBytes d → (c == 10) ≡ false → AreLineBytes (d ++ c ∷ [])
line_more [] c h is = (is, tt)
line_more (x ∷ xs) c h is = (h.0, line_more xs c h.1 is)

line_less : (n : ℕ) (d : List ℕ) → AreLineBytes d → AreLineBytes (take n d)
line_less zero d h = tt
line_less (suc n) [] h = tt
line_less (suc n) (c ∷ cs) h = (h.0, line_less n cs h.1)

-- ---- tokens

word_fine_by : (w : List ℕ) (k : Option Keyword) → keyword_of w ≡ k → AreWordBytes w → 0 < length w → Fine (word_by w k)
word_fine_by w (Some k) e h some = tt
word_fine_by [] None e h some = absurd (omega arith)
word_fine_by (c ∷ cs) None e h some = record { first = c; more = cs; is = refl; bytes = h; free = e }

word_fine : (w : List ℕ) → AreWordBytes w → 0 < length w → Fine (word_token w)
word_fine w h some = word_fine_by w (keyword_of w) refl h some

doc_fine_by : (c : ℕ) (cs : List ℕ) (b : Bool) → (get_or (c ∷ cs) (length (c ∷ cs) - 1) 0 == 13) ≡ b → IsUtf8 (c ∷ cs)
    → AreLineBytes (c ∷ cs) → CanWrite (Doc (cond b (take (length (c ∷ cs) - 1) (c ∷ cs)) (c ∷ cs)))
doc_fine_by c cs true e u h =
    let n : ℕ = length (c ∷ cs) - 1 in
    let last : get_or (c ∷ cs) n 0 ≡ 13 = eqb-true (get_or (c ∷ cs) n 0) 13 e in (
      line_less n (c ∷ cs) h,
      IsUtf8-take (c ∷ cs) n u (IsCharBoundary-before_ascii (c ∷ cs) n (omega arith) (omega arith)),
    )
doc_fine_by c cs false e u h = (h, u)

doc_fine : (d : List ℕ) → IsUtf8 d → AreLineBytes d → CanWrite (Doc (strip_carriage_return d))
doc_fine [] u h = (tt, u)
doc_fine (c ∷ cs) u h = doc_fine_by c cs (get_or (c ∷ cs) (length (c ∷ cs) - 1) 0 == 13) refl u h

-- ---- the states of the scanner

data Where : Type 0 where
  AtFront : Where
  AtBetween : Where
  AtWord : Where
  AtText : Where
  AtEscape : Where
  AtSlash : Where
  AtStartSlash : Where
  AtTwo : Where
  AtThree : Where
  AtDoc : Where
  AtComment : Where
  AtLost : Where

-- each as the one after some bytes, from any state on
abbrev state_of : State → Where → List ℕ → State
state_of s AtFront bs = in_mode (after s.mode [] 10).mode bs
state_of s AtBetween bs = in_mode (next (after s.mode [] 10).mode [] 44).mode bs
state_of s AtWord bs = in_mode (next (after s.mode [] 10).mode [] 97).mode bs
state_of s AtText bs = in_mode (next (after s.mode [] 10).mode [] 34).mode bs
state_of s AtEscape bs = in_mode (next (next (after s.mode [] 10).mode [] 34).mode [] 92).mode bs
state_of s AtSlash bs = in_mode (next (next (after s.mode [] 10).mode [] 44).mode [] 47).mode bs
state_of s AtStartSlash bs = in_mode (next (after s.mode [] 10).mode [] 47).mode bs
state_of s AtTwo bs = in_mode (next (next (after s.mode [] 10).mode [] 47).mode [] 47).mode bs
state_of s AtThree bs = in_mode (next (next (next (after s.mode [] 10).mode [] 47).mode [] 47).mode [] 47).mode bs
state_of s AtDoc bs = in_mode (next (next (next (next (after s.mode [] 10).mode [] 47).mode [] 47).mode [] 47).mode [] 32).mode bs
state_of s AtComment bs = in_mode (next (next (next (next (after s.mode [] 10).mode [] 47).mode [] 47).mode [] 47).mode [] 47).mode bs
state_of s AtLost bs = in_mode (next (after s.mode [] 10).mode [] 0).mode bs

-- what is known of the bytes so far, and of those that are left
abbrev Known : Where → List ℕ → List ℕ → Type 0
Known AtFront bs cs = IsUtf8 cs
Known AtBetween bs cs = IsUtf8 cs
Known AtWord bs cs = (AreWordBytes bs × (0 < length bs)) × IsUtf8 cs
Known AtText bs cs = IsUtf8 (bs ++ cs)
Known AtEscape bs cs = IsUtf8 bs × IsUtf8 cs
Known AtSlash bs cs = IsUtf8 cs
Known AtStartSlash bs cs = IsUtf8 cs
Known AtTwo bs cs = IsUtf8 cs
Known AtThree bs cs = IsUtf8 cs
Known AtDoc bs cs = AreLineBytes bs × IsUtf8 (bs ++ cs)
Known AtComment bs cs = (before : List ℕ) × IsUtf8 (before ++ cs)
Known AtLost bs cs = (before : List ℕ) × IsUtf8 (before ++ cs)

abbrev Rest : List ℕ → Type 0
Rest cs = (before : List ℕ) × IsUtf8 (before ++ cs)

rest_of : (w : Where) (bs cs : List ℕ) → Known w bs cs → Rest cs
rest_of AtFront bs cs k = ([], k)
rest_of AtBetween bs cs k = ([], k)
rest_of AtWord bs cs k = ([], k.1)
rest_of AtText bs cs k = (bs, k)
rest_of AtEscape bs cs k = ([], k.1)
rest_of AtSlash bs cs k = ([], k)
rest_of AtStartSlash bs cs k = ([], k)
rest_of AtTwo bs cs k = ([], k)
rest_of AtThree bs cs k = ([], k)
rest_of AtDoc bs cs k = (bs, k.1)
rest_of AtComment bs cs k = k
rest_of AtLost bs cs k = k

-- one byte less
less : (c : ℕ) (cs : List ℕ) → Rest (c ∷ cs) → Rest cs
less c cs r = (r.0 ++ c ∷ [], subst IsUtf8 (sym (append_assoc r.0 (c ∷ []) cs)) r.1)

-- a state that is known, after tokens that are fine
abbrev Step : State → List Token → State → List ℕ → Type 0
Step seed ts s cs = (w : Where) × (bs : List ℕ) × Known w bs cs × AllFine ts × (s ≡ state_of seed w bs)

-- one of six, by the class of a byte
pick : {C : Type 0} (P : C → Type 0) (p q r s t : Bool) (k l m n o z : C) → (p ≡ true → P k) → (q ≡ true → P l) → (r ≡ true → P m)
    → (s ≡ true → P n) → (t ≡ true → P o) → P z → P (cond p k (cond q l (cond r m (cond s n (cond t o z)))))
pick P true q r s t k l m n o z a b c d e f = a refl
pick P false true r s t k l m n o z a b c d e f = b refl
pick P false false true s t k l m n o z a b c d e f = c refl
pick P false false false true t k l m n o z a b c d e f = d refl
pick P false false false false true k l m n o z a b c d e f = e refl
pick P false false false false false k l m n o z a b c d e f = f

front_step : (seed : State) (c : ℕ) (cs : List ℕ) → IsUtf8 (c ∷ cs) → Step seed (told (class_of c) c) (begun true (class_of c) c) cs
unfolding next class_of
front_step seed c cs u =
    pick (λ k. Step seed (told k c) (begun true k c) cs) (is_word_byte c) (is_blank c) (c == 34) (c == 47) (is_sign c)
    (class_of 97) (class_of 32) (class_of 34) (class_of 47) (class_of 61) (class_of 0)
    (λ h. (AtWord, c ∷ [], (((h, tt), omega arith), (beside [] c cs (word_small c h) u).1), tt, refl))
    (λ h. (AtFront, [], (beside [] c cs (blank_small c h) u).1, tt, refl))
    (λ h. (AtText, [], (beside [] c cs (is_small c 34 (omega arith) h) u).1, tt, refl))
    (λ h. (AtStartSlash, [], (beside [] c cs (is_small c 47 (omega arith) h) u).1, tt, refl))
    (λ h. (AtBetween, [], (beside [] c cs (sign_small c h) u).1, (sign_byte c h, tt), refl))
    (AtLost, [], less c cs ([], u), (tt, tt), refl)

between_step : (seed : State) (c : ℕ) (cs : List ℕ) → IsUtf8 (c ∷ cs) → Step seed (told (class_of c) c) (begun false (class_of c) c) cs
unfolding next class_of
between_step seed c cs u =
    pick (λ k. Step seed (told k c) (begun false k c) cs) (is_word_byte c) (is_blank c) (c == 34) (c == 47) (is_sign c)
    (class_of 97) (class_of 32) (class_of 34) (class_of 47) (class_of 61) (class_of 0)
    (λ h. (AtWord, c ∷ [], (((h, tt), omega arith), (beside [] c cs (word_small c h) u).1), tt, refl))
    (λ h. (AtBetween, [], (beside [] c cs (blank_small c h) u).1, tt, refl))
    (λ h. (AtText, [], (beside [] c cs (is_small c 34 (omega arith) h) u).1, tt, refl))
    (λ h. (AtSlash, [], (beside [] c cs (is_small c 47 (omega arith) h) u).1, tt, refl))
    (λ h. (AtBetween, [], (beside [] c cs (sign_small c h) u).1, (sign_byte c h, tt), refl))
    (AtLost, [], less c cs ([], u), (tt, tt), refl)

word_by_step : (seed : State) (bs : List ℕ) (c : ℕ) (cs : List ℕ) (b : Bool) → is_word_byte c ≡ b → Known AtWord bs (c ∷ cs)
    → Step seed (cond b [] (word_token bs ∷ told (class_of c) c))
    (cond b (state_of seed AtWord (bs ++ c ∷ [])) (begun false (class_of c) c)) cs
word_by_step seed bs c cs true h k = (
  AtWord,
  bs ++ c ∷ [],
  (
    (words_more bs c k.0.0 h, omega (arith, length-append bs (c ∷ []))),
    (beside [] c cs (word_small c h) k.1).1,
  ),
  tt,
  refl,
)
word_by_step seed bs c cs false h k =
    let s = between_step seed c cs k.1 in
    (s.0, s.1, s.2, (word_fine bs k.0.0 k.0.1, s.3), s.4)

text_step : (seed : State) (bs : List ℕ) (c : ℕ) (cs : List ℕ) (p q : Bool) → (c == 34) ≡ p → (c == 92) ≡ q → IsUtf8 (bs ++ c ∷ cs)
    → Step seed (cond p (Quoted bs ∷ []) []) (cond p (state_of seed AtBetween []) (cond q (state_of seed AtEscape bs)
    (state_of seed AtText (bs ++ c ∷ [])))) cs
text_step seed bs c cs true q hp hq u =
    let b = beside bs c cs (is_small c 34 (omega arith) hp) u in (AtBetween, [], b.1, (b.0, tt), refl)
text_step seed bs c cs false true hp hq u = (AtEscape, bs, beside bs c cs (is_small c 92 (omega arith) hq) u, tt, refl)
text_step seed bs c cs false false hp hq u =
    (AtText, bs ++ c ∷ [], subst IsUtf8 (sym (append_assoc bs (c ∷ []) cs)) u, tt, refl)

-- a text goes on with a byte that is ASCII
escaped_on : (bs : List ℕ) (c : ℕ) (cs : List ℕ) → c < 128 → IsUtf8 bs → IsUtf8 cs → IsUtf8 ((bs ++ c ∷ []) ++ cs)
escaped_on bs c cs small u v = IsUtf8-append (bs ++ c ∷ []) cs (IsUtf8-append bs (c ∷ []) u (alone c small)) v

escape_small : (c : ℕ) → ((c == 34) || (c == 92)) ≡ true → c < 128
escape_small c e = or_small c 34 _ (omega arith) e (λ e. is_small c 92 (omega arith) e)

escape_step : (seed : State) (bs : List ℕ) (c : ℕ) (cs : List ℕ) (p q : Bool) → (c == 110) ≡ p → ((c == 34) || (c == 92)) ≡ q
    → IsUtf8 bs × IsUtf8 (c ∷ cs)
    → Step seed (cond p [] (cond q [] (Stray BadEscape ∷ []))) (cond p (state_of seed AtText (bs ++ 10 ∷ []))
    (cond q (state_of seed AtText (bs ++ c ∷ [])) (state_of seed AtLost []))) cs
escape_step seed bs c cs true q hp hq k =
    (AtText, bs ++ 10 ∷ [], escaped_on bs 10 cs (omega arith) k.0 (beside [] c cs (is_small c 110 (omega arith) hp) k.1).1, tt, refl)
escape_step seed bs c cs false true hp hq k =
    let small = escape_small c hq in
    (AtText, bs ++ c ∷ [], escaped_on bs c cs small k.0 (beside [] c cs small k.1).1, tt, refl)
escape_step seed bs c cs false false hp hq k = (AtLost, [], less c cs ([], k.1), (tt, tt), refl)

slash_step : (seed : State) (c : ℕ) (cs : List ℕ) (p : Bool) → IsUtf8 (c ∷ cs)
    → Step seed (cond p [] (Stray LoneSlash ∷ [])) (cond p (state_of seed AtComment []) (state_of seed AtLost [])) cs
slash_step seed c cs true u = (AtComment, [], less c cs ([], u), tt, refl)
slash_step seed c cs false u = (AtLost, [], less c cs ([], u), (tt, tt), refl)

start_slash_step : (seed : State) (c : ℕ) (cs : List ℕ) (p : Bool) → (c == 47) ≡ p → IsUtf8 (c ∷ cs)
    → Step seed (cond p [] (Stray LoneSlash ∷ [])) (cond p (state_of seed AtTwo []) (state_of seed AtLost [])) cs
start_slash_step seed c cs true h u = (AtTwo, [], (beside [] c cs (is_small c 47 (omega arith) h) u).1, tt, refl)
start_slash_step seed c cs false h u = (AtLost, [], less c cs ([], u), (tt, tt), refl)

two_step : (seed : State) (c : ℕ) (cs : List ℕ) (p : Bool) → (c == 47) ≡ p → IsUtf8 (c ∷ cs)
    → Step seed [] (cond p (state_of seed AtThree []) (state_of seed AtComment [])) cs
two_step seed c cs true h u = (AtThree, [], (beside [] c cs (is_small c 47 (omega arith) h) u).1, tt, refl)
two_step seed c cs false h u = (AtComment, [], less c cs ([], u), tt, refl)

three_step : (seed : State) (c : ℕ) (cs : List ℕ) (p q : Bool) → (c == 32) ≡ q → (c == 10) ≡ false → IsUtf8 (c ∷ cs)
    → Step seed [] (cond p (state_of seed AtComment []) (cond q (state_of seed AtDoc []) (state_of seed AtDoc (c ∷ [])))) cs
three_step seed c cs true q hq line u = (AtComment, [], less c cs ([], u), tt, refl)
three_step seed c cs false true hq line u = (AtDoc, [], (tt, (beside [] c cs (is_small c 32 (omega arith) hq) u).1), tt, refl)
three_step seed c cs false false hq line u = (AtDoc, c ∷ [], ((line, tt), u), tt, refl)

abbrev StepFrom : State → Where → List ℕ → ℕ → List ℕ → Type 0
StepFrom seed w bs c cs =
    let s : State = state_of seed w bs in Step seed (ended_by s.mode s.bytes c) (next s.mode s.bytes c) cs

step : (seed : State) (w : Where) (bs : List ℕ) (c : ℕ) (cs : List ℕ) → (c == 10) ≡ false → Known w bs (c ∷ cs) → StepFrom seed w bs c cs
unfolding next ended_by class_of
step seed AtFront bs c cs line k = front_step seed c cs k
step seed AtBetween bs c cs line k = between_step seed c cs k
step seed AtWord bs c cs line k = word_by_step seed bs c cs (is_word_byte c) refl k
step seed AtText bs c cs line k = text_step seed bs c cs (c == 34) (c == 92) refl refl k
step seed AtEscape bs c cs line k = escape_step seed bs c cs (c == 110) ((c == 34) || (c == 92)) refl refl k
step seed AtSlash bs c cs line k = slash_step seed c cs (c == 47) k
step seed AtStartSlash bs c cs line k = start_slash_step seed c cs (c == 47) refl k
step seed AtTwo bs c cs line k = two_step seed c cs (c == 47) refl k
step seed AtThree bs c cs line k = three_step seed c cs (c == 47) (c == 32) refl line k
step seed AtDoc bs c cs line k =
    (AtDoc, bs ++ c ∷ [], (line_more bs c k.0 line, subst IsUtf8 (sym (append_assoc bs (c ∷ []) cs)) k.1), tt, refl)
step seed AtComment bs c cs line k = (AtComment, [], less c cs k, tt, refl)
step seed AtLost bs c cs line k = (AtLost, [], less c cs k, tt, refl)

-- ---- the ends of lines

-- what is known of the bytes alone
abbrev Own : Where → List ℕ → Type 0
Own AtFront bs = Unit {0}
Own AtBetween bs = Unit {0}
Own AtWord bs = AreWordBytes bs × (0 < length bs)
Own AtText bs = Unit {0}
Own AtEscape bs = Unit {0}
Own AtSlash bs = Unit {0}
Own AtStartSlash bs = Unit {0}
Own AtTwo bs = Unit {0}
Own AtThree bs = Unit {0}
Own AtDoc bs = AreLineBytes bs × IsUtf8 bs
Own AtComment bs = Unit {0}
Own AtLost bs = Unit {0}

at_end : (w : Where) (bs : List ℕ) → Known w bs [] → Own w bs
at_end AtFront bs k = tt
at_end AtBetween bs k = tt
at_end AtWord bs k = k.0
at_end AtText bs k = tt
at_end AtEscape bs k = tt
at_end AtSlash bs k = tt
at_end AtStartSlash bs k = tt
at_end AtTwo bs k = tt
at_end AtThree bs k = tt
at_end AtDoc bs k = (k.0, subst IsUtf8 (append-nil bs) k.1)
at_end AtComment bs k = tt
at_end AtLost bs k = tt

at_line_end : (w : Where) (bs : List ℕ) (c : ℕ) (cs : List ℕ) → c < 128 → Known w bs (c ∷ cs) → Own w bs
at_line_end AtFront bs c cs small k = tt
at_line_end AtBetween bs c cs small k = tt
at_line_end AtWord bs c cs small k = k.0
at_line_end AtText bs c cs small k = tt
at_line_end AtEscape bs c cs small k = tt
at_line_end AtSlash bs c cs small k = tt
at_line_end AtStartSlash bs c cs small k = tt
at_line_end AtTwo bs c cs small k = tt
at_line_end AtThree bs c cs small k = tt
at_line_end AtDoc bs c cs small k = (k.0, (beside bs c cs small k.1).0)
at_line_end AtComment bs c cs small k = tt
at_line_end AtLost bs c cs small k = tt

ended_fine : (seed : State) (w : Where) (bs : List ℕ) → Own w bs → AllFine (ended (state_of seed w bs).mode (state_of seed w bs).bytes)
unfolding next ended class_of
ended_fine seed AtFront bs o = tt
ended_fine seed AtBetween bs o = tt
ended_fine seed AtWord bs o = (word_fine bs o.0 o.1, tt)
ended_fine seed AtText bs o = (tt, tt)
ended_fine seed AtEscape bs o = (tt, tt)
ended_fine seed AtSlash bs o = (tt, tt)
ended_fine seed AtStartSlash bs o = (tt, tt)
ended_fine seed AtTwo bs o = tt
ended_fine seed AtThree bs o = ((tt, IsUtf8-nil), tt)
ended_fine seed AtDoc bs o = (doc_fine bs o.1 o.0, tt)
ended_fine seed AtComment bs o = tt
ended_fine seed AtLost bs o = tt

-- ---- all tokens

byte_by : (s : State) (c : ℕ) (cs : List ℕ) (b : Bool) → (c == 10) ≡ b → (b ≡ true → AllFine (ended s.mode s.bytes))
    → (b ≡ true → AllFine (scanned (after s.mode s.bytes 10).mode (after s.mode s.bytes 10).bytes cs))
    → (b ≡ false → AllFine (ended_by s.mode s.bytes c) × AllFine (scanned (next s.mode s.bytes c).mode (next s.mode s.bytes c).bytes cs))
    → AllFine (cond b (ended s.mode s.bytes) (ended_by s.mode s.bytes c)
    ++ scanned (cond b (after s.mode s.bytes 10) (next s.mode s.bytes c)).mode
    (cond b (after s.mode s.bytes 10) (next s.mode s.bytes c)).bytes cs)
byte_by s c cs true is first line other = both_fine (ended s.mode s.bytes) _ (first refl) (line refl)
byte_by s c cs false is first line other = let o = other refl in both_fine (ended_by s.mode s.bytes c) _ o.0 o.1

all_fine : (seed : State) (w : Where) (bs cs : List ℕ) → Known w bs cs
    → AllFine (scanned (state_of seed w bs).mode (state_of seed w bs).bytes cs)
all_fine seed w bs [] k = ended_fine seed w bs (at_end w bs k)
all_fine seed w bs (c ∷ cs) k =
    byte_by (state_of seed w bs) c cs (c == 10) refl
    (λ is. ended_fine seed w bs (at_line_end w bs c cs (is_small c 10 (omega arith) is) k))
    (λ is. all_fine seed AtFront [] cs (let r = rest_of w bs (c ∷ cs) k in (beside r.0 c cs (is_small c 10 (omega arith) is) r.1).1))
    (λ other. let s = step seed w bs c cs other k in
    (s.3, subst (λ (t : State). AllFine (scanned t.mode t.bytes cs)) (sym s.4) (all_fine seed s.0 s.1 cs s.2)))

from_start : (s : State) (text : List ℕ) → after s.mode s.bytes 10 ≡ s → IsUtf8 text → AllFine (scanned s.mode s.bytes text)
from_start s text is u = subst (λ (t : State). AllFine (scanned t.mode t.bytes text)) is (all_fine s AtFront [] text u)

-- each token of a text
pub tokens_fine : (text : List ℕ) → IsUtf8 text → AllFine (tokens_in text)
tokens_fine text u = from_start (record { mode = _; bytes = [] }) text refl u
