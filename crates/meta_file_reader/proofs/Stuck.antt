-- What a reader answers rests on the tokens that it has read, and on none after the token at which it fails.
use Rattle.std.proofs.Common.{◌≡◌, ◌∙◌, ℕ, zero, suc, ◌<◌, Bool, true, false, cond, List, [], ◌∷◌, ◌++◌, length, drop, Option}
use Rattle.std.proofs.Common.{Some, None, Result, Ok, Err, refl, sym, ap, subst, arith, length-append, append_assoc}
use Rattle.std.specs.Prelude.{◌==◌}
use Rattle.meta_file_syntax.specs.declared.token.Token.{Token}
use Rattle.meta_file_syntax.specs.declared.token.Token.TheVariants.{Key, Word, Quoted, Sign, Doc, Stray}
use Rattle.meta_file_syntax.specs.declared.name.Name.TheVariants as names
use Rattle.meta_types.specs.declared.derived_func.DerivedFunc.{DerivedFunc}
use Rattle.meta_file_syntax.specs.declared.types.TypeExpr.{TypeExpr}
use Rattle.meta_file_syntax.specs.Words.{function_named}
use Rattle.meta_file_reader.specs.declared.fault.Fault.{Fault}
use Rattle.meta_file_reader.specs.declared.fault.Wanted.{Wanted}
use Rattle.meta_file_reader.specs.declared.fault.Wanted.TheVariants as wanted
use Rattle.meta_file_reader.specs.declared.lists.Layout.{Layout}
use Rattle.meta_file_reader.specs.declared.lists.Layout.TheVariants as layouts
use Rattle.meta_file_reader.specs.Parts.{◌>>=◌, wants, name_at, word_at, text_at, sign_or_at, chosen_by, chosen_at, comment_at, docs_at}
use Rattle.meta_file_reader.specs.Parts.{word_first, sign_first, digit_first, begins_with_digit, call_first}
use Rattle.meta_file_reader.specs.Lists.{comma_or, separator_at, part_after, step_at, with_step, more_at, with_front, some_at}
use Rattle.meta_file_reader.specs.Lists.{closes_first, list_at}
use Rattle.meta_file_reader.specs.SetReading.{function_at, calls_at, closed_at, type_at}
use Rattle.meta_file_reader.specs.Refused.{CallNone}
use Rattle.meta_file_reader.proofs.PartLaws.{Shorter, longer, drop_less, sign_is}
use Rattle.meta_file_reader.proofs.ListLaws.{separator, Takes, step_takes}

-- something else than a function is wanted
abbrev pub Other : Wanted → Type 0
Other w = w ≡ wanted.Function → ⊥

-- nothing is read
abbrev pub Failed : {A : Type 0} → Result A Fault → Type 0
Failed {A} s = (g : Fault) × (s ≡ Err g)

-- Two lists of tokens begin with the same tokens, and then go on with different ones. If reading the first ends before they part, reading
-- the other ends there too. If a word is refused since it isn't a function, what comes after it counts: with `(` it is refused too, and
-- else it is passed.
abbrev pub Near : {A : Type 0} → List Token → List Token → Result (A × List Token) Fault → Result (A × List Token) Fault → Type 0
Near {A} rest more (Ok x) s = length rest < length x.1 → (q : List Token) × (x.1 ≡ q ++ rest) × (s ≡ Ok (x.0, q ++ more))
Near rest more (Err f) s = length rest < f.left
    → ((f.wanted ≡ wanted.Function → f.left ≡ suc (length rest) → sign_first 40 more ≡ true) → Failed s)
    × (f.wanted ≡ wanted.Function → f.left ≡ suc (length rest) → sign_first 40 more ≡ false → Shorter more s)

-- the second are the last of the first
abbrev pub After : List Token → List Token → Type 0
After ts us = (d : List Token) × (ts ≡ d ++ us)

-- at the fault a word stands that isn't a function, and `(` after it
abbrev pub FaultCalls : List Token → Fault → Type 0
FaultCalls ts f = (us : List Token) × (length us ≡ f.left) × After ts us × CallNone us

-- What is left is the last of what was there. Where a function is wanted, a word stands that isn't one.
abbrev pub Firm : {A : Type 0} → List Token → Result (A × List Token) Fault → Type 0
Firm ts (Ok x) = After ts x.1
Firm ts (Err f) = f.wanted ≡ wanted.Function → FaultCalls ts f

abbrev pub Kept : {A : Type 0} → List Token → Result (A × List Token) Fault → Type 0
Kept ts r = Shorter ts r × Firm ts r

-- what the reader answers rests on what it has read
pub record Local {A : Type 0} (at : List Token → Result (A × List Token) Fault) : Type 0 where
  pub near : (q rest more : List Token) → Near rest more (at (q ++ rest)) (at (q ++ more))
  pub keeps : (ts : List Token) → Kept ts (at ts)

-- ---- what the two answers are

-- where the one ends after the tokens that both have, nothing is said of the other
pub near_out : {A : Type 0} (rest more : List Token) (r s : Result (A × List Token) Fault) → Shorter rest r → Near rest more r s
near_out rest more (Ok x) s short = λ lt. absurd (omega arith)
near_out rest more (Err f) s short = λ lt. absurd (omega arith)

near_if : {A : Type 0} (ts rest more : List Token) (r s : Result (A × List Token) Fault) → Shorter ts r
    → (length rest < length ts → Near rest more r s) → Near rest more r s
near_if ts rest more (Ok x) s short h = λ lt. h (omega arith) lt
near_if ts rest more (Err f) s short h = λ lt. h (omega arith) lt

pub further : (ts us vs : List Token) → After ts us → After us vs → After ts vs
further ts us vs b c = (b.0 ++ c.0, b.1 ∙ ap (λ (u : List Token). b.0 ++ u) c.1 ∙ sym (append_assoc b.0 c.0 vs))

firm_in : {A : Type 0} (ts us : List Token) (r : Result (A × List Token) Fault) → After ts us → Firm us r → Firm ts r
firm_in ts us (Ok x) b h = further ts us x.1 b h
firm_in ts us (Err f) b h = λ e. let g = h e in (g.0, g.1, further ts us g.0 b g.2, g.3)

drop_after : (ts : List Token) → After ts (drop 1 ts)
drop_after [] = ([], refl)
drop_after (t ∷ ts) = (t ∷ [], refl)

fails_bind : {A B : Type 0} (s : Result A Fault) (f : A → Result B Fault) → Failed s → Failed (s >>= f)
fails_bind s f h = (h.0, ap (λ r. r >>= f) h.1)

kept_bind : {A B : Type 0} (ts : List Token) (r : Result (A × List Token) Fault) (f : A × List Token → Result (B × List Token) Fault)
    → Kept ts r → ((x : A × List Token) → r ≡ Ok x → Kept x.1 (f x)) → Kept ts (r >>= f)
kept_bind ts (Ok x) f h g = (longer x.1 ts (f x) h.0 (g x refl).0, firm_in ts x.1 (f x) h.1 (g x refl).1)
kept_bind ts (Err e) f h g = h

short_after : {A B : Type 0} (ts : List Token) (s : Result (A × List Token) Fault) (g : A × List Token → Result (B × List Token) Fault)
    → Shorter ts s → ((x : A × List Token) → s ≡ Ok x → Shorter x.1 (g x)) → Shorter ts (s >>= g)
short_after ts (Ok x) g h k = longer x.1 ts (g x) h (k x refl)
short_after ts (Err e) g h k = h

-- two readers, one after the other
pub near_bind : {A B : Type 0} (rest more : List Token) (r s : Result (A × List Token) Fault)
    (f g : A × List Token → Result (B × List Token) Fault) → Near rest more r s
    → ((x : A × List Token) → r ≡ Ok x → Shorter x.1 (f x)) → ((x : A × List Token) → s ≡ Ok x → Shorter x.1 (g x))
    → ((x : A) (q : List Token) → r ≡ Ok (x, q ++ rest) → s ≡ Ok (x, q ++ more) → Near rest more (f (x, q ++ rest)) (g (x, q ++ more)))
    → Near rest more (r >>= f) (s >>= g)
near_bind {A} {B} rest more (Ok y) s f g near short shorter h =
    near_if y.1 rest more (f y) (s >>= g) (short y refl)
    (λ lt. let n = near lt in
    subst (λ (u : List Token). Near rest more (f (y.0, u)) (s >>= g)) (sym n.1)
    (subst (λ (v : Result (A × List Token) Fault). Near rest more (f (y.0, n.0 ++ rest)) (v >>= g)) (sym n.2)
    (h y.0 n.0 (ap (λ (u : List Token). Ok (y.0, u)) n.1) n.2)))
near_bind rest more (Err d) s f g near short shorter h =
    λ lt. (λ c. fails_bind s g ((near lt).0 c), λ w e no. short_after more s g ((near lt).1 w e no) shorter)

pub local_bind : {A B : Type 0} (at : List Token → Result (A × List Token) Fault) (f : A × List Token → Result (B × List Token) Fault)
    → Local at → ((x : A) → Local (λ ts. f (x, ts))) → Local (λ ts. at ts >>= f)
local_bind at f one later = record {
  near = λ q rest more. near_bind rest more (at (q ++ rest)) (at (q ++ more)) f f (one.near q rest more)
      (λ x e. ((later x.0).keeps x.1).0) (λ x e. ((later x.0).keeps x.1).0) (λ x p e d. (later x).near p rest more);
  keeps = λ ts. kept_bind ts (at ts) f (one.keeps ts) (λ x e. (later x.0).keeps x.1);
}

-- the same reader, said in another way
pub local_as : {A : Type 0} (at by : List Token → Result (A × List Token) Fault) → ((ts : List Token) → by ts ≡ at ts) → Local at → Local by
local_as {A} at by same one = record {
  near = λ q rest more. subst (λ (r : Result (A × List Token) Fault). Near rest more r (by (q ++ more))) (sym (same (q ++ rest)))
      (subst (λ (s : Result (A × List Token) Fault). Near rest more (at (q ++ rest)) s) (sym (same (q ++ more))) (one.near q rest more));
  keeps = λ ts. subst (λ (r : Result (A × List Token) Fault). Kept ts r) (sym (same ts)) (one.keeps ts);
}

-- ---- the first token tells

pub ok_local : {A : Type 0} (x : A) → Local (λ ts. Ok (x, ts))
ok_local x = record { near = λ q rest more. λ lt. (q, refl, refl); keeps = λ ts. (omega arith, ([], refl)) }

-- nothing is read, and the first token is refused
pub wants_local : {A : Type 0} (w : Wanted) → Other w → Local {A = A} (λ ts. wants w ts)
wants_local w other = record {
  near = λ q rest more. λ lt. (λ c. (_, refl), λ e. absurd (other e));
  keeps = λ ts. (omega arith, λ e. absurd (other e));
}

-- something made of a part
pub made_local : {A B : Type 0} (at : List Token → Result (A × List Token) Fault) (g : A → B) → Local at
    → Local (λ ts. at ts >>= λ x. Ok (g x.0, x.1))
made_local at g one = local_bind at (λ x. Ok (g x.0, x.1)) one (λ x. ok_local (g x))

kept_drop : {A : Type 0} (at : List Token → Result (A × List Token) Fault) → Local at → (ts : List Token) → Kept ts (at (drop 1 ts))
kept_drop at one ts = (
  longer (drop 1 ts) ts (at (drop 1 ts)) (drop_less ts) (one.keeps (drop 1 ts)).0,
  firm_in ts (drop 1 ts) (at (drop 1 ts)) (drop_after ts) (one.keeps (drop 1 ts)).1,
)

near_drop : {A : Type 0} (at : List Token → Result (A × List Token) Fault) → Local at → (q rest more : List Token)
    → Near rest more (at (drop 1 (q ++ rest))) (at (drop 1 (q ++ more)))
near_drop at one [] rest more = near_out rest more (at (drop 1 rest)) (at (drop 1 more)) (kept_drop at one rest).0
near_drop at one (t ∷ q) rest more = one.near q rest more

-- after the first token
pub after_local : {A : Type 0} (at : List Token → Result (A × List Token) Fault) → Local at → Local (λ ts. at (drop 1 ts))
after_local at one = record { near = near_drop at one; keeps = kept_drop at one }

-- on tokens that begin with this one, the reader answers as a local one
abbrev pub LocalOn : {A : Type 0} → (List Token → Result (A × List Token) Fault) → Token → Type 0
LocalOn {A} at t = (g : List Token → Result (A × List Token) Fault) × Local g × ((ts : List Token) → at (t ∷ ts) ≡ g (t ∷ ts))

kept_cases : {A : Type 0} (at : List Token → Result (A × List Token) Fault) → Kept [] (at []) → ((t : Token) → LocalOn at t)
    → (ts : List Token) → Kept ts (at ts)
kept_cases at none h [] = none
kept_cases {A} at none h (t ∷ ts) =
    subst (λ (r : Result (A × List Token) Fault). Kept (t ∷ ts) r) (sym ((h t).2 ts)) ((h t).1.keeps (t ∷ ts))

near_cases : {A : Type 0} (at : List Token → Result (A × List Token) Fault) → Kept [] (at []) → ((t : Token) → LocalOn at t)
    → (q rest more : List Token) → Near rest more (at (q ++ rest)) (at (q ++ more))
near_cases at none h [] rest more = near_out rest more (at rest) (at more) (kept_cases at none h rest).0
near_cases {A} at none h (t ∷ q) rest more =
    subst (λ (r : Result (A × List Token) Fault). Near rest more r (at (t ∷ (q ++ more)))) (sym ((h t).2 (q ++ rest)))
    (subst (λ (s : Result (A × List Token) Fault). Near rest more ((h t).0 (t ∷ (q ++ rest))) s) (sym ((h t).2 (q ++ more)))
    ((h t).1.near (t ∷ q) rest more))

pub local_cases : {A : Type 0} (at : List Token → Result (A × List Token) Fault) → Kept [] (at []) → ((t : Token) → LocalOn at t) → Local at
local_cases at none h = record { near = near_cases at none h; keeps = kept_cases at none h }

-- this was read of the first token
pub took : {A : Type 0} (x : A) → Local (λ ts. Ok (x, drop 1 ts))
took x = after_local (λ ts. Ok (x, ts)) (ok_local x)

name_on : (w : Wanted) → Other w → (t : Token) → LocalOn (name_at w) t
name_on w o (Key k) = (λ ts. wants w ts, wants_local w (o), λ ts. refl)
name_on w o (Word v) = (λ ts. Ok (names.Plain v, drop 1 ts), took (names.Plain v), λ ts. refl)
name_on w o (Quoted v) = (λ ts. Ok (names.Quoted v, drop 1 ts), took (names.Quoted v), λ ts. refl)
name_on w o (Sign c) = (λ ts. wants w ts, wants_local w (o), λ ts. refl)
name_on w o (Doc d) = (λ ts. wants w ts, wants_local w (o), λ ts. refl)
name_on w o (Stray f) = (λ ts. wants w ts, wants_local w (o), λ ts. refl)

pub name_local : (w : Wanted) → Other w → Local (name_at w)
name_local w o = local_cases (name_at w) (omega arith, λ e. absurd (o e)) (name_on w o)

word_on : (w : Wanted) → Other w → (t : Token) → LocalOn (word_at w) t
word_on w o (Key k) = (λ ts. wants w ts, wants_local w (o), λ ts. refl)
word_on w o (Word v) = (λ ts. Ok (v, drop 1 ts), took v, λ ts. refl)
word_on w o (Quoted v) = (λ ts. wants w ts, wants_local w (o), λ ts. refl)
word_on w o (Sign c) = (λ ts. wants w ts, wants_local w (o), λ ts. refl)
word_on w o (Doc d) = (λ ts. wants w ts, wants_local w (o), λ ts. refl)
word_on w o (Stray f) = (λ ts. wants w ts, wants_local w (o), λ ts. refl)

pub word_local : (w : Wanted) → Other w → Local (word_at w)
word_local w o = local_cases (word_at w) (omega arith, λ e. absurd (o e)) (word_on w o)

no_function : Other wanted.Text
no_function e = absurd cc

text_on : (t : Token) → LocalOn (text_at) t
text_on (Key k) = (λ ts. wants wanted.Text ts, wants_local wanted.Text (no_function), λ ts. refl)
text_on (Word v) = (λ ts. wants wanted.Text ts, wants_local wanted.Text (no_function), λ ts. refl)
text_on (Quoted v) = (λ ts. Ok (v, drop 1 ts), took v, λ ts. refl)
text_on (Sign c) = (λ ts. wants wanted.Text ts, wants_local wanted.Text (no_function), λ ts. refl)
text_on (Doc d) = (λ ts. wants wanted.Text ts, wants_local wanted.Text (no_function), λ ts. refl)
text_on (Stray f) = (λ ts. wants wanted.Text ts, wants_local wanted.Text (no_function), λ ts. refl)

pub text_local : Local text_at
text_local = local_cases text_at (omega arith, λ e. absurd (no_function e)) text_on

chosen_word : {A : Type 0} (w : Wanted) → Other w → (meaning : List ℕ → Option A) (v : List ℕ) (o : Option A)
    → (g : List Token → Result (A × List Token) Fault) × Local g × ((ts : List Token) → chosen_by w o v ts ≡ g (Word v ∷ ts))
chosen_word w o meaning v None = (λ ts. wants w ts, wants_local w o, λ ts. refl)
chosen_word w o meaning v (Some x) = (λ ts. Ok (x, drop 1 ts), took x, λ ts. refl)

chosen_on : {A : Type 0} (w : Wanted) → Other w → (meaning : List ℕ → Option A) → (t : Token) → LocalOn (chosen_at w meaning) t
chosen_on w o meaning (Key k) = (λ ts. wants w ts, wants_local w (o), λ ts. refl)
chosen_on w o meaning (Word v) = chosen_word w o meaning v (meaning v)
chosen_on w o meaning (Quoted v) = (λ ts. wants w ts, wants_local w (o), λ ts. refl)
chosen_on w o meaning (Sign c) = (λ ts. wants w ts, wants_local w (o), λ ts. refl)
chosen_on w o meaning (Doc d) = (λ ts. wants w ts, wants_local w (o), λ ts. refl)
chosen_on w o meaning (Stray f) = (λ ts. wants w ts, wants_local w (o), λ ts. refl)

pub chosen_local : {A : Type 0} (w : Wanted) → Other w → (meaning : List ℕ → Option A) → Local (chosen_at w meaning)
chosen_local w o meaning = local_cases (chosen_at w meaning) (omega arith, λ e. absurd (o e)) (chosen_on w o meaning)

-- a sign, and what is read after it
sign_case : {B : Type 0} (w : Wanted) (c : ℕ) (f : List Token → Result (B × List Token) Fault) → Other w → Local f → (b : Bool)
    → (g : List Token → Result (B × List Token) Fault) × Local g
    × ((ts : List Token) → (cond b (Ok ts) (wants w (Sign c ∷ ts)) >>= f) ≡ g (Sign c ∷ ts))
sign_case w c f o later true = (λ ts. f (drop 1 ts), after_local f later, λ ts. refl)
sign_case w c f o later false = (λ ts. wants w ts, wants_local w o, λ ts. refl)

sign_on : {B : Type 0} (w : Wanted) (s : ℕ) (f : List Token → Result (B × List Token) Fault) → Other w → Local f
    → (t : Token) → LocalOn (λ us. sign_or_at w s us >>= f) t
sign_on w s f o later (Key k) = (λ ts. wants w ts, wants_local w (o), λ ts. refl)
sign_on w s f o later (Word v) = (λ ts. wants w ts, wants_local w (o), λ ts. refl)
sign_on w s f o later (Quoted v) = (λ ts. wants w ts, wants_local w (o), λ ts. refl)
sign_on w s f o later (Sign c) = sign_case w c f o later (c == s)
sign_on w s f o later (Doc d) = (λ ts. wants w ts, wants_local w (o), λ ts. refl)
sign_on w s f o later (Stray e) = (λ ts. wants w ts, wants_local w (o), λ ts. refl)

pub sign_local : {B : Type 0} (w : Wanted) (s : ℕ) (f : List Token → Result (B × List Token) Fault) → Other w → Local f
    → Local (λ ts. sign_or_at w s ts >>= f)
sign_local w s f o later = local_cases (λ ts. sign_or_at w s ts >>= f) (omega arith, λ e. absurd (o e)) (sign_on w s f o later)

-- ---- what stands at the front

-- the first token alone tells
abbrev pub FirstTells : (List Token → Bool) → Type 0
FirstTells b = (t : Token) (us vs : List Token) → b (t ∷ us) ≡ b (t ∷ vs)

pub word_tells : (v : List ℕ) → FirstTells (word_first v)
word_tells v (Key k) us vs = refl
word_tells v (Word w) us vs = refl
word_tells v (Quoted q) us vs = refl
word_tells v (Sign c) us vs = refl
word_tells v (Doc d) us vs = refl
word_tells v (Stray f) us vs = refl

pub sign_tells : (s : ℕ) → FirstTells (sign_first s)
sign_tells s (Key k) us vs = refl
sign_tells s (Word w) us vs = refl
sign_tells s (Quoted q) us vs = refl
sign_tells s (Sign c) us vs = refl
sign_tells s (Doc d) us vs = refl
sign_tells s (Stray f) us vs = refl

pub digit_tells : FirstTells digit_first
digit_tells (Key k) us vs = refl
digit_tells (Word w) us vs = refl
digit_tells (Quoted q) us vs = refl
digit_tells (Sign c) us vs = refl
digit_tells (Doc d) us vs = refl
digit_tells (Stray f) us vs = refl

near_cond : {A : Type 0} (rest more : List Token) (b d : Bool) (p q r s : Result (A × List Token) Fault) → b ≡ d → Near rest more p q
    → Near rest more r s → Near rest more (cond b p r) (cond d q s)
near_cond rest more true true p q r s e = λ h k. h
near_cond rest more false false p q r s e = λ h k. k
near_cond rest more true false p q r s e = absurd cc
near_cond rest more false true p q r s e = absurd cc

kept_cond : {A : Type 0} (ts : List Token) (b : Bool) (p r : Result (A × List Token) Fault) → Kept ts p → Kept ts r → Kept ts (cond b p r)
kept_cond ts true p r h k = h
kept_cond ts false p r h k = k

near_either : {A : Type 0} (b : List Token → Bool) (one other : List Token → Result (A × List Token) Fault) → FirstTells b → Local one
    → Local other → (q rest more : List Token)
    → Near rest more (cond (b (q ++ rest)) (one (q ++ rest)) (other (q ++ rest)))
    (cond (b (q ++ more)) (one (q ++ more)) (other (q ++ more)))
near_either b one other tells l m [] rest more =
    near_out rest more (cond (b rest) (one rest) (other rest)) (cond (b more) (one more) (other more))
    (kept_cond rest (b rest) (one rest) (other rest) (l.keeps rest) (m.keeps rest)).0
near_either b one other tells l m (t ∷ q) rest more =
    near_cond rest more (b (t ∷ (q ++ rest))) (b (t ∷ (q ++ more))) (one (t ∷ (q ++ rest))) (one (t ∷ (q ++ more)))
    (other (t ∷ (q ++ rest))) (other (t ∷ (q ++ more))) (tells t (q ++ rest) (q ++ more)) (l.near (t ∷ q) rest more)
    (m.near (t ∷ q) rest more)

-- one of two readers
pub either_local : {A : Type 0} (b : List Token → Bool) (one other : List Token → Result (A × List Token) Fault) → FirstTells b → Local one
    → Local other → Local (λ ts. cond (b ts) (one ts) (other ts))
either_local b one other tells l m = record {
  near = near_either b one other tells l m;
  keeps = λ ts. kept_cond ts (b ts) (one ts) (other ts) (l.keeps ts) (m.keeps ts);
}

-- ---- a comment, and documentation

comment_on : {B : Type 0} (f : Option (List ℕ) → List Token → Result (B × List Token) Fault)
    → ((c : Option (List ℕ)) → Local (f c)) → (t : Token) → LocalOn (λ us. f (comment_at us).0 (comment_at us).1) t
comment_on f later (Key k) = (f None, later None, λ ts. refl)
comment_on f later (Word v) = (f None, later None, λ ts. refl)
comment_on f later (Quoted v) = (λ ts. f (Some v) (drop 1 ts), after_local (f (Some v)) (later (Some v)), λ ts. refl)
comment_on f later (Sign c) = (f None, later None, λ ts. refl)
comment_on f later (Doc d) = (f None, later None, λ ts. refl)
comment_on f later (Stray e) = (f None, later None, λ ts. refl)

pub comment_local : {B : Type 0} (f : Option (List ℕ) → List Token → Result (B × List Token) Fault)
    → ((c : Option (List ℕ)) → Local (f c)) → Local (λ ts. f (comment_at ts).0 (comment_at ts).1)
comment_local f later =
    local_cases (λ ts. f (comment_at ts).0 (comment_at ts).1) ((later None).keeps []) (comment_on f later)

kept_docs : {B : Type 0} (f : List (List ℕ) → List Token → Result (B × List Token) Fault)
    → ((ds : List (List ℕ)) → Local (f ds)) → (ts : List Token) → Kept ts (f (docs_at ts).0 (docs_at ts).1)
kept_docs f later [] = (later []).keeps []
kept_docs f later (Key k ∷ ts) = (later []).keeps (Key k ∷ ts)
kept_docs f later (Word v ∷ ts) = (later []).keeps (Word v ∷ ts)
kept_docs f later (Quoted v ∷ ts) = (later []).keeps (Quoted v ∷ ts)
kept_docs f later (Sign c ∷ ts) = (later []).keeps (Sign c ∷ ts)
kept_docs f later (Doc d ∷ ts) =
    let k = kept_docs (λ ds. f (d ∷ ds)) (λ ds. later (d ∷ ds)) ts in (
      longer ts (Doc d ∷ ts) (f (d ∷ (docs_at ts).0) (docs_at ts).1) (omega arith) k.0,
      firm_in (Doc d ∷ ts) ts (f (d ∷ (docs_at ts).0) (docs_at ts).1) (Doc d ∷ [], refl) k.1,
    )
kept_docs f later (Stray e ∷ ts) = (later []).keeps (Stray e ∷ ts)

near_docs : {B : Type 0} (f : List (List ℕ) → List Token → Result (B × List Token) Fault)
    → ((ds : List (List ℕ)) → Local (f ds)) → (q rest more : List Token)
    → Near rest more (f (docs_at (q ++ rest)).0 (docs_at (q ++ rest)).1) (f (docs_at (q ++ more)).0 (docs_at (q ++ more)).1)
near_docs f later [] rest more =
    near_out rest more (f (docs_at rest).0 (docs_at rest).1) (f (docs_at more).0 (docs_at more).1) (kept_docs f later rest).0
near_docs f later (Key k ∷ q) rest more = (later []).near (Key k ∷ q) rest more
near_docs f later (Word v ∷ q) rest more = (later []).near (Word v ∷ q) rest more
near_docs f later (Quoted v ∷ q) rest more = (later []).near (Quoted v ∷ q) rest more
near_docs f later (Sign c ∷ q) rest more = (later []).near (Sign c ∷ q) rest more
near_docs f later (Doc d ∷ q) rest more = near_docs (λ ds. f (d ∷ ds)) (λ ds. later (d ∷ ds)) q rest more
near_docs f later (Stray e ∷ q) rest more = (later []).near (Stray e ∷ q) rest more

pub docs_local : {B : Type 0} (f : List (List ℕ) → List Token → Result (B × List Token) Fault)
    → ((ds : List (List ℕ)) → Local (f ds)) → Local (λ ts. f (docs_at ts).0 (docs_at ts).1)
docs_local f later = record { near = near_docs f later; keeps = kept_docs f later }

-- ---- lists

comma_case : (w : Wanted) (c : ℕ) → Other w → (p q : Bool)
    → (g : List Token → Result (Bool × List Token) Fault) × Local g
    × ((ts : List Token) → cond p (Ok (false, ts)) (cond q (Ok (true, ts)) (wants w (Sign c ∷ ts))) ≡ g (Sign c ∷ ts))
comma_case w c o true q = (λ ts. Ok (false, drop 1 ts), took false, λ ts. refl)
comma_case w c o false true = (λ ts. Ok (true, drop 1 ts), took true, λ ts. refl)
comma_case w c o false false = (λ ts. wants w ts, wants_local w o, λ ts. refl)

comma_on : (s : ℕ) (w : Wanted) → Other w → (t : Token) → LocalOn (comma_or s w) t
comma_on s w o (Key k) = (λ ts. wants w ts, wants_local w (o), λ ts. refl)
comma_on s w o (Word v) = (λ ts. wants w ts, wants_local w (o), λ ts. refl)
comma_on s w o (Quoted v) = (λ ts. wants w ts, wants_local w (o), λ ts. refl)
comma_on s w o (Sign c) = comma_case w c o (c == s) (c == 44)
comma_on s w o (Doc d) = (λ ts. wants w ts, wants_local w (o), λ ts. refl)
comma_on s w o (Stray f) = (λ ts. wants w ts, wants_local w (o), λ ts. refl)

comma_local : (s : ℕ) (w : Wanted) → Other w → Local (comma_or s w)
comma_local s w o = local_cases (comma_or s w) (omega arith, λ e. absurd (o e)) (comma_on s w o)

number_on : (t : Token) → LocalOn (λ us. Ok (digit_first us, us)) t
number_on (Key k) = (λ ts. Ok (false, ts), ok_local false, λ ts. refl)
number_on (Word w) = (λ ts. Ok (begins_with_digit w, ts), ok_local (begins_with_digit w), λ ts. refl)
number_on (Quoted v) = (λ ts. Ok (false, ts), ok_local false, λ ts. refl)
number_on (Sign c) = (λ ts. Ok (false, ts), ok_local false, λ ts. refl)
number_on (Doc d) = (λ ts. Ok (false, ts), ok_local false, λ ts. refl)
number_on (Stray f) = (λ ts. Ok (false, ts), ok_local false, λ ts. refl)

pub separator_local : (l : Layout) → (l ≡ layouts.Calls → ⊥) → Local (separator_at l)
separator_local layouts.Parentheses other = comma_local 41 wanted.CommaOrClose (λ e. absurd cc)
separator_local layouts.Brackets other = comma_local 93 wanted.CommaOrBracket (λ e. absurd cc)
separator_local layouts.Commas other =
    either_local (sign_first 44) (λ ts. Ok (true, drop 1 ts)) (λ ts. Ok (false, ts)) (sign_tells 44) (took true) (ok_local false)
separator_local layouts.Numbers other = local_cases (λ ts. Ok (digit_first ts, ts)) (omega arith, ([], refl)) number_on
separator_local layouts.Calls other = absurd (other refl)

part_local : {A : Type 0} (at : List Token → Result (A × List Token) Fault) → Local at → (b : Bool) → Local (part_after at b)
part_local at one true = made_local at (λ y. Some y) one
part_local at one false = ok_local None

step_local : {A : Type 0} (at : List Token → Result (A × List Token) Fault) (l : Layout) → Local (separator_at l) → Local at
    → Local (step_at at l)
step_local at l parts one = local_bind (separator_at l) (λ s. part_after at s.0 s.1) parts (part_local at one)

-- where one part more was read, fewer tokens are left
step_eats : {A : Type 0} (part : A → List Token) (at : List Token → Result (A × List Token) Fault) (l : Layout) → Takes part at
    → ((x : A) → 0 < length (part x)) → (ts : List Token) (y : A) (r : List Token) → step_at at l ts ≡ Ok (Some y, r)
    → length r < length ts
step_eats part at l takes some ts y r e =
    let long = some y in
    let same : length ts ≡ length (separator l ++ (part y ++ r)) = ap length (step_takes part at l takes ts (Some y, r) e) in
    omega (arith, length-append (separator l) (part y ++ r), length-append (part y) r)

kept_with : {A : Type 0} (o : Option A) (ts : List Token) (later : Result (List A × List Token) Fault) → Kept ts later
    → Kept ts (with_step o ts later)
kept_with None ts later h = (omega arith, ([], refl))
kept_with (Some y) ts later h = kept_bind ts later (λ xs. Ok (y ∷ xs.0, xs.1)) h (λ x e. (omega arith, ([], refl)))

near_with : {A : Type 0} (o : Option A) (q rest more : List Token) (u v : Result (List A × List Token) Fault)
    → ((y : A) → o ≡ Some y → Near rest more u v) → Near rest more (with_step o (q ++ rest) u) (with_step o (q ++ more) v)
near_with None q rest more u v h = λ lt. (q, refl, refl)
near_with (Some y) q rest more u v h =
    near_bind rest more u v (λ xs. Ok (y ∷ xs.0, xs.1)) (λ xs. Ok (y ∷ xs.0, xs.1)) (h y refl) (λ x e. omega arith) (λ x e. omega arith)
    (λ x p e d. λ lt. (p, refl, refl))

more_kept : {A : Type 0} (at : List Token → Result (A × List Token) Fault) (l : Layout) → Local (separator_at l) → Local at
    → (n : ℕ) (ts : List Token) → Kept ts (more_at at l n ts)
unfolding more_at
more_kept at l parts one zero ts = (omega arith, λ e. absurd cc)
more_kept at l parts one (suc n) ts =
    kept_bind ts (step_at at l ts) (λ x. with_step x.0 x.1 (more_at at l n x.1)) ((step_local at l parts one).keeps ts)
    (λ x e. kept_with x.0 x.1 (more_at at l n x.1) (more_kept at l parts one n x.1))

-- enough steps are as good as any others that are enough
more_near : {A : Type 0} (part : A → List Token) (at : List Token → Result (A × List Token) Fault) (l : Layout) → Takes part at
    → ((x : A) → 0 < length (part x)) → Local (separator_at l) → Local at → (n m : ℕ) (q rest more : List Token)
    → length (q ++ rest) < n → length (q ++ more) < m → Near rest more (more_at at l n (q ++ rest)) (more_at at l m (q ++ more))
unfolding more_at
more_near part at l takes some parts one zero m q rest more lt less = absurd (omega arith)
more_near part at l takes some parts one (suc n) zero q rest more lt less = absurd (omega arith)
more_near part at l takes some parts one (suc n) (suc m) q rest more lt less =
    near_bind rest more (step_at at l (q ++ rest)) (step_at at l (q ++ more)) (λ x. with_step x.0 x.1 (more_at at l n x.1))
    (λ x. with_step x.0 x.1 (more_at at l m x.1)) ((step_local at l parts one).near q rest more)
    (λ x e. (kept_with x.0 x.1 (more_at at l n x.1) (more_kept at l parts one n x.1)).0)
    (λ x e. (kept_with x.0 x.1 (more_at at l m x.1) (more_kept at l parts one m x.1)).0)
    (λ o p e d. near_with o p rest more (more_at at l n (p ++ rest)) (more_at at l m (p ++ more))
    (λ y is.
    let few = step_eats part at l takes some (q ++ rest) y (p ++ rest) (e ∙ ap (λ u. Ok (u, p ++ rest)) is) in
    let fewer = step_eats part at l takes some (q ++ more) y (p ++ more) (d ∙ ap (λ u. Ok (u, p ++ more)) is) in
    more_near part at l takes some parts one n m p rest more (omega arith) (omega arith)))

front_kept : {A : Type 0} (at : List Token → Result (A × List Token) Fault) (l : Layout) → Local (separator_at l) → Local at
    → (n : ℕ) (x : A × List Token) → Kept x.1 (with_front (x.0 ∷ []) (more_at at l n x.1))
front_kept at l parts one n x =
    kept_bind x.1 (more_at at l n x.1) (λ y. Ok ((x.0 ∷ []) ++ y.0, y.1)) (more_kept at l parts one n x.1)
    (λ y e. (omega arith, ([], refl)))

eats : {A : Type 0} (part : A → List Token) (at : List Token → Result (A × List Token) Fault) → Takes part at
    → ((x : A) → 0 < length (part x)) → (ts : List Token) (x : A × List Token) → at ts ≡ Ok x → length x.1 < length ts
eats part at takes some ts x e =
    let long = some x.0 in
    let same : length ts ≡ length (part x.0 ++ x.1) = ap length (takes ts x e) in
    omega (arith, length-append (part x.0) x.1)

pub some_local : {A : Type 0} (part : A → List Token) (at : List Token → Result (A × List Token) Fault) (l : Layout) → Takes part at
    → ((x : A) → 0 < length (part x)) → Local (separator_at l) → Local at → Local (some_at at l)
unfolding some_at
some_local part at l takes some parts one = record {
  near = λ q rest more.
      near_bind rest more (at (q ++ rest)) (at (q ++ more)) (λ x. with_front (x.0 ∷ []) (more_at at l (length (q ++ rest)) x.1))
      (λ x. with_front (x.0 ∷ []) (more_at at l (length (q ++ more)) x.1)) (one.near q rest more)
      (λ x e. (front_kept at l parts one (length (q ++ rest)) x).0) (λ x e. (front_kept at l parts one (length (q ++ more)) x).0)
      (λ x p e d.
      near_bind rest more (more_at at l (length (q ++ rest)) (p ++ rest)) (more_at at l (length (q ++ more)) (p ++ more))
      (λ y. Ok ((x ∷ []) ++ y.0, y.1)) (λ y. Ok ((x ∷ []) ++ y.0, y.1))
      (more_near part at l takes some parts one (length (q ++ rest)) (length (q ++ more)) p rest more
      (eats part at takes some (q ++ rest) (x, p ++ rest) e) (eats part at takes some (q ++ more) (x, p ++ more) d))
      (λ y r. omega arith) (λ y r. omega arith) (λ ys u r c. λ lt. (u, refl, refl)));
  keeps = λ ts. kept_bind ts (at ts) (λ x. with_front (x.0 ∷ []) (more_at at l (length ts) x.1)) (one.keeps ts)
      (λ x e. front_kept at l parts one (length ts) x);
}

never_tells : FirstTells (λ ts. false)
never_tells t us vs = refl

closes_tells : (l : Layout) → FirstTells (closes_first l)
closes_tells layouts.Parentheses = sign_tells 41
closes_tells layouts.Brackets = sign_tells 93
closes_tells layouts.Commas = never_tells
closes_tells layouts.Numbers = never_tells
closes_tells layouts.Calls = never_tells

pub list_local : {A : Type 0} (part : A → List Token) (at : List Token → Result (A × List Token) Fault) (l : Layout) → Takes part at
    → ((x : A) → 0 < length (part x)) → Local (separator_at l) → Local at → Local (list_at at l)
unfolding list_at
list_local part at l takes some parts one =
    either_local (closes_first l) (λ ts. Ok ([], drop 1 ts)) (some_at at l) (closes_tells l) (took [])
    (some_local part at l takes some parts one)

-- ---- types

bind_assoc : {A B C : Type 0} (r : Result A Fault) (g : A → Result B Fault) (h : B → Result C Fault)
    → ((r >>= g) >>= h) ≡ (r >>= λ x. g x >>= h)
bind_assoc (Ok x) g h = refl
bind_assoc (Err e) g h = refl

-- the functions in front, and what is read after them
abbrev Calls : {B : Type 0} → ℕ → (List DerivedFunc → List Token → Result (B × List Token) Fault) → List Token → Result (B × List Token) Fault
Calls n f ts = more_at (function_at wanted.Function) layouts.Calls n ts >>= λ xs. f xs.0 xs.1

calls_none : {B : Type 0} (n : ℕ) (f : List DerivedFunc → List Token → Result (B × List Token) Fault) (ts : List Token)
    → call_first ts ≡ false → Calls (suc n) f ts ≡ f [] ts
unfolding more_at
calls_none n f ts h = rw h refl

calls_wrong : {B : Type 0} (n : ℕ) (f : List DerivedFunc → List Token → Result (B × List Token) Fault) (w : List ℕ) (ts : List Token)
    → sign_first 40 ts ≡ true → function_named w ≡ None
    → Calls (suc n) f (Word w ∷ ts) ≡ Err (record { left = length (Word w ∷ ts); wanted = wanted.Function })
unfolding more_at function_at
calls_wrong n f w ts is none = rw (is, none) refl

calls_function : {B : Type 0} (n : ℕ) (f : List DerivedFunc → List Token → Result (B × List Token) Fault) (w : List ℕ) (ts : List Token)
    (x : DerivedFunc) → function_named w ≡ Some x → Calls (suc n) f (Word w ∷ Sign 40 ∷ ts) ≡ Calls n (λ xs. f (x ∷ xs)) ts
unfolding more_at function_at
calls_function n f w ts x is =
    rw is (bind_assoc (more_at (function_at wanted.Function) layouts.Calls n ts) (λ xs. Ok (x ∷ xs.0, xs.1)) (λ xs. f xs.0 xs.1))

calls_go : {B : Type 0} (n : ℕ) (f : List DerivedFunc → List Token → Result (B × List Token) Fault) (w : List ℕ) (ts : List Token)
    (x : DerivedFunc) → sign_first 40 ts ≡ true → function_named w ≡ Some x
    → Calls (suc n) f (Word w ∷ ts) ≡ Calls n (λ xs. f (x ∷ xs)) (drop 1 ts)
calls_go n f w ts x opens is =
    ap (λ (u : List Token). Calls (suc n) f (Word w ∷ u)) (sign_is 40 ts opens) ∙ calls_function n f w (drop 1 ts) x is

-- whatever is read after the functions is local, and passes a word
abbrev Passes : {B : Type 0} → (List DerivedFunc → List Token → Result (B × List Token) Fault) → Type 0
Passes f = (xs : List DerivedFunc) → Local (f xs) × ((w : List ℕ) (ts : List Token) → Shorter ts (f xs (Word w ∷ ts)))

kept_known : {B : Type 0} (n : ℕ) (f : List DerivedFunc → List Token → Result (B × List Token) Fault) → Passes f → (w : List ℕ)
    (ts : List Token) → sign_first 40 ts ≡ true → ((x : DerivedFunc) → Kept (drop 1 ts) (Calls n (λ xs. f (x ∷ xs)) (drop 1 ts)))
    → (o : Option DerivedFunc) → function_named w ≡ o → Kept (Word w ∷ ts) (Calls (suc n) f (Word w ∷ ts))
kept_known {B} n f pass w ts opens later None is =
    subst (λ (r : Result (B × List Token) Fault). Kept (Word w ∷ ts) r) (sym (calls_wrong n f w ts opens is))
    (omega arith, λ e. (Word w ∷ ts, refl, ([], refl), record { word = w; after = ts; are = refl; none = is; opens = opens }))
kept_known {B} n f pass w ts opens later (Some x) is =
    let few = drop_less ts in
    let k = later x in
    subst (λ (r : Result (B × List Token) Fault). Kept (Word w ∷ ts) r) (sym (calls_go n f w ts x opens is)) (
      longer (drop 1 ts) (Word w ∷ ts) (Calls n (λ xs. f (x ∷ xs)) (drop 1 ts)) (omega arith) k.0,
      firm_in (Word w ∷ ts) (drop 1 ts) (Calls n (λ xs. f (x ∷ xs)) (drop 1 ts))
          (further (Word w ∷ ts) ts (drop 1 ts) (Word w ∷ [], refl) (drop_after ts)) k.1,
    )

kept_word : {B : Type 0} (n : ℕ) (f : List DerivedFunc → List Token → Result (B × List Token) Fault) → Passes f → (w : List ℕ)
    (ts : List Token) → ((x : DerivedFunc) → Kept (drop 1 ts) (Calls n (λ xs. f (x ∷ xs)) (drop 1 ts)))
    → (b : Bool) → sign_first 40 ts ≡ b → Kept (Word w ∷ ts) (Calls (suc n) f (Word w ∷ ts))
kept_word n f pass w ts later true is = kept_known n f pass w ts is later (function_named w) refl
kept_word {B} n f pass w ts later false is =
    subst (λ (r : Result (B × List Token) Fault). Kept (Word w ∷ ts) r) (sym (calls_none n f (Word w ∷ ts) is))
    ((pass []).0.keeps (Word w ∷ ts))

kept_calls : {B : Type 0} (n : ℕ) (f : List DerivedFunc → List Token → Result (B × List Token) Fault) → Passes f → (ts : List Token)
    → length ts < n → Kept ts (Calls n f ts)
unfolding more_at
kept_calls zero f pass ts lt = absurd (omega arith)
kept_calls (suc n) f pass [] lt = (pass []).0.keeps []
kept_calls (suc n) f pass (Key k ∷ ts) lt = (pass []).0.keeps (Key k ∷ ts)
kept_calls (suc n) f pass (Word w ∷ ts) lt =
    let few = drop_less ts in
    kept_word n f pass w ts (λ x. kept_calls n (λ xs. f (x ∷ xs)) (λ xs. pass (x ∷ xs)) (drop 1 ts) (omega arith)) (sign_first 40 ts) refl
kept_calls (suc n) f pass (Quoted v ∷ ts) lt = (pass []).0.keeps (Quoted v ∷ ts)
kept_calls (suc n) f pass (Sign c ∷ ts) lt = (pass []).0.keeps (Sign c ∷ ts)
kept_calls (suc n) f pass (Doc d ∷ ts) lt = (pass []).0.keeps (Doc d ∷ ts)
kept_calls (suc n) f pass (Stray e ∷ ts) lt = (pass []).0.keeps (Stray e ∷ ts)

near_as : {A : Type 0} (rest more : List Token) (p q r s : Result (A × List Token) Fault) → p ≡ q → r ≡ s → Near rest more q s
    → Near rest more p r
near_as {A} rest more p q r s e d h =
    subst (λ (u : Result (A × List Token) Fault). Near rest more u r) (sym e)
    (subst (λ (u : Result (A × List Token) Fault). Near rest more q u) (sym d) h)

-- where the word is the last token that both have, and what comes after it opens a function in one of them
last_known : {B : Type 0} (n m : ℕ) (f : List DerivedFunc → List Token → Result (B × List Token) Fault) → Passes f → (w : List ℕ)
    (rest more : List Token) → length rest < n → sign_first 40 rest ≡ true → (o : Option DerivedFunc) → function_named w ≡ o
    → Near rest more (Calls (suc n) f (Word w ∷ rest)) (Calls (suc m) f (Word w ∷ more))
last_known {B} n m f pass w rest more lt opens None is =
    subst (λ (r : Result (B × List Token) Fault). Near rest more r (Calls (suc m) f (Word w ∷ more)))
    (sym (calls_wrong n f w rest opens is))
    (λ less. (
      λ c. (_, calls_wrong m f w more (c refl refl) is),
      λ d e none.
          subst (λ (r : Result (B × List Token) Fault). Shorter more r) (sym (calls_none m f (Word w ∷ more) none)) ((pass []).1 w more),
    ))
last_known {B} n m f pass w rest more lt opens (Some x) is =
    let few = drop_less rest in
    let k = kept_calls n (λ xs. f (x ∷ xs)) (λ xs. pass (x ∷ xs)) (drop 1 rest) (omega arith) in
    near_out rest more (Calls (suc n) f (Word w ∷ rest)) (Calls (suc m) f (Word w ∷ more))
    (subst (λ (r : Result (B × List Token) Fault). Shorter rest r) (sym (calls_go n f w rest x opens is))
    (longer (drop 1 rest) rest (Calls n (λ xs. f (x ∷ xs)) (drop 1 rest)) few k.0))

last_word : {B : Type 0} (n m : ℕ) (f : List DerivedFunc → List Token → Result (B × List Token) Fault) → Passes f → (w : List ℕ)
    (rest more : List Token) → length rest < n → (b : Bool) → sign_first 40 rest ≡ b
    → Near rest more (Calls (suc n) f (Word w ∷ rest)) (Calls (suc m) f (Word w ∷ more))
last_word n m f pass w rest more lt true is = last_known n m f pass w rest more lt is (function_named w) refl
last_word {B} n m f pass w rest more lt false is =
    near_out rest more (Calls (suc n) f (Word w ∷ rest)) (Calls (suc m) f (Word w ∷ more))
    (subst (λ (r : Result (B × List Token) Fault). Shorter rest r) (sym (calls_none n f (Word w ∷ rest) is)) ((pass []).1 w rest))

-- where both have a token after the word
both_known : {B : Type 0} (n m : ℕ) (f : List DerivedFunc → List Token → Result (B × List Token) Fault) → (w : List ℕ) (t : Token)
    (q rest more : List Token) → ((us : List Token) → sign_first 40 (t ∷ us) ≡ true)
    → ((x : DerivedFunc) → Near rest more (Calls n (λ xs. f (x ∷ xs)) (q ++ rest)) (Calls m (λ xs. f (x ∷ xs)) (q ++ more)))
    → (o : Option DerivedFunc) → function_named w ≡ o
    → Near rest more (Calls (suc n) f (Word w ∷ t ∷ (q ++ rest))) (Calls (suc m) f (Word w ∷ t ∷ (q ++ more)))
both_known n m f w t q rest more opens later None is =
    near_as rest more _ _ _ _ (calls_wrong n f w (t ∷ (q ++ rest)) (opens (q ++ rest)) is)
    (calls_wrong m f w (t ∷ (q ++ more)) (opens (q ++ more)) is)
    (λ less. (λ c. (_, refl), λ d e none. absurd (omega (arith, length-append q rest))))
both_known n m f w t q rest more opens later (Some x) is =
    near_as rest more _ _ _ _ (calls_go n f w (t ∷ (q ++ rest)) x (opens (q ++ rest)) is)
    (calls_go m f w (t ∷ (q ++ more)) x (opens (q ++ more)) is) (later x)

both_word : {B : Type 0} (n m : ℕ) (f : List DerivedFunc → List Token → Result (B × List Token) Fault) → Passes f → (w : List ℕ) (t : Token)
    (q rest more : List Token)
    → ((x : DerivedFunc) → Near rest more (Calls n (λ xs. f (x ∷ xs)) (q ++ rest)) (Calls m (λ xs. f (x ∷ xs)) (q ++ more)))
    → (b : Bool) → sign_first 40 (t ∷ []) ≡ b
    → Near rest more (Calls (suc n) f (Word w ∷ t ∷ (q ++ rest))) (Calls (suc m) f (Word w ∷ t ∷ (q ++ more)))
both_word n m f pass w t q rest more later true is =
    both_known n m f w t q rest more (λ us. sign_tells 40 t us [] ∙ is) later (function_named w) refl
both_word n m f pass w t q rest more later false is =
    near_as rest more _ _ _ _ (calls_none n f (Word w ∷ t ∷ (q ++ rest)) (sign_tells 40 t (q ++ rest) [] ∙ is))
    (calls_none m f (Word w ∷ t ∷ (q ++ more)) (sign_tells 40 t (q ++ more) [] ∙ is)) ((pass []).0.near (Word w ∷ t ∷ q) rest more)

near_calls : {B : Type 0} (n m : ℕ) (f : List DerivedFunc → List Token → Result (B × List Token) Fault) → Passes f
    → (q rest more : List Token) → length (q ++ rest) < n → length (q ++ more) < m
    → Near rest more (Calls n f (q ++ rest)) (Calls m f (q ++ more))
unfolding more_at
near_calls zero m f pass q rest more lt less = absurd (omega arith)
near_calls (suc n) zero f pass q rest more lt less = absurd (omega arith)
near_calls (suc n) (suc m) f pass [] rest more lt less =
    near_out rest more (Calls (suc n) f rest) (Calls (suc m) f more) (kept_calls (suc n) f pass rest lt).0
near_calls (suc n) (suc m) f pass (Key k ∷ q) rest more lt less = (pass []).0.near (Key k ∷ q) rest more
near_calls (suc n) (suc m) f pass (Word w ∷ []) rest more lt less =
    last_word n m f pass w rest more (omega arith) (sign_first 40 rest) refl
near_calls (suc n) (suc m) f pass (Word w ∷ t ∷ q) rest more lt less =
    both_word n m f pass w t q rest more
    (λ x. near_calls n m (λ xs. f (x ∷ xs)) (λ xs. pass (x ∷ xs)) q rest more (omega arith) (omega arith)) (sign_first 40 (t ∷ [])) refl
near_calls (suc n) (suc m) f pass (Quoted v ∷ q) rest more lt less = (pass []).0.near (Quoted v ∷ q) rest more
near_calls (suc n) (suc m) f pass (Sign c ∷ q) rest more lt less = (pass []).0.near (Sign c ∷ q) rest more
near_calls (suc n) (suc m) f pass (Doc d ∷ q) rest more lt less = (pass []).0.near (Doc d ∷ q) rest more
near_calls (suc n) (suc m) f pass (Stray e ∷ q) rest more lt less = (pass []).0.near (Stray e ∷ q) rest more

-- `)` as many times as this, and what is read after them
closed_local : {B : Type 0} (n : ℕ) (f : List Token → Result (B × List Token) Fault) → Local f → Local (λ ts. closed_at n ts >>= f)
unfolding closed_at
closed_local zero f later = later
closed_local (suc n) f later =
    local_as (λ ts. sign_or_at (wanted.Sign 41) 41 ts >>= λ after. closed_at n after >>= f) (λ ts. closed_at (suc n) ts >>= f)
    (λ ts. bind_assoc (sign_or_at (wanted.Sign 41) 41 ts) (λ after. closed_at n after) f)
    (sign_local (wanted.Sign 41) 41 (λ after. closed_at n after >>= f) (λ e. absurd cc) (closed_local n f later))

-- a type after its functions
abbrev Rest : List DerivedFunc → List Token → Result (TypeExpr × List Token) Fault
Rest fs ts = word_at wanted.Type ts >>= λ w. closed_at (length fs) w.1 >>= λ after. Ok (record { functions = fs; word = w.0 }, after)

made_type : (fs : List DerivedFunc) (w : List ℕ)
    → Local {A = TypeExpr} (λ ts. closed_at (length fs) ts >>= λ after. Ok (record { functions = fs; word = w }, after))
made_type fs w = closed_local (length fs) (λ after. Ok (record { functions = fs; word = w }, after)) (ok_local _)

rest_passes : Passes Rest
rest_passes fs = (
  local_bind (word_at wanted.Type) (λ w. closed_at (length fs) w.1 >>= λ after. Ok (record { functions = fs; word = w.0 }, after))
      (word_local wanted.Type (λ e. absurd cc)) (made_type fs),
  λ w ts. ((made_type fs w).keeps ts).0,
)

abbrev function_some : Result (DerivedFunc × List Token) Fault → Result (Option DerivedFunc × List Token) Fault
function_some r = r >>= λ x. Ok (Some x.0, x.1)

first_call : (l : ℕ) (r : Result (DerivedFunc × List Token) Fault)
    → (r >>= λ x. with_front (x.0 ∷ []) (more_at (function_at wanted.Function) layouts.Calls l x.1))
    ≡ (function_some r >>= λ x. with_step x.0 x.1 (more_at (function_at wanted.Function) layouts.Calls l x.1))
first_call l (Ok x) = refl
first_call l (Err f) = refl

calls_by : (ts : List Token) (b : Bool)
    → cond b (some_at (function_at wanted.Function) layouts.Calls ts) (Ok ([], ts))
    ≡ (part_after (function_at wanted.Function) b ts
    >>= λ x. with_step x.0 x.1 (more_at (function_at wanted.Function) layouts.Calls (length ts) x.1))
unfolding some_at
calls_by ts true = first_call (length ts) (function_at wanted.Function ts)
calls_by ts false = refl

calls_as : (ts : List Token) → calls_at ts ≡ more_at (function_at wanted.Function) layouts.Calls (suc (length ts)) ts
unfolding calls_at more_at
calls_as ts = calls_by ts (call_first ts)

type_as : (ts : List Token) → type_at ts ≡ Calls (suc (length ts)) Rest ts
unfolding type_at
type_as ts = ap (λ (r : Result (List DerivedFunc × List Token) Fault). r >>= λ fs. Rest fs.0 fs.1) (calls_as ts)

pub type_local : Local type_at
type_local = record {
  near = λ q rest more. near_as rest more _ _ _ _ (type_as (q ++ rest)) (type_as (q ++ more))
      (near_calls (suc (length (q ++ rest))) (suc (length (q ++ more))) Rest rest_passes q rest more (omega arith) (omega arith));
  keeps = λ ts. subst (λ (r : Result (TypeExpr × List Token) Fault). Kept ts r) (sym (type_as ts))
      (kept_calls (suc (length ts)) Rest rest_passes ts (omega arith));
}
