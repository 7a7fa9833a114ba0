-- What stands before a fault begins what is read: parts, lists and types.
use Rattle.std.proofs.Common.{◌≡◌, ◌∙◌, ℕ, zero, suc, Bool, true, false, cond, List, [], ◌∷◌, ◌++◌, length, drop, Option, Some, None}
use Rattle.std.proofs.Common.{Result, Ok, Err, refl, sym, ap, append_assoc, append-nil, codes}
use Rattle.std.specs.Prelude.{◌==◌}
use Rattle.meta_file_syntax.specs.declared.token.Token.{Token}
use Rattle.meta_file_syntax.specs.declared.token.Token.TheVariants.{Key, Word, Quoted, Sign, Doc, Stray}
use Rattle.meta_file_syntax.specs.declared.name.Name.{Name}
use Rattle.meta_types.specs.declared.derived_func.DerivedFunc.{DerivedFunc}
use Rattle.meta_types.specs.declared.derived_func.DerivedFunc.TheVariants as functions
use Rattle.meta_file_syntax.specs.declared.types.TypeExpr.{TypeExpr}
use Rattle.meta_file_syntax.specs.Spelling.{name, each_after, comma, listed, called, closed, type_expr}
use Rattle.meta_file_syntax.specs.Words.{function_text, function_named}
use Rattle.meta_file_reader.specs.declared.fault.Fault.{Fault}
use Rattle.meta_file_reader.specs.declared.fault.Wanted.{Wanted}
use Rattle.meta_file_reader.specs.declared.fault.Wanted.TheVariants as wanted
use Rattle.meta_file_reader.specs.declared.lists.Layout.{Layout}
use Rattle.meta_file_reader.specs.declared.lists.Layout.TheVariants as layouts
use Rattle.meta_file_reader.specs.Parts.{◌>>=◌, wants, name_at, word_at, text_at, sign_or_at, chosen_by, chosen_at, sign_first}
use Rattle.meta_file_reader.specs.Parts.{call_first}
use Rattle.meta_file_reader.specs.Lists.{comma_or, separator_at, part_after, step_at, with_step, more_at, with_front, some_at}
use Rattle.meta_file_reader.specs.Lists.{closes_first, list_at}
use Rattle.meta_file_reader.specs.Fits.{Every}
use Rattle.meta_file_reader.specs.SetReading.{function_at, calls_at, closed_at, type_at}
use Rattle.meta_file_reader.proofs.PartLaws.{name_takes, word_takes, text_takes, sign_takes, chosen_takes}
use Rattle.meta_file_reader.proofs.ListLaws.{separator, closing, Takes, Parted, separator_takes, StepTaken, step_takes}
use Rattle.meta_file_reader.proofs.FitLaws.{Gets, OneGood, step_good}
use Rattle.meta_file_reader.proofs.TypeLaws.{function_is, function_takes, calls_takes}

-- these tokens are the first of such a part
abbrev pub Starts : {A : Type 0} → (A → List Token) → (A → Type 0) → List Token → Type 0
Starts {A} part good d = (x : A) × (more : List Token) × good x × (part x ≡ d ++ more)

-- this count of tokens is left after such
abbrev pub Before : (List Token → Type 0) → List Token → ℕ → Type 0
Before P ts left = (d : List Token) × (rest : List Token) × (ts ≡ d ++ rest) × (length rest ≡ left) × P d

-- what stands before a fault is such
abbrev pub Told : {A : Type 0} → (List Token → Type 0) → List Token → Result A Fault → Type 0
Told P ts (Ok x) = Unit {0}
Told P ts (Err f) = Before P ts f.left

-- what stands before a fault of the reader begins a part
abbrev pub Begins : {A : Type 0} → (A → List Token) → (A → Type 0) → (List Token → Result (A × List Token) Fault) → Type 0
Begins part good at = (ts : List Token) → Told (Starts part good) ts (at ts)

abbrev pub Any : {A : Type 0} → A → Type 0
Any x = Unit {0}

pub at_front : (P : List Token → Type 0) (ts : List Token) → P [] → Before P ts (length ts)
at_front P ts p = ([], ts, refl, refl, p)

pub told_as : {A : Type 0} (P Q : List Token → Type 0) (ts : List Token) (r : Result A Fault) → ((d : List Token) → P d → Q d)
    → Told P ts r → Told Q ts r
told_as P Q ts (Ok x) h t = tt
told_as P Q ts (Err f) h t = (t.0, t.1, t.2, t.3, h t.0 t.4)

pub told_after : {A : Type 0} (P : List Token → Type 0) (front rest ts : List Token) (r : Result A Fault) → ts ≡ front ++ rest
    → Told (λ d. P (front ++ d)) rest r → Told P ts r
told_after P front rest ts (Ok x) e t = tt
told_after P front rest ts (Err f) e t =
    (front ++ t.0, t.1, e ∙ ap (λ (u : List Token). front ++ u) t.2 ∙ sym (append_assoc front t.0 t.1), t.3, t.4)

pub told_bind : {A B : Type 0} (P : List Token → Type 0) (ts : List Token) (r : Result A Fault) (f : A → Result B Fault) → Told P ts r
    → ((x : A) → r ≡ Ok x → Told P ts (f x)) → Told P ts (r >>= f)
told_bind P ts (Ok x) f h g = g x refl
told_bind P ts (Err e) f h g = h

-- a part, and what is read after it
pub told_part : {A B : Type 0} (P : List Token → Type 0) (part : A → List Token) (good : A → Type 0)
    (at : List Token → Result (A × List Token) Fault) (ts : List Token) (f : A × List Token → Result (B × List Token) Fault)
    → Takes part at → Begins part good at → ((d : List Token) → Starts part good d → P d)
    → ((x : A × List Token) → at ts ≡ Ok x → Told (λ d. P (part x.0 ++ d)) x.1 (f x)) → Told P ts (at ts >>= f)
told_part P part good at ts f takes begins h g =
    told_bind P ts (at ts) f (told_as (Starts part good) P ts (at ts) h (begins ts))
    (λ x e. told_after P (part x.0) x.1 ts (f x) (takes ts x e) (g x e))

-- a part after which nothing fails
pub told_last : {A B : Type 0} (P : List Token → Type 0) (part : A → List Token) (good : A → Type 0)
    (at : List Token → Result (A × List Token) Fault) (ts : List Token) (f : A × List Token → B)
    → Begins part good at → ((d : List Token) → Starts part good d → P d) → Told P ts (at ts >>= λ x. Ok (f x))
told_last P part good at ts f begins h =
    told_bind P ts (at ts) (λ x. Ok (f x)) (told_as (Starts part good) P ts (at ts) h (begins ts)) (λ x e. tt)

-- with more after it, or before
pub with_tail : (a d m tail : List Token) → a ≡ d ++ m → a ++ tail ≡ d ++ (m ++ tail)
with_tail a d m tail e = ap (λ (u : List Token). u ++ tail) e ∙ append_assoc d m tail

pub with_front_of : (a b d m : List Token) → b ≡ d ++ m → a ++ b ≡ (a ++ d) ++ m
with_front_of a b d m e = ap (λ (u : List Token). a ++ u) e ∙ sym (append_assoc a d m)

-- ---- single tokens

pub name_told : (P : List Token → Type 0) (w : Wanted) (ts : List Token) → P [] → Told P ts (name_at w ts)
name_told P w [] p = at_front P [] p
name_told P w (Key k ∷ ts) p = at_front P (Key k ∷ ts) p
name_told P w (Word v ∷ ts) p = tt
name_told P w (Quoted t ∷ ts) p = tt
name_told P w (Sign c ∷ ts) p = at_front P (Sign c ∷ ts) p
name_told P w (Doc d ∷ ts) p = at_front P (Doc d ∷ ts) p
name_told P w (Stray f ∷ ts) p = at_front P (Stray f ∷ ts) p

pub word_told : (P : List Token → Type 0) (w : Wanted) (ts : List Token) → P [] → Told P ts (word_at w ts)
word_told P w [] p = at_front P [] p
word_told P w (Key k ∷ ts) p = at_front P (Key k ∷ ts) p
word_told P w (Word v ∷ ts) p = tt
word_told P w (Quoted t ∷ ts) p = at_front P (Quoted t ∷ ts) p
word_told P w (Sign c ∷ ts) p = at_front P (Sign c ∷ ts) p
word_told P w (Doc d ∷ ts) p = at_front P (Doc d ∷ ts) p
word_told P w (Stray f ∷ ts) p = at_front P (Stray f ∷ ts) p

pub text_told : (P : List Token → Type 0) (ts : List Token) → P [] → Told P ts (text_at ts)
text_told P [] p = at_front P [] p
text_told P (Key k ∷ ts) p = at_front P (Key k ∷ ts) p
text_told P (Word v ∷ ts) p = at_front P (Word v ∷ ts) p
text_told P (Quoted t ∷ ts) p = tt
text_told P (Sign c ∷ ts) p = at_front P (Sign c ∷ ts) p
text_told P (Doc d ∷ ts) p = at_front P (Doc d ∷ ts) p
text_told P (Stray f ∷ ts) p = at_front P (Stray f ∷ ts) p

sign_by : (P : List Token → Type 0) (w : Wanted) (c : ℕ) (ts : List Token) (b : Bool) → P []
    → Told P (Sign c ∷ ts) (cond b (Ok ts) (wants w (Sign c ∷ ts)))
sign_by P w c ts true p = tt
sign_by P w c ts false p = at_front P (Sign c ∷ ts) p

sign_told : (P : List Token → Type 0) (w : Wanted) (s : ℕ) (ts : List Token) → P [] → Told P ts (sign_or_at w s ts)
sign_told P w s [] p = at_front P [] p
sign_told P w s (Key k ∷ ts) p = at_front P (Key k ∷ ts) p
sign_told P w s (Word v ∷ ts) p = at_front P (Word v ∷ ts) p
sign_told P w s (Quoted t ∷ ts) p = at_front P (Quoted t ∷ ts) p
sign_told P w s (Sign c ∷ ts) p = sign_by P w c ts (c == s) p
sign_told P w s (Doc d ∷ ts) p = at_front P (Doc d ∷ ts) p
sign_told P w s (Stray f ∷ ts) p = at_front P (Stray f ∷ ts) p

chosen_word : {A : Type 0} (P : List Token → Type 0) (w : Wanted) (o : Option A) (v : List ℕ) (ts : List Token) → P []
    → Told P (Word v ∷ ts) (chosen_by w o v ts)
chosen_word P w None v ts p = at_front P (Word v ∷ ts) p
chosen_word P w (Some x) v ts p = tt

pub chosen_told : {A : Type 0} (P : List Token → Type 0) (w : Wanted) (meaning : List ℕ → Option A) (ts : List Token) → P []
    → Told P ts (chosen_at w meaning ts)
chosen_told P w meaning [] p = at_front P [] p
chosen_told P w meaning (Key k ∷ ts) p = at_front P (Key k ∷ ts) p
chosen_told P w meaning (Word v ∷ ts) p = chosen_word P w (meaning v) v ts p
chosen_told P w meaning (Quoted t ∷ ts) p = at_front P (Quoted t ∷ ts) p
chosen_told P w meaning (Sign c ∷ ts) p = at_front P (Sign c ∷ ts) p
chosen_told P w meaning (Doc d ∷ ts) p = at_front P (Doc d ∷ ts) p
chosen_told P w meaning (Stray f ∷ ts) p = at_front P (Stray f ∷ ts) p

-- and what is read after them
pub told_name : {B : Type 0} (P : List Token → Type 0) (w : Wanted) (ts : List Token) (f : Name × List Token → Result B Fault) → P []
    → ((x : Name × List Token) → Told (λ d. P (name x.0 ∷ d)) x.1 (f x)) → Told P ts (name_at w ts >>= f)
told_name P w ts f p g =
    told_bind P ts (name_at w ts) f (name_told P w ts p)
    (λ x e. told_after P (name x.0 ∷ []) x.1 ts (f x) (name_takes w ts x e) (g x))

pub told_word : {B : Type 0} (P : List Token → Type 0) (w : Wanted) (ts : List Token) (f : List ℕ × List Token → Result B Fault) → P []
    → ((x : List ℕ × List Token) → Told (λ d. P (Word x.0 ∷ d)) x.1 (f x)) → Told P ts (word_at w ts >>= f)
told_word P w ts f p g =
    told_bind P ts (word_at w ts) f (word_told P w ts p)
    (λ x e. told_after P (Word x.0 ∷ []) x.1 ts (f x) (word_takes w ts x e) (g x))

pub told_text : {B : Type 0} (P : List Token → Type 0) (ts : List Token) (f : List ℕ × List Token → Result B Fault) → P []
    → ((x : List ℕ × List Token) → Told (λ d. P (Quoted x.0 ∷ d)) x.1 (f x)) → Told P ts (text_at ts >>= f)
told_text P ts f p g =
    told_bind P ts (text_at ts) f (text_told P ts p)
    (λ x e. told_after P (Quoted x.0 ∷ []) x.1 ts (f x) (text_takes ts x e) (g x))

pub told_sign : {B : Type 0} (P : List Token → Type 0) (w : Wanted) (s : ℕ) (ts : List Token) (f : List Token → Result B Fault) → P []
    → ((rest : List Token) → Told (λ d. P (Sign s ∷ d)) rest (f rest)) → Told P ts (sign_or_at w s ts >>= f)
told_sign P w s ts f p g =
    told_bind P ts (sign_or_at w s ts) f (sign_told P w s ts p)
    (λ rest e. told_after P (Sign s ∷ []) rest ts (f rest) (sign_takes w s ts rest e) (g rest))

-- ---- lists

comma_by : (P : List Token → Type 0) (w : Wanted) (c : ℕ) (ts : List Token) (p q : Bool) → P []
    → Told {A = Bool × List Token} P (Sign c ∷ ts) (cond p (Ok (false, ts)) (cond q (Ok (true, ts)) (wants w (Sign c ∷ ts))))
comma_by P w c ts true q h = tt
comma_by P w c ts false true h = tt
comma_by P w c ts false false h = at_front P (Sign c ∷ ts) h

comma_told : (P : List Token → Type 0) (s : ℕ) (w : Wanted) (ts : List Token) → P [] → Told P ts (comma_or s w ts)
comma_told P s w [] p = at_front P [] p
comma_told P s w (Key k ∷ ts) p = at_front P (Key k ∷ ts) p
comma_told P s w (Word v ∷ ts) p = at_front P (Word v ∷ ts) p
comma_told P s w (Quoted t ∷ ts) p = at_front P (Quoted t ∷ ts) p
comma_told P s w (Sign c ∷ ts) p = comma_by P w c ts (c == s) (c == 44) p
comma_told P s w (Doc d ∷ ts) p = at_front P (Doc d ∷ ts) p
comma_told P s w (Stray f ∷ ts) p = at_front P (Stray f ∷ ts) p

no_fault : (P : List Token → Type 0) (ts : List Token) (b : Bool)
    → Told {A = Bool × List Token} P ts (cond b (Ok (true, drop 1 ts)) (Ok (false, ts)))
no_fault P ts true = tt
no_fault P ts false = tt

separator_told : (P : List Token → Type 0) (l : Layout) (ts : List Token) → P [] → Told P ts (separator_at l ts)
separator_told P layouts.Parentheses ts p = comma_told P 41 wanted.CommaOrClose ts p
separator_told P layouts.Brackets ts p = comma_told P 93 wanted.CommaOrBracket ts p
separator_told P layouts.Commas ts p = no_fault P ts (sign_first 44 ts)
separator_told P layouts.Numbers ts p = tt
separator_told P layouts.Calls ts p = tt

-- what begins the parts of a list after one
abbrev More : {A : Type 0} → (A → List Token) → (A → Type 0) → Layout → (List Token → Type 0) → Type 0
More {A} part good l P = (ys : List A) (d more : List Token) → Every good ys
    → each_after (separator l) part ys ++ closing l ≡ d ++ more → P d

part_told : {A : Type 0} (part : A → List Token) (good : A → Type 0) (at : List Token → Result (A × List Token) Fault) (l : Layout)
    → Begins part good at → (P : List Token → Type 0) → More part good l P → (ts : List Token) (s : Bool) (rest : List Token)
    → Parted (separator l) (closing l) ts (s, rest) → Told P ts (part_after at s rest)
part_told {A} part good at l begins P h ts true rest parted =
    told_after P (separator l) rest ts (at rest >>= λ y. Ok (Some y.0, y.1)) parted
    (told_last (λ d. P (separator l ++ d)) part good at rest (λ y. (Some y.0, y.1)) begins
    (λ d s. h (s.0 ∷ []) (separator l ++ d) (s.1 ++ closing l) (s.2, tt)
    (append_assoc (separator l) (part s.0 ++ []) (closing l)
    ∙ with_front_of (separator l) ((part s.0 ++ []) ++ closing l) d (s.1 ++ closing l)
    (ap (λ (u : List Token). u ++ closing l) (append-nil (part s.0)) ∙ with_tail (part s.0) d s.1 (closing l) s.3))))
part_told part good at l begins P h ts false rest parted = tt

step_told : {A : Type 0} (part : A → List Token) (good : A → Type 0) (at : List Token → Result (A × List Token) Fault) (l : Layout)
    → Begins part good at → (P : List Token → Type 0) → More part good l P → (ts : List Token) → Told P ts (step_at at l ts)
step_told part good at l begins P h ts =
    told_bind P ts (separator_at l ts) (λ s. part_after at s.0 s.1)
    (separator_told P l ts (h [] [] (closing l) tt refl))
    (λ s e. part_told part good at l begins P h ts s.0 s.1 (separator_takes l ts s e))

then_told : {A : Type 0} (part : A → List Token) (good : A → Type 0) (l : Layout) (P : List Token → Type 0) (ts : List Token) (o : Option A)
    (r : List Token) (later : Result (List A × List Token) Fault) → OneGood good (o, r) → StepTaken part l ts (o, r)
    → ((y : A) → good y → Told (λ d. P ((separator l ++ part y) ++ d)) r later) → Told P ts (with_step o r later)
then_told part good l P ts None r later one taken g = tt
then_told part good l P ts (Some y) r later one taken g =
    told_after P (separator l ++ part y) r ts (later >>= λ xs. Ok (y ∷ xs.0, xs.1))
    (taken ∙ sym (append_assoc (separator l) (part y) r))
    (told_bind (λ d. P ((separator l ++ part y) ++ d)) r later (λ xs. Ok (y ∷ xs.0, xs.1)) (g y one) (λ x e. tt))

more_told : {A : Type 0} (part : A → List Token) (good : A → Type 0) (at : List Token → Result (A × List Token) Fault) (l : Layout)
    → Takes part at → Gets good at → Begins part good at → (n : ℕ) (P : List Token → Type 0) → More part good l P → (ts : List Token)
    → Told P ts (more_at at l n ts)
unfolding more_at
more_told part good at l takes gets begins zero P h ts = at_front P ts (h [] [] (closing l) tt refl)
more_told part good at l takes gets begins (suc n) P h ts =
    told_bind P ts (step_at at l ts) (λ x. with_step x.0 x.1 (more_at at l n x.1)) (step_told part good at l begins P h ts)
    (λ x e. then_told part good l P ts x.0 x.1 (more_at at l n x.1) (step_good good at l gets ts x e) (step_takes part at l takes ts x e)
    (λ y g. more_told part good at l takes gets begins n (λ d. P ((separator l ++ part y) ++ d))
    (λ ys d more all w. h (y ∷ ys) ((separator l ++ part y) ++ d) more (g, all)
    (append_assoc (separator l) (part y ++ each_after (separator l) part ys) (closing l)
    ∙ ap (λ (u : List Token). separator l ++ u) (append_assoc (part y) (each_after (separator l) part ys) (closing l))
    ∙ sym (append_assoc (separator l) (part y) (each_after (separator l) part ys ++ closing l))
    ∙ with_front_of (separator l ++ part y) (each_after (separator l) part ys ++ closing l) d more w)) x.1))

-- a list of one part and more, of which the first is told of alone
pub some_told_by : {A : Type 0} (part : A → List Token) (good first : A → Type 0) (at : List Token → Result (A × List Token) Fault)
    (l : Layout) → Takes part at → Gets good at → Begins part good at → (P : List Token → Type 0) (ts : List Token)
    → Told (Starts part first) ts (at ts) → ((x : A × List Token) → at ts ≡ Ok x → first x.0)
    → ((x : A) (xs : List A) (d more : List Token) → first x → Every good xs
    → part x ++ (each_after (separator l) part xs ++ closing l) ≡ d ++ more → P d) → Told P ts (some_at at l ts)
unfolding some_at
some_told_by part good first at l takes gets begins P ts front is h =
    told_bind P ts (at ts) (λ x. with_front (x.0 ∷ []) (more_at at l (length ts) x.1))
    (told_as (Starts part first) P ts (at ts)
    (λ d s. h s.0 [] d (s.1 ++ closing l) s.2 tt (with_tail (part s.0) d s.1 (closing l) s.3)) front)
    (λ x e. told_after P (part x.0) x.1 ts (with_front (x.0 ∷ []) (more_at at l (length ts) x.1)) (takes ts x e)
    (told_bind (λ d. P (part x.0 ++ d)) x.1 (more_at at l (length ts) x.1) (λ y. Ok ((x.0 ∷ []) ++ y.0, y.1))
    (more_told part good at l takes gets begins (length ts) (λ d. P (part x.0 ++ d))
    (λ ys d more all w. h x.0 ys (part x.0 ++ d) more (is x e) all
    (with_front_of (part x.0) (each_after (separator l) part ys ++ closing l) d more w)) x.1)
    (λ y r. tt)))

-- what begins a list of one part and more
abbrev pub SomeBegin : {A : Type 0} → (A → List Token) → (A → Type 0) → Layout → (List Token → Type 0) → Type 0
SomeBegin {A} part good l P = (x : A) (xs : List A) (d more : List Token) → Every good (x ∷ xs)
    → part x ++ (each_after (separator l) part xs ++ closing l) ≡ d ++ more → P d

pub some_told : {A : Type 0} (part : A → List Token) (good : A → Type 0) (at : List Token → Result (A × List Token) Fault) (l : Layout)
    → Takes part at → Gets good at → Begins part good at → (P : List Token → Type 0) → SomeBegin part good l P → (ts : List Token)
    → Told P ts (some_at at l ts)
some_told part good at l takes gets begins P h ts =
    some_told_by part good good at l takes gets begins P ts (begins ts) (gets ts) (λ x xs d more one all w. h x xs d more (one, all) w)

-- what begins a list between two signs
abbrev pub ListBegins : {A : Type 0} → (A → List Token) → (A → Type 0) → Layout → (List Token → Type 0) → Type 0
ListBegins {A} part good l P = (xs : List A) (d more : List Token) → Every good xs → listed part xs ++ closing l ≡ d ++ more → P d

list_by : {A : Type 0} (part : A → List Token) (good : A → Type 0) (at : List Token → Result (A × List Token) Fault) (l : Layout)
    → Takes part at → Gets good at → Begins part good at → separator l ≡ comma → (P : List Token → Type 0) → ListBegins part good l P
    → (ts : List Token) (b : Bool) → Told P ts (cond b (Ok ([], drop 1 ts)) (some_at at l ts))
list_by part good at l takes gets begins commas P h ts true = tt
list_by part good at l takes gets begins commas P h ts false =
    some_told part good at l takes gets begins P
    (λ x xs d more all w. h (x ∷ xs) d more all
    (append_assoc (part x) (each_after comma part xs) (closing l)
    ∙ ap (λ (u : List Token). part x ++ (each_after u part xs ++ closing l)) (sym commas) ∙ w)) ts

pub list_told : {A : Type 0} (part : A → List Token) (good : A → Type 0) (at : List Token → Result (A × List Token) Fault) (l : Layout)
    → Takes part at → Gets good at → Begins part good at → separator l ≡ comma → (P : List Token → Type 0) → ListBegins part good l P
    → (ts : List Token) → Told P ts (list_at at l ts)
unfolding list_at
list_told part good at l takes gets begins commas P h ts =
    list_by part good at l takes gets begins commas P h ts (closes_first l ts)

-- ---- types

function_told : (w : Wanted) → Begins called Any (function_at w)
unfolding function_at
function_told w ts =
    told_bind (Starts called Any) ts (chosen_at w function_named ts) _
    (chosen_told (Starts called Any) w function_named ts (functions.LaneOf, called functions.LaneOf, tt, refl))
    (λ x e. told_after (Starts called Any) (Word (function_text x.0) ∷ []) x.1 ts _
    (chosen_takes w function_named function_text function_is ts x e)
    (told_sign (λ d. Starts called Any (Word (function_text x.0) ∷ d)) (wanted.Sign 40) 40 x.1 _ (x.0, Sign 40 ∷ [], tt, refl) (λ r. tt)))

pub with_nil : (a b d m : List Token) → a ++ (b ++ []) ≡ d ++ m → a ++ b ≡ d ++ m
with_nil a b d m e = ap (λ (u : List Token). a ++ u) (sym (append-nil b)) ∙ e

abbrev a_type : List DerivedFunc → TypeExpr
a_type fs = record { functions = fs; word = codes "i32" }

calls_by : (ts : List Token) (b : Bool)
    → Told (Starts type_expr Any) ts (cond b (some_at (function_at wanted.Function) layouts.Calls ts) (Ok ([], ts)))
calls_by ts true =
    some_told called Any (function_at wanted.Function) layouts.Calls (function_takes wanted.Function) (λ us x e. tt)
    (function_told wanted.Function) (Starts type_expr Any)
    (λ f fs d more all w. (
      a_type (f ∷ fs),
      more ++ Word (codes "i32") ∷ closed (f ∷ fs),
      tt,
      with_tail (called f ++ each_after [] called fs) d more (Word (codes "i32") ∷ closed (f ∷ fs))
          (with_nil (called f) (each_after [] called fs) d more w),
    )) ts
calls_by ts false = tt

calls_told : (ts : List Token) → Told (Starts type_expr Any) ts (calls_at ts)
unfolding calls_at
calls_told ts = calls_by ts (call_first ts)

closed_told : (fs : List DerivedFunc) (P : List Token → Type 0) (ts : List Token) → ((d more : List Token) → closed fs ≡ d ++ more → P d)
    → Told P ts (closed_at (length fs) ts)
unfolding closed_at
closed_told [] P ts h = tt
closed_told (f ∷ fs) P ts h =
    told_sign P (wanted.Sign 41) 41 ts (λ after. closed_at (length fs) after) (h [] (closed (f ∷ fs)) refl)
    (λ rest. closed_told fs (λ d. P (Sign 41 ∷ d)) rest (λ d more e. h (Sign 41 ∷ d) more (ap (λ (u : List Token). Sign 41 ∷ u) e)))

pub type_told : Begins type_expr Any type_at
unfolding type_at
type_told ts =
    told_bind (Starts type_expr Any) ts (calls_at ts) _ (calls_told ts)
    (λ fs e. told_after (Starts type_expr Any) (each_after [] called fs.0) fs.1 ts _ (calls_takes ts fs e)
    (told_word (λ d. Starts type_expr Any (each_after [] called fs.0 ++ d)) wanted.Type fs.1 _ (
      a_type fs.0,
      Word (codes "i32") ∷ closed fs.0,
      tt,
      sym (append_assoc (each_after [] called fs.0) [] (Word (codes "i32") ∷ closed fs.0)),
    )
    (λ w. told_bind (λ d. Starts type_expr Any (each_after [] called fs.0 ++ Word w.0 ∷ d)) w.1 (closed_at (length fs.0) w.1) _
    (closed_told fs.0 (λ d. Starts type_expr Any (each_after [] called fs.0 ++ Word w.0 ∷ d)) w.1
    (λ d more c. (
      record { functions = fs.0; word = w.0 },
      more,
      tt,
      with_front_of (each_after [] called fs.0) (Word w.0 ∷ closed fs.0) (Word w.0 ∷ d) more (ap (λ (u : List Token). Word w.0 ∷ u) c),
    )))
    (λ r c. tt))))
