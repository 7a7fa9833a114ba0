-- Reading parts of items off tokens, with the first thing that is missing.
use Rattle.std.specs.Prelude.{◌≡◌, ℕ, zero, suc, ◌+◌, ◌==◌, nat_le, ◌&&◌, Bool, true, false, List, [], ◌∷◌, length, Option}
use Rattle.std.specs.Prelude.{Some, None}
use Rattle.std.specs.Prelude.{Result, Ok, Err, codes, if◌then◌else◌}
use Rattle.std.specs.Cmp.Lexicographic.{pointwise}
use Rattle.std.specs.Fmt.{decimal}
use Rattle.meta_file_syntax.specs.declared.token.Token.{Token}
use Rattle.meta_file_syntax.specs.declared.token.Token.TheVariants.{Key, Word, Quoted, Sign, Doc, Stray}
use Rattle.meta_file_syntax.specs.declared.name.Name.{Name}
use Rattle.meta_file_syntax.specs.declared.name.Name.TheVariants as names
use Rattle.meta_file_reader.specs.declared.fault.Fault.{Fault}
use Rattle.meta_file_reader.specs.declared.fault.Wanted.{Wanted}
use Rattle.meta_file_reader.specs.declared.fault.Wanted.TheVariants as wanted
use Rattle.meta_file_reader.specs.declared.fault.PartError.{PartError}
use Rattle.meta_file_reader.specs.declared.fault.PartError.TheVariants as errors

infixl 10 ◌>>=◌
abbrev pub ◌>>=◌ : {A B : Type 0} → Result A Fault → (A → Result B Fault) → Result B Fault
(Ok x) >>= f = f x
(Err e) >>= f = Err e

abbrev pub Fails : {Y : Type 0} → PartError → Result Y Fault → Type 0
Fails errors.Memory read = Unit {0}
Fails (errors.Fault f) read = read ≡ Err f

-- what a function answered, seen by view, is what reading gives, unless memory ran out
abbrev pub Gives : {X Y : Type 0} → (X → Y) → Result X PartError → Result Y Fault → Type 0
Gives view (Ok x) read = read ≡ Ok (view x)
Gives view (Err e) read = Fails e read

-- these tokens begin with something else than what was wanted
abbrev pub wants : {A : Type 0} → Wanted → List Token → Result A Fault
wants w ts = Err (record { left = length ts; wanted = w })

-- ---- parts of items

abbrev pub name_at : Wanted → List Token → Result (Name × List Token) Fault
name_at w [] = wants w []
name_at w (Key k ∷ ts) = wants w (Key k ∷ ts)
name_at w (Word v ∷ ts) = Ok (names.Plain v, ts)
name_at w (Quoted t ∷ ts) = Ok (names.Quoted t, ts)
name_at w (Sign c ∷ ts) = wants w (Sign c ∷ ts)
name_at w (Doc d ∷ ts) = wants w (Doc d ∷ ts)
name_at w (Stray f ∷ ts) = wants w (Stray f ∷ ts)

-- a word
abbrev pub word_at : Wanted → List Token → Result (List ℕ × List Token) Fault
word_at w [] = wants w []
word_at w (Key k ∷ ts) = wants w (Key k ∷ ts)
word_at w (Word v ∷ ts) = Ok (v, ts)
word_at w (Quoted t ∷ ts) = wants w (Quoted t ∷ ts)
word_at w (Sign c ∷ ts) = wants w (Sign c ∷ ts)
word_at w (Doc d ∷ ts) = wants w (Doc d ∷ ts)
word_at w (Stray f ∷ ts) = wants w (Stray f ∷ ts)

-- a text in quotes
abbrev pub text_at : List Token → Result (List ℕ × List Token) Fault
text_at [] = wants wanted.Text []
text_at (Key k ∷ ts) = wants wanted.Text (Key k ∷ ts)
text_at (Word v ∷ ts) = wants wanted.Text (Word v ∷ ts)
text_at (Quoted t ∷ ts) = Ok (t, ts)
text_at (Sign c ∷ ts) = wants wanted.Text (Sign c ∷ ts)
text_at (Doc d ∷ ts) = wants wanted.Text (Doc d ∷ ts)
text_at (Stray f ∷ ts) = wants wanted.Text (Stray f ∷ ts)

-- a sign, where this is wanted
abbrev pub sign_or_at : Wanted → ℕ → List Token → Result (List Token) Fault
sign_or_at w s [] = wants w []
sign_or_at w s (Key k ∷ ts) = wants w (Key k ∷ ts)
sign_or_at w s (Word v ∷ ts) = wants w (Word v ∷ ts)
sign_or_at w s (Quoted t ∷ ts) = wants w (Quoted t ∷ ts)
sign_or_at w s (Sign c ∷ ts) = if c == s then Ok ts else wants w (Sign c ∷ ts)
sign_or_at w s (Doc d ∷ ts) = wants w (Doc d ∷ ts)
sign_or_at w s (Stray f ∷ ts) = wants w (Stray f ∷ ts)

abbrev pub sign_at : ℕ → List Token → Result (List Token) Fault
sign_at s ts = sign_or_at (wanted.Sign s) s ts

-- a word that means something
abbrev pub chosen_by : {A : Type 0} → Wanted → Option A → List ℕ → List Token → Result (A × List Token) Fault
chosen_by w None v ts = wants w (Word v ∷ ts)
chosen_by w (Some x) v ts = Ok (x, ts)

abbrev pub chosen_at : {A : Type 0} → Wanted → (List ℕ → Option A) → List Token → Result (A × List Token) Fault
chosen_at w meaning [] = wants w []
chosen_at w meaning (Key k ∷ ts) = wants w (Key k ∷ ts)
chosen_at w meaning (Word v ∷ ts) = chosen_by w (meaning v) v ts
chosen_at w meaning (Quoted t ∷ ts) = wants w (Quoted t ∷ ts)
chosen_at w meaning (Sign c ∷ ts) = wants w (Sign c ∷ ts)
chosen_at w meaning (Doc d ∷ ts) = wants w (Doc d ∷ ts)
chosen_at w meaning (Stray f ∷ ts) = wants w (Stray f ∷ ts)

abbrev pub truth_of : List ℕ → Option Bool
truth_of w = if pointwise ◌==◌ w (codes "true") then Some true else (if pointwise ◌==◌ w (codes "false") then Some false else None)

abbrev pub truth_at : List Token → Result (Bool × List Token) Fault
truth_at ts = chosen_at wanted.Truth truth_of ts

-- the number below a bound that is written so
unfoldable pub number_below : ℕ → List ℕ → Option ℕ
number_below zero w = None
number_below (suc n) w = if pointwise ◌==◌ w (decimal n) then Some n else number_below n w

-- the number from 0 to this one that a word is, if it is one
unfoldable pub number_of : ℕ → List ℕ → Option ℕ
number_of most w = number_below (most + 1) w

abbrev pub byte_at : List Token → Result (ℕ × List Token) Fault
byte_at ts = chosen_at wanted.Byte (number_of 255) ts

abbrev pub comment_at : List Token → Option (List ℕ) × List Token
comment_at [] = (None, [])
comment_at (Key k ∷ ts) = (None, Key k ∷ ts)
comment_at (Word w ∷ ts) = (None, Word w ∷ ts)
comment_at (Quoted t ∷ ts) = (Some t, ts)
comment_at (Sign c ∷ ts) = (None, Sign c ∷ ts)
comment_at (Doc d ∷ ts) = (None, Doc d ∷ ts)
comment_at (Stray f ∷ ts) = (None, Stray f ∷ ts)

-- the lines of documentation at the front
abbrev pub docs_at : List Token → List (List ℕ) × List Token
docs_at [] = ([], [])
docs_at (Key k ∷ ts) = ([], Key k ∷ ts)
docs_at (Word w ∷ ts) = ([], Word w ∷ ts)
docs_at (Quoted t ∷ ts) = ([], Quoted t ∷ ts)
docs_at (Sign c ∷ ts) = ([], Sign c ∷ ts)
docs_at (Doc d ∷ ts) = (d ∷ (docs_at ts).0, (docs_at ts).1)
docs_at (Stray f ∷ ts) = ([], Stray f ∷ ts)

-- ---- what stands at the front

-- this word
abbrev pub word_first : List ℕ → List Token → Bool
word_first v [] = false
word_first v (Key k ∷ ts) = false
word_first v (Word w ∷ ts) = pointwise ◌==◌ w v
word_first v (Quoted t ∷ ts) = false
word_first v (Sign c ∷ ts) = false
word_first v (Doc d ∷ ts) = false
word_first v (Stray f ∷ ts) = false

-- this sign
abbrev pub sign_first : ℕ → List Token → Bool
sign_first s [] = false
sign_first s (Key k ∷ ts) = false
sign_first s (Word w ∷ ts) = false
sign_first s (Quoted t ∷ ts) = false
sign_first s (Sign c ∷ ts) = c == s
sign_first s (Doc d ∷ ts) = false
sign_first s (Stray f ∷ ts) = false

-- a text in quotes
abbrev pub quoted_first : List Token → Bool
quoted_first [] = false
quoted_first (Key k ∷ ts) = false
quoted_first (Word w ∷ ts) = false
quoted_first (Quoted t ∷ ts) = true
quoted_first (Sign c ∷ ts) = false
quoted_first (Doc d ∷ ts) = false
quoted_first (Stray f ∷ ts) = false

-- the word begins with a digit
abbrev pub begins_with_digit : List ℕ → Bool
begins_with_digit [] = false
begins_with_digit (c ∷ cs) = nat_le 48 c && nat_le c 57

-- a word that begins with a digit
abbrev pub digit_first : List Token → Bool
digit_first [] = false
digit_first (Key k ∷ ts) = false
digit_first (Word w ∷ ts) = begins_with_digit w
digit_first (Quoted t ∷ ts) = false
digit_first (Sign c ∷ ts) = false
digit_first (Doc d ∷ ts) = false
digit_first (Stray f ∷ ts) = false

-- a word with `(` after it
abbrev pub call_first : List Token → Bool
call_first [] = false
call_first (Key k ∷ ts) = false
call_first (Word w ∷ ts) = sign_first 40 ts
call_first (Quoted t ∷ ts) = false
call_first (Sign c ∷ ts) = false
call_first (Doc d ∷ ts) = false
call_first (Stray f ∷ ts) = false
