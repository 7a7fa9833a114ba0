-- Reading lists off tokens.
use Rattle.std.specs.Prelude.{◌≡◌, ℕ, zero, suc, ◌==◌, Bool, true, false, List, [], ◌∷◌, ◌++◌, length, drop, Option}
use Rattle.std.specs.Prelude.{Some, None}
use Rattle.std.specs.Prelude.{Result, Ok, Err, if◌then◌else◌}
use Rattle.meta_file_syntax.specs.declared.token.Token.{Token}
use Rattle.meta_file_syntax.specs.declared.token.Token.TheVariants.{Key, Word, Quoted, Sign, Doc, Stray}
use Rattle.meta_file_reader.specs.declared.fault.Fault.{Fault}
use Rattle.meta_file_reader.specs.declared.fault.Wanted.{Wanted}
use Rattle.meta_file_reader.specs.declared.fault.Wanted.TheVariants as wanted
use Rattle.meta_file_reader.specs.declared.fault.PartError.{PartError}
use Rattle.meta_file_reader.specs.declared.lists.Layout.{Layout}
use Rattle.meta_file_reader.specs.declared.lists.Layout.TheVariants as layouts
use Rattle.meta_file_reader.specs.Parts.{◌>>=◌, Fails, wants, sign_first, digit_first, call_first}

-- after a part: `,` and one more part, or this sign
abbrev pub comma_or : ℕ → Wanted → List Token → Result (Bool × List Token) Fault
comma_or s w [] = wants w []
comma_or s w (Key k ∷ ts) = wants w (Key k ∷ ts)
comma_or s w (Word v ∷ ts) = wants w (Word v ∷ ts)
comma_or s w (Quoted t ∷ ts) = wants w (Quoted t ∷ ts)
comma_or s w (Sign c ∷ ts) = if c == s then Ok (false, ts) else (if c == 44 then Ok (true, ts) else wants w (Sign c ∷ ts))
comma_or s w (Doc d ∷ ts) = wants w (Doc d ∷ ts)
comma_or s w (Stray f ∷ ts) = wants w (Stray f ∷ ts)

-- whether one more part comes, and what is left for it or after the list
abbrev pub separator_at : Layout → List Token → Result (Bool × List Token) Fault
separator_at layouts.Parentheses ts = comma_or 41 wanted.CommaOrClose ts
separator_at layouts.Brackets ts = comma_or 93 wanted.CommaOrBracket ts
separator_at layouts.Commas ts = if sign_first 44 ts then Ok (true, drop 1 ts) else Ok (false, ts)
separator_at layouts.Numbers ts = Ok (digit_first ts, ts)
separator_at layouts.Calls ts = Ok (call_first ts, ts)

-- the part after a separator, if there is one
abbrev pub part_after : {A : Type 0} → (List Token → Result (A × List Token) Fault) → Bool → List Token
    → Result (Option A × List Token) Fault
part_after part true ts = part ts >>= λ x. Ok (Some x.0, x.1)
part_after part false ts = Ok (None, ts)

abbrev pub step_at : {A : Type 0} → (List Token → Result (A × List Token) Fault) → Layout → List Token
    → Result (Option A × List Token) Fault
step_at part layout ts = separator_at layout ts >>= λ s. part_after part s.0 s.1

-- a list that ends here, or has a part more before those that are still read
abbrev pub with_step : {A : Type 0} → Option A → List Token → Result (List A × List Token) Fault → Result (List A × List Token) Fault
with_step None ts later = Ok ([], ts)
with_step (Some x) ts later = later >>= λ xs. Ok (x ∷ xs.0, xs.1)

-- the parts after a part, in at most this many steps
unfoldable pub more_at : {A : Type 0} → (List Token → Result (A × List Token) Fault) → Layout → ℕ → List Token
    → Result (List A × List Token) Fault
more_at part layout zero ts = wants wanted.CommaOrClose ts
more_at part layout (suc n) ts = step_at part layout ts >>= λ x. with_step x.0 x.1 (more_at part layout n x.1)

-- what was there before, and what is still read
abbrev pub with_front : {A : Type 0} → List A → Result (List A × List Token) Fault → Result (List A × List Token) Fault
with_front front read = read >>= λ x. Ok (front ++ x.0, x.1)

-- a function that adds parts to a list adds those that reading gives, unless memory ran out
abbrev pub GivesMore : {A X : Type 0} → (X → List Token) → List A → List A → Result X PartError → Result (List A × List Token) Fault
    → Type 0
GivesMore view old new (Ok x) read = with_front old read ≡ Ok (new, view x)
GivesMore view old new (Err e) read = Fails e read

-- one part and more. No list has more parts than tokens.
unfoldable pub some_at : {A : Type 0} → (List Token → Result (A × List Token) Fault) → Layout → List Token
    → Result (List A × List Token) Fault
some_at part layout ts = part ts >>= λ x. with_front (x.0 ∷ []) (more_at part layout (length ts) x.1)

-- the list ends at the front
abbrev pub closes_first : Layout → List Token → Bool
closes_first layouts.Parentheses ts = sign_first 41 ts
closes_first layouts.Brackets ts = sign_first 93 ts
closes_first layouts.Commas ts = false
closes_first layouts.Numbers ts = false
closes_first layouts.Calls ts = false

-- parts up to the sign that closes the list
unfoldable pub list_at : {A : Type 0} → (List Token → Result (A × List Token) Fault) → Layout → List Token
    → Result (List A × List Token) Fault
list_at part layout ts = if closes_first layout ts then Ok ([], drop 1 ts) else some_at part layout ts
