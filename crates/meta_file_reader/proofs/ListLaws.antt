-- Lists of any parts: what is read is spelled so, what is spelled so is read, and a fault lies within what is left.
use Rattle.std.proofs.Common.{◌≡◌, ◌∙◌, ℕ, zero, suc, ◌≤◌, ◌<◌, Bool, true, false, cond, List, [], ◌∷◌, ◌++◌, length, drop, Option}
use Rattle.std.proofs.Common.{Some, None, Result, Ok, Err, refl, sym, ap, subst, arith, append_assoc, length-append}
use Rattle.std.specs.Prelude.{◌==◌}
use Rattle.std.proofs.lemmas.Bool.{eqb-true}
use Rattle.meta_file_syntax.specs.declared.token.Token.{Token}
use Rattle.meta_file_syntax.specs.declared.token.Token.TheVariants.{Key, Word, Quoted, Sign, Doc, Stray}
use Rattle.meta_file_syntax.specs.Spelling.{each_after, comma, listed}
use Rattle.meta_file_reader.specs.declared.fault.Fault.{Fault}
use Rattle.meta_file_reader.specs.declared.fault.Wanted.{Wanted}
use Rattle.meta_file_reader.specs.declared.fault.Wanted.TheVariants as wanted
use Rattle.meta_file_reader.specs.declared.lists.Layout.{Layout}
use Rattle.meta_file_reader.specs.declared.lists.Layout.TheVariants as layouts
use Rattle.meta_file_reader.specs.Parts.{sign_first, digit_first, call_first}
use Rattle.meta_file_reader.specs.Fits.{Every}
use Rattle.meta_file_reader.specs.Apart.{OfLast}
use Rattle.meta_file_reader.specs.Lists.{comma_or, separator_at, part_after, step_at, with_step, more_at, with_front, some_at}
use Rattle.meta_file_reader.specs.Lists.{closes_first}
use Rattle.meta_file_reader.specs.Lists.{list_at}
use Rattle.meta_file_reader.proofs.PartLaws.{bind_ok, ok_is, Shorter, shorter_bind, sign_is, drop_less}

-- what stands between two parts, and after the last
abbrev pub separator : Layout → List Token
separator layouts.Parentheses = comma
separator layouts.Brackets = comma
separator layouts.Commas = comma
separator layouts.Numbers = []
separator layouts.Calls = []

abbrev pub closing : Layout → List Token
closing layouts.Parentheses = Sign 41 ∷ []
closing layouts.Brackets = Sign 93 ∷ []
closing layouts.Commas = []
closing layouts.Numbers = []
closing layouts.Calls = []

-- ---- what comes after a part

abbrev pub Parted : List Token → List Token → List Token → Bool × List Token → Type 0
Parted between close ts (true, rest) = ts ≡ between ++ rest
Parted between close ts (false, rest) = ts ≡ close ++ rest

comma_by : (s : ℕ) (w : Wanted) (c : ℕ) (ts : List Token) (x : Bool × List Token) (p q : Bool) → (c == s) ≡ p → (c == 44) ≡ q
    → cond {A = Result (Bool × List Token) Fault} p (Ok (false, ts)) (cond q (Ok (true, ts))
    (Err (record { left = length (Sign c ∷ ts); wanted = w }))) ≡ Ok x
    → Parted comma (Sign s ∷ []) (Sign c ∷ ts) x
comma_by s w c ts x true q hp hq e =
    subst (Parted comma (Sign s ∷ []) (Sign c ∷ ts)) (ok_is (false, ts) x e) (ap (λ (m : ℕ). Sign m ∷ ts) (eqb-true c s hp))
comma_by s w c ts x false true hp hq e =
    subst (Parted comma (Sign s ∷ []) (Sign c ∷ ts)) (ok_is (true, ts) x e) (ap (λ (m : ℕ). Sign m ∷ ts) (eqb-true c 44 hq))
comma_by s w c ts x false false hp hq e = absurd cc

comma_or_takes : (s : ℕ) (w : Wanted) (ts : List Token) (x : Bool × List Token) → comma_or s w ts ≡ Ok x
    → Parted comma (Sign s ∷ []) ts x
comma_or_takes s w [] x e = absurd cc
comma_or_takes s w (Key k ∷ ts) x e = absurd cc
comma_or_takes s w (Word v ∷ ts) x e = absurd cc
comma_or_takes s w (Quoted t ∷ ts) x e = absurd cc
comma_or_takes s w (Sign c ∷ ts) x e = comma_by s w c ts x (c == s) (c == 44) refl refl e
comma_or_takes s w (Doc d ∷ ts) x e = absurd cc
comma_or_takes s w (Stray f ∷ ts) x e = absurd cc

after_comma : (ts : List Token) (x : Bool × List Token) (b : Bool) → sign_first 44 ts ≡ b
    → cond {A = Result (Bool × List Token) Fault} b (Ok (true, drop 1 ts)) (Ok (false, ts)) ≡ Ok x → Parted comma [] ts x
after_comma ts x true is e = subst (Parted comma [] ts) (ok_is (true, drop 1 ts) x e) (sign_is 44 ts is)
after_comma ts x false is e = subst (Parted comma [] ts) (ok_is (false, ts) x e) refl

nothing_between : (b : Bool) (ts : List Token) → Parted [] [] ts (b, ts)
nothing_between true ts = refl
nothing_between false ts = refl

pub separator_takes : (l : Layout) (ts : List Token) (x : Bool × List Token) → separator_at l ts ≡ Ok x
    → Parted (separator l) (closing l) ts x
separator_takes layouts.Parentheses ts x e = comma_or_takes 41 wanted.CommaOrClose ts x e
separator_takes layouts.Brackets ts x e = comma_or_takes 93 wanted.CommaOrBracket ts x e
separator_takes layouts.Commas ts x e = after_comma ts x (sign_first 44 ts) refl e
separator_takes layouts.Numbers ts x e = subst (Parted [] [] ts) (ok_is (digit_first ts, ts) x e) (nothing_between (digit_first ts) ts)
separator_takes layouts.Calls ts x e = subst (Parted [] [] ts) (ok_is (call_first ts, ts) x e) (nothing_between (call_first ts) ts)

comma_by_within : (w : Wanted) (c : ℕ) (ts : List Token) (p q : Bool)
    → Shorter (Sign c ∷ ts) (cond p (Ok (false, ts)) (cond q (Ok (true, ts)) (Err (record { left = length (Sign c ∷ ts); wanted = w }))))
comma_by_within w c ts true q = omega arith
comma_by_within w c ts false true = omega arith
comma_by_within w c ts false false = omega arith

comma_or_within : (s : ℕ) (w : Wanted) (ts : List Token) → Shorter ts (comma_or s w ts)
comma_or_within s w [] = omega arith
comma_or_within s w (Key k ∷ ts) = omega arith
comma_or_within s w (Word v ∷ ts) = omega arith
comma_or_within s w (Quoted t ∷ ts) = omega arith
comma_or_within s w (Sign c ∷ ts) = comma_by_within w c ts (c == s) (c == 44)
comma_or_within s w (Doc d ∷ ts) = omega arith
comma_or_within s w (Stray f ∷ ts) = omega arith

after_comma_within : (ts : List Token) (b : Bool) → Shorter {A = Bool} ts (cond b (Ok (true, drop 1 ts)) (Ok (false, ts)))
after_comma_within ts true = drop_less ts
after_comma_within ts false = omega arith

separator_within : (l : Layout) (ts : List Token) → Shorter ts (separator_at l ts)
separator_within layouts.Parentheses ts = comma_or_within 41 wanted.CommaOrClose ts
separator_within layouts.Brackets ts = comma_or_within 93 wanted.CommaOrBracket ts
separator_within layouts.Commas ts = after_comma_within ts (sign_first 44 ts)
separator_within layouts.Numbers ts = omega arith
separator_within layouts.Calls ts = omega arith

-- ---- what is read is spelled so

abbrev pub Taken : {A : Type 0} → (A → List Token) → List Token → A × List Token → Type 0
Taken part ts x = ts ≡ part x.0 ++ x.1

abbrev pub Takes : {A : Type 0} → (A → List Token) → (List Token → Result (A × List Token) Fault) → Type 0
Takes {A} part at = (ts : List Token) (x : A × List Token) → at ts ≡ Ok x → Taken part ts x

abbrev pub StepTaken : {A : Type 0} → (A → List Token) → Layout → List Token → Option A × List Token → Type 0
StepTaken part l ts (None, rest) = ts ≡ closing l ++ rest
StepTaken part l ts (Some y, rest) = ts ≡ separator l ++ (part y ++ rest)

part_takes : {A : Type 0} (part : A → List Token) (at : List Token → Result (A × List Token) Fault) (l : Layout) → Takes part at
    → (ts : List Token) (s : Bool) (rest : List Token) (x : Option A × List Token) → Parted (separator l) (closing l) ts (s, rest)
    → part_after at s rest ≡ Ok x → StepTaken part l ts x
part_takes {A} part at l takes ts true rest x parted e =
    let a = bind_ok (at rest) (λ y. Ok (Some y.0, y.1)) x e in
    subst (StepTaken part l ts) (ok_is (Some a.0.0, a.0.1) x a.2) (parted
    ∙ ap (λ (r : List Token). separator l ++ r) (takes rest a.0 a.1))
part_takes {A} part at l takes ts false rest x parted e = subst (StepTaken part l ts) (ok_is (None, rest) x e) parted

pub step_takes : {A : Type 0} (part : A → List Token) (at : List Token → Result (A × List Token) Fault) (l : Layout) → Takes part at
    → (ts : List Token) (x : Option A × List Token) → step_at at l ts ≡ Ok x → StepTaken part l ts x
step_takes part at l takes ts x e =
    let a = bind_ok (separator_at l ts) (λ s. part_after at s.0 s.1) x e in
    part_takes part at l takes ts a.0.0 a.0.1 x (separator_takes l ts a.0 a.1) a.2

abbrev MoreTaken : {A : Type 0} → (A → List Token) → Layout → List Token → List A × List Token → Type 0
MoreTaken part l ts x = ts ≡ each_after (separator l) part x.0 ++ (closing l ++ x.1)

more_step : {A : Type 0} (part : A → List Token) (l : Layout) (ts : List Token) (o : Option A) (r : List Token)
    (later : Result (List A × List Token) Fault) (x : List A × List Token) → StepTaken part l ts (o, r)
    → ((y : List A × List Token) → later ≡ Ok y → MoreTaken part l r y) → with_step o r later ≡ Ok x → MoreTaken part l ts x
more_step part l ts None r later x taken after e = subst (MoreTaken part l ts) (ok_is ([], r) x e) taken
more_step part l ts (Some y) r later x taken after e =
    let a = bind_ok later (λ xs. Ok (y ∷ xs.0, xs.1)) x e in
    let rest : r ≡ each_after (separator l) part a.0.0 ++ (closing l ++ a.0.1) = after a.0 a.1 in
    subst (MoreTaken part l ts) (ok_is (y ∷ a.0.0, a.0.1) x a.2) (taken
    ∙ ap (λ (u : List Token). separator l ++ (part y ++ u)) rest ∙ simp append_assoc)

more_takes : {A : Type 0} (part : A → List Token) (at : List Token → Result (A × List Token) Fault) (l : Layout) → Takes part at
    → (n : ℕ) (ts : List Token) (x : List A × List Token) → more_at at l n ts ≡ Ok x → MoreTaken part l ts x
unfolding more_at
more_takes part at l takes zero ts x e = absurd cc
more_takes part at l takes (suc n) ts x e =
    let a = bind_ok (step_at at l ts) (λ s. with_step s.0 s.1 (more_at at l n s.1)) x e in
    more_step part l ts a.0.0 a.0.1 (more_at at l n a.0.1) x (step_takes part at l takes ts a.0 a.1)
    (more_takes part at l takes n a.0.1) a.2

-- one part and more
abbrev pub SomeTaken : {A : Type 0} → (A → List Token) → Layout → List Token → List A × List Token → Type 0
SomeTaken {A} part l ts x = (y : A) × (ys : List A) × (x.0 ≡ y ∷ ys)
    × (ts ≡ part y ++ (each_after (separator l) part ys ++ (closing l ++ x.1)))

pub some_takes : {A : Type 0} (part : A → List Token) (at : List Token → Result (A × List Token) Fault) (l : Layout) → Takes part at
    → (ts : List Token) (x : List A × List Token) → some_at at l ts ≡ Ok x → SomeTaken part l ts x
unfolding some_at
some_takes part at l takes ts x e =
    let a = bind_ok (at ts) (λ y. with_front (y.0 ∷ []) (more_at at l (length ts) y.1)) x e in
    let b = bind_ok (more_at at l (length ts) a.0.1) (λ y. Ok ((a.0.0 ∷ []) ++ y.0, y.1)) x a.2 in
    let whole = takes ts a.0 a.1 ∙ ap (λ (r : List Token). part a.0.0 ++ r) (more_takes part at l takes (length ts) a.0.1 b.0 b.1) in
    subst (SomeTaken part l ts) (ok_is ((a.0.0 ∷ []) ++ b.0.0, b.0.1) x b.2) (a.0.0, b.0.0, refl, whole)

abbrev pub ListTaken : {A : Type 0} → (A → List Token) → Layout → List Token → List A × List Token → Type 0
ListTaken part l ts x = ts ≡ listed part x.0 ++ (closing l ++ x.1)

-- the parts of a list with nothing between them
pub some_rows : {A : Type 0} (part : A → List Token) (l : Layout) (ts : List Token) (x : List A × List Token) → separator l ≡ []
    → closing l ≡ [] → SomeTaken part l ts x → Taken (each_after [] part) ts x
some_rows part l ts x nothing endless s =
    let whole : ts ≡ each_after [] part (s.0 ∷ s.1) ++ x.1 = s.3
    ∙ ap (λ (u : List Token). part s.0 ++ (each_after u part s.1 ++ (closing l ++ x.1))) nothing
    ∙ ap (λ (u : List Token). part s.0 ++ (each_after [] part s.1 ++ (u ++ x.1))) endless ∙ simp append_assoc in
    whole ∙ ap (λ ys. each_after [] part ys ++ x.1) (sym s.2)

-- the parts of a list with commas
pub some_listed : {A : Type 0} (part : A → List Token) (l : Layout) (ts : List Token) (x : List A × List Token) → separator l ≡ comma
    → SomeTaken part l ts x → ListTaken part l ts x
some_listed part l ts x commas s =
    let whole : ts ≡ listed part (s.0 ∷ s.1) ++ (closing l ++ x.1) = s.3
    ∙ ap (λ (u : List Token). part s.0 ++ (each_after u part s.1 ++ (closing l ++ x.1))) commas ∙ simp append_assoc in
    whole ∙ ap (λ ys. listed part ys ++ (closing l ++ x.1)) (sym s.2)

close_is : (l : Layout) (ts : List Token) → closes_first l ts ≡ true → ts ≡ closing l ++ drop 1 ts
close_is layouts.Parentheses ts e = sign_is 41 ts e
close_is layouts.Brackets ts e = sign_is 93 ts e
close_is layouts.Commas ts e = absurd cc
close_is layouts.Numbers ts e = absurd cc
close_is layouts.Calls ts e = absurd cc

list_by : {A : Type 0} (part : A → List Token) (at : List Token → Result (A × List Token) Fault) (l : Layout) → Takes part at
    → separator l ≡ comma → (ts : List Token) (x : List A × List Token) (b : Bool) → closes_first l ts ≡ b
    → cond b (Ok ([], drop 1 ts)) (some_at at l ts) ≡ Ok x → ListTaken part l ts x
list_by part at l takes commas ts x true is e = subst (ListTaken part l ts) (ok_is ([], drop 1 ts) x e) (close_is l ts is)
list_by part at l takes commas ts x false is e = some_listed part l ts x commas (some_takes part at l takes ts x e)

pub list_takes : {A : Type 0} (part : A → List Token) (at : List Token → Result (A × List Token) Fault) (l : Layout) → Takes part at
    → separator l ≡ comma → (ts : List Token) (x : List A × List Token) → list_at at l ts ≡ Ok x → ListTaken part l ts x
unfolding list_at
list_takes part at l takes commas ts x e = list_by part at l takes commas ts x (closes_first l ts) refl e

-- ---- a fault lies within

abbrev pub Keeps : {A : Type 0} → (List Token → Result (A × List Token) Fault) → Type 0
Keeps at = (ts : List Token) → Shorter ts (at ts)

part_after_within : {A : Type 0} (at : List Token → Result (A × List Token) Fault) → Keeps at → (s : Bool) (ts : List Token)
    → Shorter ts (part_after at s ts)
part_after_within at keeps true ts = shorter_bind ts (at ts) (λ y. Ok (Some y.0, y.1)) (keeps ts) (λ y. omega arith)
part_after_within at keeps false ts = omega arith

more_step_within : {A : Type 0} (o : Option A) (r : List Token) (later : Result (List A × List Token) Fault) → Shorter r later
    → Shorter r (with_step o r later)
more_step_within None r later h = omega arith
more_step_within (Some y) r later h = shorter_bind r later (λ xs. Ok (y ∷ xs.0, xs.1)) h (λ xs. omega arith)

more_within : {A : Type 0} (at : List Token → Result (A × List Token) Fault) (l : Layout) → Keeps at → (n : ℕ) (ts : List Token)
    → Shorter ts (more_at at l n ts)
unfolding more_at
more_within at l keeps zero ts = omega arith
more_within at l keeps (suc n) ts =
    shorter_bind ts (step_at at l ts) (λ x. with_step x.0 x.1 (more_at at l n x.1)) (shorter_bind ts (separator_at l ts)
    (λ s. part_after at s.0 s.1) (separator_within l ts) (λ s. part_after_within at keeps s.0 s.1))
    (λ x. more_step_within x.0 x.1 (more_at at l n x.1) (more_within at l keeps n x.1))

pub some_within : {A : Type 0} (at : List Token → Result (A × List Token) Fault) (l : Layout) → Keeps at → (ts : List Token)
    → Shorter ts (some_at at l ts)
unfolding some_at
some_within at l keeps ts =
    shorter_bind ts (at ts) (λ y. with_front (y.0 ∷ []) (more_at at l (length ts) y.1)) (keeps ts)
    (λ y. shorter_bind y.1 (more_at at l (length ts) y.1) (λ z. Ok ((y.0 ∷ []) ++ z.0, z.1)) (more_within at l keeps (length ts) y.1)
    (λ z. omega arith))

list_by_within : {A : Type 0} (at : List Token → Result (A × List Token) Fault) (l : Layout) → Keeps at → (ts : List Token) (b : Bool)
    → Shorter ts (cond b (Ok ([], drop 1 ts)) (some_at at l ts))
list_by_within at l keeps ts true = drop_less ts
list_by_within at l keeps ts false = some_within at l keeps ts

pub list_within : {A : Type 0} (at : List Token → Result (A × List Token) Fault) (l : Layout) → Keeps at → (ts : List Token)
    → Shorter ts (list_at at l ts)
unfolding list_at
list_within at l keeps ts = list_by_within at l keeps ts (closes_first l ts)

-- ---- what is spelled so is read

-- the parts of a list are read off their tokens, where what comes after a part doesn't go on with it
pub record Again {A : Type 0} (part : A → List Token) (at : List Token → Result (A × List Token) Fault) (l : Layout) (Good : A → Type 0)
    (Free : A → List Token → Type 0) : Type 0 where
  pub again : (x : A) (rest : List Token) → Good x → Free x rest → at (part x ++ rest) ≡ Ok (x, rest)
  pub follows : (x : A) (rest : List Token) → Good x → separator_at l (separator l ++ (part x ++ rest)) ≡ Ok (true, part x ++ rest)
  pub parted : (x y : A) (rest : List Token) → Free x (separator l ++ (part y ++ rest))
  pub opens : (x : A) (rest : List Token) → closes_first l (part x ++ rest) ≡ false
  pub some : (x : A) → 0 < length (part x)

-- the list ends here
abbrev pub Ends : Layout → List Token → Type 0
Ends l rest = separator_at l (closing l ++ rest) ≡ Ok (false, rest)

-- what comes after the list doesn't go on with its last part
abbrev pub LastFree : {A : Type 0} → Layout → (A → List Token → Type 0) → List Token → List A → Type 0
LastFree l Free rest xs = OfLast (λ x. Free x (closing l ++ rest)) xs

after_free : {A : Type 0} (part : A → List Token) (at : List Token → Result (A × List Token) Fault) (l : Layout) (Good : A → Type 0)
    (Free : A → List Token → Type 0) → Again part at l Good Free → (x : A) (xs : List A) (rest : List Token)
    → LastFree l Free rest (x ∷ xs) → Free x (each_after (separator l) part xs ++ (closing l ++ rest))
after_free part at l Good Free laws x [] rest last = last
after_free part at l Good Free laws x (y ∷ ys) rest last =
    let tail = each_after (separator l) part ys ++ (closing l ++ rest) in
    let same : separator l ++ (part y ++ tail) ≡ each_after (separator l) part (y ∷ ys) ++ (closing l ++ rest) = simp append_assoc in
    subst (Free x) same (laws.parted x y tail)

later_last : {A : Type 0} (Good : A → Type 0) (x : A) (xs : List A) → OfLast Good (x ∷ xs) → OfLast Good xs
later_last Good x [] last = tt
later_last Good x (y ∷ ys) last = last

more_again : {A : Type 0} (part : A → List Token) (at : List Token → Result (A × List Token) Fault) (l : Layout) (Good : A → Type 0)
    (Free : A → List Token → Type 0) → Again part at l Good Free → (xs : List A) (n : ℕ) (rest : List Token) → Every Good xs
    → LastFree l Free rest xs → Ends l rest → length xs < n
    → more_at at l n (each_after (separator l) part xs ++ (closing l ++ rest)) ≡ Ok (xs, rest)
unfolding more_at
more_again part at l Good Free laws xs zero rest good last end lt = absurd (omega arith)
more_again part at l Good Free laws [] (suc n) rest good last end lt = rw end refl
more_again part at l Good Free laws (x ∷ xs) (suc n) rest good last end lt =
    let few : length xs < n = omega arith in
    let tail = each_after (separator l) part xs ++ (closing l ++ rest) in
    let free : Free x tail = after_free part at l Good Free laws x xs rest last in
    let later = later_last (λ y. Free y (closing l ++ rest)) x xs last in
    let one : more_at at l (suc n) (separator l ++ (part x ++ tail)) ≡ Ok (x ∷ xs, rest) =
    rw (laws.follows x tail good.0, laws.again x tail good.0 free, more_again part at l Good Free laws xs n rest good.1 later end few) refl
    in
    ap (λ (u : List Token). more_at at l (suc n) u) (simp append_assoc) ∙ one

as_long : {A : Type 0} (part : A → List Token) (between : List Token) (xs : List A) → ((x : A) → 0 < length (part x))
    → length xs ≤ length (each_after between part xs)
as_long part between [] some = omega arith
as_long part between (x ∷ xs) some =
    let few = as_long part between xs some in
    let one = some x in
    omega (arith, length-append between (part x ++ each_after between part xs), length-append (part x) (each_after between part xs))

pub some_again : {A : Type 0} (part : A → List Token) (at : List Token → Result (A × List Token) Fault) (l : Layout) (Good : A → Type 0)
    (Free : A → List Token → Type 0) → Again part at l Good Free → (x : A) (xs : List A) (rest : List Token) → Every Good (x ∷ xs)
    → LastFree l Free rest (x ∷ xs) → Ends l rest
    → some_at at l (part x ++ (each_after (separator l) part xs ++ (closing l ++ rest))) ≡ Ok (x ∷ xs, rest)
unfolding some_at
some_again part at l Good Free laws x xs rest good last end =
    let tail = each_after (separator l) part xs ++ (closing l ++ rest) in
    let free : Free x tail = after_free part at l Good Free laws x xs rest last in
    let later = later_last (λ y. Free y (closing l ++ rest)) x xs last in
    let few : length xs < length (part x ++ tail) = (
    let one = laws.some x in
    let all = as_long part (separator l) xs laws.some in
    omega (arith, length-append (part x) tail, length-append (each_after (separator l) part xs) (closing l ++ rest))
    ) in
    rw (laws.again x tail good.0 free, more_again part at l Good Free laws xs (length (part x ++ tail)) rest good.1 later end few) refl

-- between the signs that hold it
pub list_again : {A : Type 0} (part : A → List Token) (at : List Token → Result (A × List Token) Fault) (l : Layout) (Good : A → Type 0)
    (Free : A → List Token → Type 0) → Again part at l Good Free → separator l ≡ comma
    → ((rest : List Token) → closes_first l (closing l ++ rest) ≡ true)
    → ((rest : List Token) → drop 1 (closing l ++ rest) ≡ rest) → (xs : List A) (rest : List Token) → Every Good xs
    → LastFree l Free rest xs → Ends l rest → list_at at l (listed part xs ++ (closing l ++ rest)) ≡ Ok (xs, rest)
unfolding list_at
list_again part at l Good Free laws commas closes one [] rest good last end = rw (closes rest, one rest) refl
list_again part at l Good Free laws commas closes one (x ∷ xs) rest good last end =
    let tail = each_after (separator l) part xs ++ (closing l ++ rest) in
    let same : listed part (x ∷ xs) ++ (closing l ++ rest) ≡ part x ++ tail =
    ap (λ (u : List Token). (part x ++ each_after u part xs) ++ (closing l ++ rest)) (sym commas) ∙ simp append_assoc in
    let read : list_at at l (part x ++ tail) ≡ Ok (x ∷ xs, rest) =
    rw (laws.opens x tail) (some_again part at l Good Free laws x xs rest good last end) in
    ap (λ (u : List Token). list_at at l u) same ∙ read

-- ---- what is left doesn't go on with what is read

-- no further part stands in front
abbrev pub Ended : Layout → List Token → Type 0
Ended layouts.Parentheses ts = Unit {0}
Ended layouts.Brackets ts = Unit {0}
Ended layouts.Commas ts = sign_first 44 ts ≡ false
Ended layouts.Numbers ts = digit_first ts ≡ false
Ended layouts.Calls ts = call_first ts ≡ false

-- where no part follows, none stands in front
abbrev EndedBy : (List Token → Bool) → Bool × List Token → Type 0
EndedBy first (true, rest) = Unit {0}
EndedBy first (false, rest) = first rest ≡ false

ended_by : (first : List Token → Bool) (ts : List Token) (b : Bool) → first ts ≡ b → EndedBy first (b, ts)
ended_by first ts true is = tt
ended_by first ts false is = is

comma_ends : (ts : List Token) (x : Bool × List Token) (b : Bool) → sign_first 44 ts ≡ b
    → cond {A = Result (Bool × List Token) Fault} b (Ok (true, drop 1 ts)) (Ok (false, ts)) ≡ Ok x → EndedBy (sign_first 44) x
comma_ends ts x true is e = subst (EndedBy (sign_first 44)) (ok_is (true, drop 1 ts) x e) tt
comma_ends ts x false is e = subst (EndedBy (sign_first 44)) (ok_is (false, ts) x e) is

separator_ends : (l : Layout) (ts rest : List Token) → separator_at l ts ≡ Ok (false, rest) → Ended l rest
separator_ends layouts.Parentheses ts rest e = tt
separator_ends layouts.Brackets ts rest e = tt
separator_ends layouts.Commas ts rest e = comma_ends ts (false, rest) (sign_first 44 ts) refl e
separator_ends layouts.Numbers ts rest e =
    subst (EndedBy digit_first) (ok_is (digit_first ts, ts) (false, rest) e) (ended_by digit_first ts (digit_first ts) refl)
separator_ends layouts.Calls ts rest e =
    subst (EndedBy call_first) (ok_is (call_first ts, ts) (false, rest) e) (ended_by call_first ts (call_first ts) refl)

abbrev pub Leaves : {A : Type 0} → (A → List Token → Type 0) → (List Token → Result (A × List Token) Fault) → Type 0
Leaves {A} Free at = (ts : List Token) (x : A × List Token) → at ts ≡ Ok x → Free x.0 x.1

abbrev StepLeaves : {A : Type 0} → (A → List Token → Type 0) → Layout → List Token → Option A × List Token → Type 0
StepLeaves Free l ts (None, rest) = (ts ≡ rest) × Ended l rest
StepLeaves Free l ts (Some y, rest) = Free y rest

part_leaves : {A : Type 0} (Free : A → List Token → Type 0) (at : List Token → Result (A × List Token) Fault) (l : Layout) → closing l ≡ []
    → Leaves Free at → (ts : List Token) (s : Bool) (rest : List Token) (x : Option A × List Token) → separator_at l ts ≡ Ok (s, rest)
    → part_after at s rest ≡ Ok x → StepLeaves Free l ts x
part_leaves {A} Free at l endless leaves ts true rest x parted e =
    let a = bind_ok (at rest) (λ y. Ok (Some y.0, y.1)) x e in
    subst (StepLeaves Free l ts) (ok_is (Some a.0.0, a.0.1) x a.2) (leaves rest a.0 a.1)
part_leaves {A} Free at l endless leaves ts false rest x parted e =
    let whole : ts ≡ closing l ++ rest = separator_takes l ts (false, rest) parted in
    let same : ts ≡ rest = whole ∙ ap (λ (u : List Token). u ++ rest) endless in
    subst (StepLeaves Free l ts) (ok_is (None, rest) x e) (same, separator_ends l ts rest parted)

step_leaves : {A : Type 0} (Free : A → List Token → Type 0) (at : List Token → Result (A × List Token) Fault) (l : Layout) → closing l ≡ []
    → Leaves Free at → (ts : List Token) (x : Option A × List Token) → step_at at l ts ≡ Ok x → StepLeaves Free l ts x
step_leaves Free at l endless leaves ts x e =
    let a = bind_ok (separator_at l ts) (λ s. part_after at s.0 s.1) x e in
    part_leaves Free at l endless leaves ts a.0.0 a.0.1 x a.1 a.2

-- after this part
abbrev MoreLeaves : {A : Type 0} → (A → List Token → Type 0) → Layout → A → List A × List Token → Type 0
MoreLeaves Free l y x = Ended l x.1 × OfLast (λ z. Free z x.1) (y ∷ x.0)

then_leaves : {A : Type 0} (Free : A → List Token → Type 0) (l : Layout) (y : A) (ts : List Token) (o : Option A) (r : List Token)
    (later : Result (List A × List Token) Fault) (x : List A × List Token) → Free y ts → StepLeaves Free l ts (o, r)
    → ((z : A) (v : List A × List Token) → Free z r → later ≡ Ok v → MoreLeaves Free l z v) → with_step o r later ≡ Ok x
    → MoreLeaves Free l y x
then_leaves Free l y ts None r later x free left after e =
    subst (MoreLeaves Free l y) (ok_is ([], r) x e) (left.1, subst (Free y) left.0 free)
then_leaves Free l y ts (Some z) r later x free left after e =
    let a = bind_ok later (λ xs. Ok (z ∷ xs.0, xs.1)) x e in
    subst (MoreLeaves Free l y) (ok_is (z ∷ a.0.0, a.0.1) x a.2) (after z a.0 left a.1)

more_leaves : {A : Type 0} (Free : A → List Token → Type 0) (at : List Token → Result (A × List Token) Fault) (l : Layout) → closing l ≡ []
    → Leaves Free at → (n : ℕ) (y : A) (ts : List Token) (x : List A × List Token) → Free y ts → more_at at l n ts ≡ Ok x
    → MoreLeaves Free l y x
unfolding more_at
more_leaves Free at l endless leaves zero y ts x free e = absurd cc
more_leaves Free at l endless leaves (suc n) y ts x free e =
    let a = bind_ok (step_at at l ts) (λ s. with_step s.0 s.1 (more_at at l n s.1)) x e in
    then_leaves Free l y ts a.0.0 a.0.1 (more_at at l n a.0.1) x free (step_leaves Free at l endless leaves ts a.0 a.1)
    (λ z v free_z read. more_leaves Free at l endless leaves n z a.0.1 v free_z read) a.2

abbrev pub SomeLeaves : {A : Type 0} → (A → List Token → Type 0) → Layout → List A × List Token → Type 0
SomeLeaves Free l x = Ended l x.1 × OfLast (λ z. Free z x.1) x.0

pub some_leaves : {A : Type 0} (Free : A → List Token → Type 0) (at : List Token → Result (A × List Token) Fault) (l : Layout)
    → closing l ≡ [] → Leaves Free at → (ts : List Token) (x : List A × List Token) → some_at at l ts ≡ Ok x → SomeLeaves Free l x
unfolding some_at
some_leaves Free at l endless leaves ts x e =
    let a = bind_ok (at ts) (λ y. with_front (y.0 ∷ []) (more_at at l (length ts) y.1)) x e in
    let b = bind_ok (more_at at l (length ts) a.0.1) (λ y. Ok ((a.0.0 ∷ []) ++ y.0, y.1)) x a.2 in
    subst (SomeLeaves Free l) (ok_is ((a.0.0 ∷ []) ++ b.0.0, b.0.1) x b.2)
    (more_leaves Free at l endless leaves (length ts) a.0.0 a.0.1 b.0 (leaves ts a.0 a.1) b.1)
