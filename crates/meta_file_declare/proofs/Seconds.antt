-- The second type that controls, mark by mark.
use Rattle.std.proofs.Common.{◌≡◌, ◌∙◌, ◌<◌, ◌≤◌, ◌+◌, ℕ, List, [], ◌∷◌, ◌++◌, length, drop, take, sym, ap, refl, subst, arith}
use Rattle.std.proofs.Common.{add-zero}
use Rattle.std.specs.Prelude.{slice_get, true, false, is_some, Option, Some, None, Result, Ok, Err}
use Rattle.std.proofs.lemmas.List.{take_all, take-append-drop, length-take-le}
use Rattle.std.proofs.lemmas.Option.{slice_get_within}
use Rattle.meta_lists.proofs.Places.{take_next}
use Rattle.meta_file_syntax.specs.declared.types.TypeExpr.{TypeExpr}
use Rattle.meta_file_syntax.specs.declared.insts.Property.{Property}
use Rattle.meta_file_syntax.specs.declared.insts.Mark.{Mark}
use Rattle.meta_file_syntax.specs.declared.insts.Mark.TheVariants as marks
use Rattle.meta_file_types.specs.Meant.{MeantType}
use Rattle.meta_file_types.specs.Words.{Entry, type_of}
use Rattle.meta_file_types.specs.declared.types.Types.{Types}
use Rattle.meta_file_types.specs.Said.{Said, after_type}
use Rattle.meta_file_types.specs.Registered.{Registered, IsTypeIn}
use Rattle.meta_file_types.specs.Held.{registered}
use Rattle.meta_file_types.specs.declared.refused.Reason.{Reason}
use Rattle.meta_file_types.specs.declared.refused.Reason.TheVariants.{SecondTwice}
use Rattle.meta_file_types.specs.declared.refused.ItemError.{ItemError}
use Rattle.meta_file_types.specs.declared.refused.ItemError.TheVariants.{Memory, Wrong}
use Rattle.meta_file_types.specs.Telling.{◌>>=◌, IsMeant}
use Rattle.meta_file_types.specs.Telling.{Fails}
use Rattle.meta_file_declare.specs.Insts.{seconds_from, second_by, second_of}
use Rattle.meta_file_declare.specs.Mentioned.{after_mark}
use Rattle.meta_file_declare.specs.Registered.{IsSecondIn}

-- the second control after one more mark at a place, if the marks before name m, or none
abbrev second_after : List Entry → Option MeantType → ℕ → Mark → Result (Option MeantType) Reason
second_after words m k (marks.Is property) = Ok m
second_after words None k (marks.Second t) = type_of words t >>= λ m. Ok (Some m)
second_after words (Some m) k (marks.Second t) = Err (SecondTwice k)

-- the second control after more marks, if the marks before name m, or none
abbrev second_from : List Entry → Option MeantType → ℕ → List Mark → Result (Option MeantType) Reason
second_from words m k [] = Ok m
second_from words m k (x ∷ xs) = second_after words m k x >>= λ m. second_from words m (k + 1) xs

-- where one is named
abbrev no_more : MeantType → List (ℕ × TypeExpr) → Result (Option MeantType) Reason
no_more m [] = Ok (Some m)
no_more m (t ∷ more) = Err (SecondTwice t.0)

with_one : (words : List Entry) (m : MeantType) (k : ℕ) (xs : List Mark) → second_from words (Some m) k xs ≡ no_more m (seconds_from k xs)
with_one words m k [] = refl
with_one words m k (marks.Is property ∷ xs) = with_one words m (k + 1) xs
with_one words m k (marks.Second t ∷ xs) = refl

first_one : (words : List Entry) (k : ℕ) (t : TypeExpr) (told : Result MeantType Reason) (others : List (ℕ × TypeExpr))
    → told ≡ type_of words t → (told >>= λ m. no_more m others) ≡ second_by words ((k, t) ∷ others)
first_one words k t told [] e = ap (λ a. a >>= λ m. Ok (Some m)) e
first_one words k t told (other ∷ others) e = ap (λ a. a >>= λ m. Err (SecondTwice other.0)) e

begins : (words : List Entry) (k : ℕ) (xs : List Mark) (told : Result MeantType Reason)
    → ((told >>= λ m. Ok (Some m)) >>= λ m. second_from words m (k + 1) xs) ≡ (told >>= λ m. no_more m (seconds_from (k + 1) xs))
begins words k xs (Ok m) = with_one words m (k + 1) xs
begins words k xs (Err reason) = refl

with_none : (words : List Entry) (k : ℕ) (xs : List Mark) → second_from words None k xs ≡ second_by words (seconds_from k xs)
with_none words k [] = refl
with_none words k (marks.Is property ∷ xs) = with_none words (k + 1) xs
with_none words k (marks.Second t ∷ xs) =
    begins words k xs (type_of words t)
    ∙ first_one words k t (type_of words t) (seconds_from (k + 1) xs) refl

-- ---- the marks before a place

-- those after others
parts : (words : List Entry) (m : Option MeantType) (k : ℕ) (xs ys : List Mark)
    → second_from words m k (xs ++ ys) ≡ (second_from words m k xs >>= λ m. second_from words m (k + length xs) ys)
parts words m k [] ys = ap (λ (n : ℕ). second_from words m n ys) (sym (add-zero k))
parts words m k (x ∷ xs) ys =
    by (second_after words m k x)
    (λ n. parts words n (k + 1) xs ys ∙ ap (λ (j : ℕ). second_from words n (k + 1) xs >>= λ m. second_from words m j ys) (omega arith))
  where
    by : (a : Result (Option MeantType) Reason)
        → ((n : Option MeantType) → second_from words n (k + 1) (xs ++ ys)
        ≡ (second_from words n (k + 1) xs >>= λ m. second_from words m (k + length (x ∷ xs)) ys))
        → (a >>= λ m. second_from words m (k + 1) (xs ++ ys))
        ≡ ((a >>= λ m. second_from words m (k + 1) xs) >>= λ m. second_from words m (k + length (x ∷ xs)) ys)
    by (Ok n) more = more n
    by (Err reason) more = refl

split : (words : List Entry) (xs ys : List Mark)
    → second_of words (xs ++ ys) ≡ (second_of words xs >>= λ m. second_from words m (length xs) ys)
split words xs ys =
    let place : 0 + length xs ≡ length xs = omega arith in
    sym (with_none words 0 (xs ++ ys)) ∙ parts words None 0 xs ys
    ∙ ap (λ (a : Result (Option MeantType) Reason). a >>= λ m. second_from words m (0 + length xs) ys) (with_none words 0 xs)
    ∙ ap (λ (j : ℕ). second_of words xs >>= λ m. second_from words m j ys) place

same : (a : Result (Option MeantType) Reason) → (a >>= λ m. Ok m) ≡ a
same (Ok m) = refl
same (Err reason) = refl

-- one mark more
pub second_next : (words : List Entry) (all : List Mark) (k : ℕ) (x : Mark) (m : Option MeantType) → slice_get all k ≡ Some x
    → second_of words (take k all) ≡ Ok m → second_of words (take (k + 1) all) ≡ second_after words m k x
second_next words all k x m at is =
    let within : k < length all = slice_get_within all k x at in
    let place : length (take k all) ≡ k = length-take-le k all (omega arith) in
    ap (second_of words) (take_next all k x at) ∙ split words (take k all) (x ∷ [])
    ∙ ap (λ (a : Result (Option MeantType) Reason). a >>= λ m. second_from words m (length (take k all)) (x ∷ [])) is
    ∙ same (second_after words m (length (take k all)) x) ∙ ap (λ (j : ℕ). second_after words m j x) place

-- where something is wrong with marks before a place it is the first thing that is wrong with all
pub fails_here : (words : List Entry) (all : List Mark) (k : ℕ) (e : ItemError) → Fails e (second_of words (take k all))
    → Fails e (second_of words all)
fails_here words all k Memory h = tt
fails_here words all k (Wrong reason) h =
    ap (second_of words) (sym (take-append-drop k all)) ∙ split words (take k all) (drop k all)
    ∙ ap (λ (a : Result (Option MeantType) Reason). a >>= λ m. second_from words m (length (take k all)) (drop k all)) h

-- the marks before place k name this second control, if they name one, and it has P
pub record IsSecondSoFar (words : List Entry) (all : List Mark) (k : ℕ) (P : Option MeantType → Type 0) : Type 0 where
  pub meant : Option MeantType
  pub so_far : second_of words (take k all) ≡ Ok meant
  pub is : P meant

pub ended : (words : List Entry) (all : List Mark) (k : ℕ) (P : Option MeantType → Type 0) → length all ≤ k
    → (h : IsSecondSoFar words all k P)
    → second_of words all ≡ Ok h.meant
ended words all k P past h = ap (second_of words) (sym (take_all k all past)) ∙ h.so_far

-- ---- one mark

none_meant : (r : Registered) (m : Option MeantType) (second : Option ℕ) → false ≡ is_some second → IsSecondIn r m second → m ≡ None
none_meant r None second free h = refl
none_meant r (Some m) None free h = absurd h
none_meant r (Some m) (Some n) free h = absurd cc

some_meant : (r : Registered) (m : Option MeantType) (second : Option ℕ) → true ≡ is_some second → IsSecondIn r m second
    → (x : MeantType) × (m ≡ Some x)
some_meant r None None named h = absurd cc
some_meant r None (Some n) named h = absurd h
some_meant r (Some m) second named h = (m, refl)

module _ (old : Registered) (s : Said) (all : List Mark) (k : ℕ) (mark : Mark) (m : Option MeantType)
    (before : second_of s.words (take k all) ≡ Ok m) (at : slice_get all k ≡ Some mark) where
  next : second_of s.words (take (k + 1) all) ≡ second_after s.words m k mark
  next = second_next s.words all k mark m at before

  -- one that does something
  pub same_second : (t : Types) (second : Option ℕ) (property : Property) → mark ≡ marks.Is property
      → IsSecondIn (registered t s) m second
      → IsMeant (IsSecondIn (registered t (after_mark s mark))) second (second_of s.words (take (k + 1) all))
  same_second t second property e h = record {
    meaning = m;
    is = next ∙ ap (second_after s.words m k) e;
    by = subst (λ (x : Mark). IsSecondIn (registered t (after_mark s x)) m second) (sym e) h;
  }

  -- another that names a second type
  pub second_twice : (second : Option ℕ) (type : TypeExpr) → mark ≡ marks.Second type → true ≡ is_some second → IsSecondIn old m second
      → second_of s.words (take (k + 1) all) ≡ Err (SecondTwice k)
  second_twice second type e named h =
      let one = some_meant old m second named h in
      next ∙ ap (second_after s.words m k) e ∙ ap (λ (o : Option MeantType). second_after s.words o k (marks.Second type)) one.1

  -- the first one
  abbrev told : TypeExpr → Result MeantType Reason
  told type = type_of s.words type

  first_second : (second : Option ℕ) (type : TypeExpr) → mark ≡ marks.Second type → false ≡ is_some second → IsSecondIn old m second
      → second_of s.words (take (k + 1) all) ≡ (told type >>= λ m. Ok (Some m))
  first_second second type e free h =
      next ∙ ap (second_after s.words m k) e
      ∙ ap (λ (o : Option MeantType). second_after s.words o k (marks.Second type)) (none_meant old m second free h)

  pub new_second : (t : Types) (second : Option ℕ) (type : TypeExpr) (n : ℕ) → mark ≡ marks.Second type → false ≡ is_some second
      → IsSecondIn old m second → IsMeant (IsTypeIn (registered t (after_type s type))) n (told type)
      → IsMeant (IsSecondIn (registered t (after_mark s mark))) (Some n) (second_of s.words (take (k + 1) all))
  new_second t second type n e free h f = record {
    meaning = Some f.meaning;
    is = first_second second type e free h ∙ ap (λ (a : Result MeantType Reason). a >>= λ x. Ok (Some x)) f.is;
    by = subst (λ (x : Mark). IsTypeIn (registered t (after_mark s x)) f.meaning n) (sym e) f.by;
  }

  pub new_fails : (second : Option ℕ) (type : TypeExpr) (e : ItemError) → mark ≡ marks.Second type → false ≡ is_some second
      → IsSecondIn old m second → Fails e (told type) → Fails e (second_of s.words (take (k + 1) all))
  new_fails second type Memory e free h w = tt
  new_fails second type (Wrong reason) e free h w =
      first_second second type e free h ∙ ap (λ (a : Result MeantType Reason). a >>= λ x. Ok (Some x)) w
