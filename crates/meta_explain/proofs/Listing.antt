-- Lists that have exactly what they are to have, in order.
use Rattle.std.proofs.Common.{◌≡◌, ◌<◌, ◌≤◌, ◌+◌, ◌⊎◌, inl, inr, ⊎_elim, ℕ, List, [], ◌∷◌, ◌++◌, length, slice_get, Some, Contains, refl}
use Rattle.std.proofs.Common.{zero, suc, All, ap, ap₂, ◌∙◌, sym, subst, arith}
use Rattle.std.proofs.lemmas.Bool.{cases_eq}
use Rattle.std.proofs.lemmas.Option.{slice_get_within, slice_get-get_or, get_or_from_slice_get}
use Rattle.std.proofs.lemmas.List.Elements.{Contains-append_left, Contains-append_right, Contains-append_cases}
use Rattle.meta_lists.proofs.Contained.{contains_first, contains_after, contains_cases, contains_none}
use Rattle.meta_lists.proofs.Everywhere.{everywhere}
use Rattle.meta_lists.proofs.Places.{get_cases}
use Rattle.meta_explain.specs.Listed.{AreListed, IsLess}

-- what stands at a place is contained
pub contained_at : {X : Type 0} (xs : List X) (k : ℕ) (x : X) → slice_get xs k ≡ Some x → Contains xs x
contained_at xs k x at = (k, slice_get_within xs k x at, get_or_from_slice_get xs k x x at)

module _ {X : Type 0} (Before : X → X → Type 0) where
  -- nothing is listed of what holds of nothing
  pub listed_none : (P : X → Type 0) → ((x : X) → P x → ⊥) → AreListed Before P []
  listed_none P never = record {
    contains = λ x. (λ c. absurd (contains_none x c), λ p. absurd (never x p));
    order = λ j k x y l at there. absurd (cc);
  }

  -- the elements of a list of one
  only_one : (P : X → Type 0) (x y : X) → P x → (x ≡ y) ⊎ Contains [] y → P y
  only_one P x y p (inl e) = subst P e p
  only_one P x y p (inr c) = absurd (contains_none y c)

  -- one is listed of what holds of it alone
  pub listed_one : (P : X → Type 0) (x : X) → P x → ((y : X) → P y → x ≡ y) → AreListed Before P (x ∷ [])
  listed_one P x p only = record {
    contains = λ y. (
      λ c. only_one P x y p (contains_cases x y [] c),
      λ q. subst (Contains (x ∷ [])) (only y q) (contains_first x []),
    );
    order = λ j k y z l at there.
        let within : k < length (x ∷ []) = slice_get_within (x ∷ []) k z there in
        absurd (omega (arith, l, within));
  }

  -- a list has what it has under another name
  pub listed_same : (P Q : X → Type 0) (xs : List X) → ((x : X) → P x → Q x) → ((x : X) → Q x → P x) → AreListed Before P xs
      → AreListed Before Q xs
  listed_same P Q xs to from h = record {
    contains = λ x. (λ c. to x ((h.contains x).0 c), λ q. (h.contains x).1 (from x q));
    order = h.order;
  }

  -- what is so of all of which P holds is so of the whole list
  pub listed_all : (P Q : X → Type 0) (xs : List X) → ((x : X) → P x → Q x) → AreListed Before P xs → All Q xs
  listed_all P Q xs to h = everywhere xs (λ k x at. to x ((h.contains x).0 (contained_at xs k x at)))

  module _ (P Q R : X → Type 0) (xs ys : List X) (h : AreListed Before P xs) (g : AreListed Before Q ys) (apart : (x y : X) → P x
      → Q y → Before x y) where
    -- an element of the first list comes before one of the second, and the elements of each are in order
    in_order : (j k : ℕ) (x y : X) → j < k → (slice_get xs j ≡ Some x) ⊎ ((i : ℕ) × (j ≡ length xs + i) × (slice_get ys i ≡ Some x))
        → (slice_get xs k ≡ Some y) ⊎ ((i : ℕ) × (k ≡ length xs + i) × (slice_get ys i ≡ Some y)) → Before x y
    in_order j k x y l (inl at) (inl there) = h.order j k x y l at there
    in_order j k x y l (inl at) (inr (i, e, there)) =
        apart x y ((h.contains x).0 (contained_at xs j x at)) ((g.contains y).0 (contained_at ys i y there))
    in_order j k x y l (inr (i, e, at)) (inl there) =
        let within = slice_get_within xs k y there in absurd (omega (arith, l, e, within))
    in_order j k x y l (inr (i, e, at)) (inr (m, d, there)) = g.order i m x y (omega (arith, l, e, d)) at there

    -- two lists one after the other have what the one or the other has
    pub listed_joined : ((x : X) → R x → P x ⊎ Q x) → ((x : X) → P x → R x) → ((x : X) → Q x → R x) → AreListed Before R (xs ++ ys)
    listed_joined split left right = record {
      contains = λ x. (
        λ c. ⊎_elim (λ a. left x ((h.contains x).0 a)) (λ b. right x ((g.contains x).0 b)) (Contains-append_cases xs ys x c),
        λ r. ⊎_elim (λ p. Contains-append_left xs ys x ((h.contains x).1 p))
            (λ q. Contains-append_right xs ys x ((g.contains x).1 q)) (split x r),
      );
      order = λ j k x y l at there. in_order j k x y l (get_cases xs ys j x at) (get_cases xs ys k y there);
    }

-- ---- one list

module _ {X : Type 0} (Before : X → X → Type 0) (apart : (x y : X) → Before x y → Before y x → ⊥) where
  -- what stands earlier comes before what stands later
  abbrev Ordered : List X → Type 0
  Ordered xs = (j k : ℕ) (x y : X) → j < k → slice_get xs j ≡ Some x → slice_get xs k ≡ Some y → Before x y

  before_later : (x y : X) (xs : List X) → Ordered (x ∷ xs) → Contains xs y → Before x y
  before_later x y xs h (k, l, e) = h 0 (suc k) x y (omega arith) refl (slice_get-get_or xs k y l ∙ ap (λ z. Some z) e)

  ordered_rest : (x : X) (xs : List X) → Ordered (x ∷ xs) → Ordered xs
  ordered_rest x xs h j k y z l at there = h (suc j) (suc k) y z (omega (arith, l)) at there

  same_first : (x y : X) (xs ys : List X) → Ordered (x ∷ xs) → Ordered (y ∷ ys) → Contains (y ∷ ys) x → Contains (x ∷ xs) y → x ≡ y
  same_first x y xs ys h g in_ys in_xs = ⊎_elim
      (λ e. sym e)
      (λ later. ⊎_elim (λ e. e) (λ after. absurd (apart x y (before_later x y xs h after) (before_later y x ys g later)))
      (contains_cases x y xs in_xs))
      (contains_cases y x ys in_ys)

  -- a later element is also a later element of the other list
  also_later : (x y z : X) (xs ys : List X) → Ordered (x ∷ xs) → x ≡ y → Contains xs z → Contains (y ∷ ys) z → Contains ys z
  also_later x y z xs ys h e in_xs in_ys = ⊎_elim
      (λ same.
      let after : Before x x = subst (Before x) (sym (e ∙ same)) (before_later x z xs h in_xs) in
      absurd (apart x x after after))
      (λ c. c)
      (contains_cases y z ys in_ys)

  same_lists : (xs ys : List X) → Ordered xs → Ordered ys → ((z : X) → Contains xs z → Contains ys z)
      → ((z : X) → Contains ys z → Contains xs z) → xs ≡ ys
  same_lists [] [] h g to from = refl
  same_lists [] (y ∷ ys) h g to from = absurd (contains_none y (from y (contains_first y ys)))
  same_lists (x ∷ xs) [] h g to from = absurd (contains_none x (to x (contains_first x xs)))
  same_lists (x ∷ xs) (y ∷ ys) h g to from =
      let e = same_first x y xs ys h g (to x (contains_first x xs)) (from y (contains_first y ys)) in
      let rest = same_lists xs ys (ordered_rest x xs h) (ordered_rest y ys g)
      (λ z c. also_later x y z xs ys h e c (to z (contains_after x z xs c)))
      (λ z c. also_later y x z ys xs g (sym e) c (from z (contains_after y z ys c))) in
      ap₂ (λ a (zs : List X). a ∷ zs) e rest

  -- there is one list of what P holds of
  pub one_listed : (P : X → Type 0) (xs ys : List X) → AreListed Before P xs → AreListed Before P ys → xs ≡ ys
  one_listed P xs ys h g = same_lists xs ys h.order g.order (λ z c. (g.contains z).1 ((h.contains z).0 c))
      (λ z c. (h.contains z).1 ((g.contains z).0 c))

-- of two numbers one is not both before and after the other
pub rising_apart : (m n : ℕ) → IsLess m n → IsLess n m → ⊥
rising_apart m n l g = omega (arith, l, g)

-- ---- numbers that are looked at one after the other

-- P holds of the number, which is before n
abbrev pub BeforeAnd : (ℕ → Type 0) → ℕ → ℕ → Type 0
BeforeAnd P n m = (m < n) × P m

-- a number before n + 1 is before n, or n
before_next : (P : ℕ → Type 0) (n m : ℕ) → BeforeAnd P (n + 1) m → BeforeAnd P n m ⊎ (n ≡ m)
before_next P n m (l, p) = ⊎_elim (λ same. inr (sym same)) (λ other. inl (omega (arith, l, other), p)) (cases_eq m n)

-- the numbers before n of which P holds, and n
pub number_more : (P : ℕ → Type 0) (xs : List ℕ) (n : ℕ) → P n → AreListed IsLess (BeforeAnd P n) xs
    → AreListed IsLess (BeforeAnd P (n + 1)) (xs ++ n ∷ [])
number_more P xs n p h =
    listed_joined IsLess (BeforeAnd P n) (λ m. n ≡ m) (BeforeAnd P (n + 1)) xs (n ∷ []) h
    (listed_one IsLess (λ m. n ≡ m) n refl (λ m e. e))
    (λ x y before e. let l = before.0 in omega (arith, l, e))
    (before_next P n)
    (λ x before. let l = before.0 in (omega (arith, l), before.1))
    (λ x e. (omega (arith, e), subst P e p))

-- the numbers before n are those before n + 1 where P doesn't hold of n
pub number_same : (P : ℕ → Type 0) (xs : List ℕ) (n : ℕ) → (P n → ⊥) → AreListed IsLess (BeforeAnd P n) xs
    → AreListed IsLess (BeforeAnd P (n + 1)) xs
number_same P xs n never h =
    listed_same IsLess (BeforeAnd P n) (BeforeAnd P (n + 1)) xs
    (λ x before. let l = before.0 in (omega (arith, l), before.1))
    (λ x before. ⊎_elim (λ b. b) (λ e. absurd (never (subst P (sym e) before.1))) (before_next P n x before))
    h

-- nothing is listed before the least number of which P holds
pub numbers_none : (P : ℕ → Type 0) (xs : List ℕ) (n : ℕ) → xs ≡ [] → ((m : ℕ) → P m → n ≤ m) → AreListed IsLess (BeforeAnd P n) xs
numbers_none P xs n empty least =
    subst (AreListed IsLess (BeforeAnd P n)) (sym empty)
    (listed_none IsLess (BeforeAnd P n) (λ m (l, p). let low = least m p in omega (arith, l, low)))

-- and all are listed after the greatest
pub numbers_all : (P : ℕ → Type 0) (xs : List ℕ) (n : ℕ) → ((m : ℕ) → P m → m < n) → AreListed IsLess (BeforeAnd P n) xs
    → AreListed IsLess P xs
numbers_all P xs n most h = listed_same IsLess (BeforeAnd P n) P xs (λ m (l, p). p) (λ m p. (most m p, p)) h
