-- Overlapping lists of names for things are overlapping lists of the things.
use Rattle.std.proofs.Common.{◌≡◌, ℕ, ◌+◌, ◌-◌, ◌≤◌, zero, suc, Bool, true, false, cond, ◌&&◌, List, [], ◌∷◌, ◌++◌, All, length}
use Rattle.std.proofs.Common.{length-append, take, drop, map, refl, sym, ap, ◌∙◌, arith}
use Rattle.std.specs.Prelude.{nat_lt}
use Rattle.std.specs.Cmp.Lexicographic.{pointwise}
use Rattle.std.proofs.lemmas.List.{take-map, drop-map, length-map, length-drop, map-append}
use Rattle.std.proofs.lemmas.List.Elements.{All-take, All-drop, All-append}
use Rattle.meta_unique.specs.Overlap.{least, greatest, stands_at, is_shared, first_place, shared, added, added_at}

least_same : (test other : ℕ → Bool) → ((k : ℕ) → test k ≡ other k) → (n : ℕ) → least test n ≡ least other n
unfolding least
least_same test other same zero = refl
least_same test other same (suc n) = ap (λ b. cond b 0 (suc (least (λ k. test (suc k)) n))) (same 0)
    ∙ ap (λ m. cond (other 0) 0 (suc m)) (least_same (λ k. test (suc k)) (λ k. other (suc k)) (λ k. same (suc k)) n)

greatest_same : (test other : ℕ → Bool) → ((k : ℕ) → test k ≡ other k) → (n : ℕ) → greatest test n ≡ greatest other n
unfolding greatest
greatest_same test other same zero = refl
greatest_same test other same (suc n) = ap (λ b. cond b (suc n) (greatest test n)) (same (suc n))
    ∙ ap (λ m. cond (other (suc n)) (suc n) m) (greatest_same test other same n)

greatest_most : (test : ℕ → Bool) (n : ℕ) → greatest test n ≤ n
unfolding greatest
greatest_most test zero = omega arith
greatest_most test (suc n) =
    elim (test (suc n)) as (λ b. cond b (suc n) (greatest test n)
    ≤ suc n) [ true ↦ omega arith | false ↦ let l = greatest_most test n in omega arith ]

least_most : (test : ℕ → Bool) (n : ℕ) → least test n ≤ n
unfolding least
least_most test zero = omega arith
least_most test (suc n) =
    elim (test 0) as (λ b. cond b 0 (suc (least (λ k. test (suc k)) n))
    ≤ suc n) [ true ↦ omega arith | false ↦ let l = least_most (λ k. test (suc k)) n in omega arith ]

-- ---- where a list stands, and how long a table is

module _ {X : Type 0} (eq : X → X → Bool) where
  pub place_inside : (table list : List X) → added_at eq table list ≤ length table
  place_inside table [] = omega arith
  place_inside table (x ∷ xs) = elim (nat_lt (first_place eq table (x ∷ xs)) (length table)) as
      (λ b. cond b (first_place eq table (x ∷ xs)) (length table - shared eq table (x ∷ xs)) ≤ length table) [
        | true ↦ least_most (stands_at eq table (x ∷ xs)) (length table)
        | false ↦ omega arith
      ]

  pub added_most : (table list : List X) → length (added eq table list) ≤ length table + length list
  added_most table [] = omega arith
  added_most table (x ∷ xs) = elim (nat_lt (first_place eq table (x ∷ xs)) (length table)) as
      (λ b. length (cond b table (table ++ drop (shared eq table (x ∷ xs)) (x ∷ xs))) ≤ length table + length (x ∷ xs)) [
        | true ↦ omega arith
        | false ↦ let long = length-append table (drop (shared eq table (x ∷ xs)) (x ∷ xs)) in
            let rest = length-drop (shared eq table (x ∷ xs)) (x ∷ xs) in omega (arith, long, rest)
      ]

  pub added_all : (P : X → Type 0) (table list : List X) → All P table → All P list → All P (added eq table list)
  added_all P table [] t l = t
  added_all P table (x ∷ xs) t l = elim (nat_lt (first_place eq table (x ∷ xs)) (length table)) as
      (λ b. All P (cond b table (table ++ drop (shared eq table (x ∷ xs)) (x ∷ xs)))) [
        | true ↦ t
        | false ↦ All-append P table (drop (shared eq table (x ∷ xs)) (x ∷ xs)) t (All-drop P (shared eq table (x ∷ xs)) (x ∷ xs) l)
      ]

-- ---- names are equal exactly where what they name is

module _ {X Y : Type 0} (eq : X → X → Bool) (eq' : Y → Y → Bool) (f : X → Y) (P : X → Type 0) (agree : (x y : X) → P x
    → P y → eq x y ≡ eq' (f x) (f y)) where
  head_all : (x : X) (xs : List X) → All P (x ∷ xs) → P x
  head_all x xs a = a 0 x (omega arith)

  tail_all : (x : X) (xs : List X) → All P (x ∷ xs) → All P xs
  tail_all x xs a = λ k d l. a (suc k) d (omega arith)

  same_pointwise : (xs ys : List X) → All P xs → All P ys → pointwise eq xs ys ≡ pointwise eq' (map f xs) (map f ys)
  same_pointwise [] [] a b = refl
  same_pointwise [] (y ∷ ys) a b = refl
  same_pointwise (x ∷ xs) [] a b = refl
  same_pointwise (x ∷ xs) (y ∷ ys) a b =
      ap (λ t. t && pointwise eq xs ys) (agree x y (head_all x xs a) (head_all y ys b))
      ∙ ap (λ t. eq' (f x) (f y) && t) (same_pointwise xs ys (tail_all x xs a) (tail_all y ys b))

  same_stands : (table list : List X) → All P table → All P list → (place : ℕ)
      → stands_at eq table list place ≡ stands_at eq' (map f table) (map f list) place
  same_stands table list a b place =
      same_pointwise list (take (length list) (drop place table)) b (All-take P (length list) (drop place table) (All-drop P place table a))
      ∙ ap (λ w. pointwise eq' (map f list) w) (sym (take-map f (length list) (drop place table))
      ∙ ap (λ w. take (length list) w) (sym (drop-map f place table))
      ∙ ap (λ n. take n (drop place (map f table))) (sym (length-map list f)))

  same_shared : (table list : List X) → All P table → All P list → (n : ℕ)
      → is_shared eq table list n ≡ is_shared eq' (map f table) (map f list) n
  same_shared table list a b n =
      same_pointwise (take n list) (drop (length table - length (take n list)) table) (All-take P n list b)
      (All-drop P (length table - length (take n list)) table a)
      ∙ ap (λ w. pointwise eq' w (map f (drop (length table - length (take n list)) table))) (sym (take-map f n list))
      ∙ ap (λ w. pointwise eq' (take n (map f list)) w) (sym (drop-map f (length table - length (take n list)) table)
      ∙ ap (λ m. drop m (map f table)) (lengths (sym (length-map table f)) (sym (length-map (take n list) f)
      ∙ ap length (sym (take-map f n list)))))
    where
      lengths : {a b c d : ℕ} → a ≡ b → c ≡ d → a - c ≡ b - d
      lengths e g = omega arith

  module _ (table : List X) (a : All P table) where
    same_first : (list : List X) → All P list → first_place eq table list ≡ first_place eq' (map f table) (map f list)
    same_first list b = least_same (stands_at eq table list) (stands_at eq' (map f table) (map f list))
        (same_stands table list a b) (length table) ∙ ap (least (stands_at eq' (map f table) (map f list))) (sym (length-map table f))

    same_count : (list : List X) → All P list → shared eq table list ≡ shared eq' (map f table) (map f list)
    same_count list b = greatest_same (is_shared eq table list) (is_shared eq' (map f table) (map f list))
        (same_shared table list a b) (length list - 1)
        ∙ ap (λ n. greatest (is_shared eq' (map f table) (map f list)) (n - 1)) (sym (length-map list f))

    pub same_added : (list : List X) → All P list → map f (added eq table list) ≡ added eq' (map f table) (map f list)
    same_added [] b = refl
    same_added (x ∷ xs) b =
        over (nat_lt (first_place eq table (x ∷ xs)) (length table)) (shared eq table (x ∷ xs))
        ∙ tests (same_first (x ∷ xs) b) (sym (length-map table f)) (same_count (x ∷ xs) b)
      where
        over : (t : Bool) (n : ℕ) → map f (cond t table (table ++ drop n (x ∷ xs)))
            ≡ cond t (map f table) (map f table ++ drop n (map f (x ∷ xs)))
        over true n = refl
        over false n = map-append f table (drop n (x ∷ xs)) ∙ ap (λ w. map f table ++ w) (sym (drop-map f n (x ∷ xs)))

        tests : {i j m n c d : ℕ} → i ≡ j → m ≡ n → c ≡ d
            → cond (nat_lt i m) (map f table) (map f table ++ drop c (map f (x ∷ xs)))
            ≡ cond (nat_lt j n) (map f table) (map f table ++ drop d (map f (x ∷ xs)))
        tests e g h = cc

    pub same_place : (list : List X) → All P list → added_at eq table list ≡ added_at eq' (map f table) (map f list)
    same_place [] b = refl
    same_place (x ∷ xs) b = tests (same_first (x ∷ xs) b) (sym (length-map table f)) (same_count (x ∷ xs) b)
      where
        tests : {i j m n c d : ℕ} → i ≡ j → m ≡ n → c ≡ d → cond (nat_lt i m) i (m - c) ≡ cond (nat_lt j n) j (n - d)
        tests e g h = cc
