-- A list that is added to a table, so that what it adds is the least that any list could.
use Rattle.std.proofs.Common.{◌≡◌, ℕ, ◌+◌, ◌-◌, ◌<◌, ◌≤◌, zero, suc, refl, sym, ap, ◌∙◌, subst, inl, inr, arith, Bool, true, false, cond}
use Rattle.std.proofs.Common.{◌&&◌, List, [], ◌∷◌, ◌++◌, length, take, drop, length-append}
use Rattle.std.specs.Prelude.{Contains}
use Rattle.std.specs.List.{starts_with, AllZip}
use Rattle.std.specs.Cmp.{IsEquivalence}
use Rattle.std.specs.Cmp.Lexicographic.{pointwise, as_long, lists_equiv}
use Rattle.std.proofs.lemmas.Bool.{cases_lt, lt-ltb, le-ltb, and_parts}
use Rattle.std.proofs.lemmas.List.{take_all, take-take, drop-take, length-take, length-take-le, length-drop, take-append-drop}
use Rattle.std.proofs.lemmas.List.{take-append-le, drop-append-le, nil_from_length, get_or-drop}
use Rattle.meta_unique.specs.Overlap.{AreAlike, stands_at, is_shared, first_place, shared, added, IsShortest}

-- The table gained what follows the first n elements of the list, the longest tail of the table that is a proper prefix of it.
-- The list stood nowhere in the table.
pub record Extension {X : Type 0} (eq : X → X → Bool) (table list new : List X) (n : ℕ) : Type 0 where
  pub proper : n < length list
  pub gained : (ys : List X) × (new ≡ table ++ ys) × AreAlike eq (drop n list) ys
  pub absent : first_place eq table list ≡ length table
  pub never : (k : ℕ) → k < length table → stands_at eq table list k ≡ false
  pub count : n ≡ shared eq table list
  pub tail : is_shared eq table list n ≡ true
  pub longest : (k : ℕ) → n < k → k < length list → is_shared eq table list k ≡ false

module _ {X : Type 0} (eq : X → X → Bool) where
  both : (a b : Bool) → a ≡ true → b ≡ true → (a && b) ≡ true
  both a b e f = ap (λ w. w && b) e ∙ f

  alike_append : (xs ys xs' ys' : List X) → AreAlike eq xs xs' → AreAlike eq ys ys' → AreAlike eq (xs ++ ys) (xs' ++ ys')
  alike_append [] ys [] ys' e f = f
  alike_append [] ys (x ∷ xs') ys' e f = (cc)
  alike_append (x ∷ xs) ys [] ys' e f = (cc)
  alike_append (x ∷ xs) ys (x' ∷ xs') ys' e f =
      let p = and_parts (eq x x') (pointwise eq xs xs') e in both (eq x x') _ p.0 (alike_append xs ys xs' ys' p.1 f)

  alike_take : (n : ℕ) (xs ys : List X) → AreAlike eq xs ys → AreAlike eq (take n xs) (take n ys)
  alike_take zero xs ys e = refl
  alike_take (suc n) [] [] e = refl
  alike_take (suc n) [] (y ∷ ys) e = (cc)
  alike_take (suc n) (x ∷ xs) [] e = (cc)
  alike_take (suc n) (x ∷ xs) (y ∷ ys) e = let p = and_parts (eq x y) (pointwise eq xs ys) e in both (eq x y) _ p.0 (alike_take n xs ys p.1)

  alike_drop : (n : ℕ) (xs ys : List X) → AreAlike eq xs ys → AreAlike eq (drop n xs) (drop n ys)
  alike_drop zero xs ys e = e
  alike_drop (suc n) [] [] e = refl
  alike_drop (suc n) [] (y ∷ ys) e = (cc)
  alike_drop (suc n) (x ∷ xs) [] e = (cc)
  alike_drop (suc n) (x ∷ xs) (y ∷ ys) e = alike_drop n xs ys (and_parts (eq x y) (pointwise eq xs ys) e).1

  -- clones of what equals its clones
  alike_clones : (is_clone : X → X → Type 0) (more ys : List X)
      → ((x y : X) → Contains more x → is_clone x y → eq x y ≡ true) → AllZip is_clone more ys → AreAlike eq more ys
  alike_clones is_clone [] [] each zip = refl
  alike_clones is_clone [] (y ∷ ys) each zip = absurd zip
  alike_clones is_clone (x ∷ more) [] each zip = absurd zip
  alike_clones is_clone (x ∷ more) (y ∷ ys) each zip =
      both (eq x y) _ (each x y (0, omega arith, refl) zip.0)
      (alike_clones is_clone more ys (λ a b inside clone. each a b (suc inside.0, omega (arith, inside.1), inside.2) clone) zip.1)

  -- the last n elements of the table, which are the first n of the list
  tail_alike : (table list : List X) (n : ℕ) → n ≤ length list → is_shared eq table list n ≡ true
      → AreAlike eq (take n list) (drop (length table - n) table)
  tail_alike table list n le h = subst (λ k. AreAlike eq (take n list) (drop (length table - k) table)) (length-take-le n list le) h

  contains_later : (list : List X) (n : ℕ) (x : X) → Contains (drop n list) x → Contains list x
  contains_later list n x c = (n + c.0, omega (arith, c.1, length-drop n list), sym (get_or-drop n list c.0 x) ∙ c.2)

  -- clones of the rest of a list
  pub rest_alike : (is_clone : X → X → Type 0) (list ys : List X) (n : ℕ)
      → ((x y : X) → Contains list x → is_clone x y → eq x y ≡ true) → AllZip is_clone (drop n list) ys → AreAlike eq (drop n list) ys
  rest_alike is_clone list ys n each zip = alike_clones is_clone (drop n list) ys
      (λ x y c clone. each x y (contains_later list n x c) clone) zip

  pub added_empty : (table list : List X) → length list ≡ 0 → added eq table list ≡ table
  added_empty table list e = ap (added eq table) (nil_from_length list e)

  pub added_stood : (table list : List X) → first_place eq table list < length table → added eq table list ≡ table
  added_stood table [] h = refl
  added_stood table (x ∷ xs) h = ap (λ b. cond b table (table ++ drop (shared eq table (x ∷ xs)) (x ∷ xs))) (lt-ltb _ _ h)

  pub stands_empty : (table list : List X) → length list ≡ 0 → stands_at eq table list 0 ≡ true
  stands_empty table list e = ap (λ w. stands_at eq table w 0) (nil_from_length list e)

  -- no list with the table in front is shorter than the table
  pub shortest_kept : (table list : List X) → IsShortest eq table list table
  shortest_kept table list other place front stands =
      omega (arith, as_long eq table (take (length table) other) front, length-take (length table) other)

  pub shared_inside : (table list : List X) (n : ℕ) → n ≤ length list → is_shared eq table list n ≡ true → n ≤ length table
  shared_inside table list n le h =
      omega (
        arith,
        as_long eq (take n list) (drop (length table - n) table) (tail_alike table list n le h),
        length-take-le n list le,
        length-drop (length table - n) table,
      )

  pub kept_new : (table list new : List X) (n : ℕ) → Extension eq table list new n → take (length table) new ≡ table
  kept_new table list new n x = ap (take (length table)) x.gained.1
      ∙ take-append-le (length table) table x.gained.0 (omega arith) ∙ take_all (length table) table (omega arith)

  pub added_new : (table list : List X) → 0 < length list → first_place eq table list ≡ length table
      → added eq table list ≡ table ++ drop (shared eq table list) list
  added_new table [] some h = absurd (omega arith)
  added_new table (x ∷ xs) some h = ap (λ b. cond b table (table ++ drop (shared eq table (x ∷ xs)) (x ∷ xs))) (le-ltb _ _ (omega arith))

  module _ (laws : IsEquivalence eq) where
    pub alike_same : (xs ys : List X) → xs ≡ ys → AreAlike eq xs ys
    alike_same xs ys e = subst (AreAlike eq xs) e ((lists_equiv laws).refl xs)

    alike_sym : (xs ys : List X) → AreAlike eq xs ys → AreAlike eq ys xs
    alike_sym xs ys e = (lists_equiv laws).symm ys xs ∙ e

    alike_trans : (xs ys zs : List X) → AreAlike eq xs ys → AreAlike eq ys zs → AreAlike eq xs zs
    alike_trans xs ys zs e f = (lists_equiv laws).congr xs ys zs e ∙ f

    -- a table that gained what follows its longest tail that is a proper prefix of the list
    module _ (table list new : List X) (n : ℕ) (x : Extension eq table list new n) where
      pub made_new : AreAlike eq (added eq table list) new
      made_new = subst (λ w. AreAlike eq w new)
          (sym (added_new table list (omega (arith, x.proper)) x.absent ∙ ap (λ k. table ++ drop k list) (sym x.count)))
          (subst (AreAlike eq (table ++ drop n list)) (sym x.gained.1)
          (alike_append table (drop n list) table x.gained.0 (alike_same table table refl) x.gained.2))

      tail_is : AreAlike eq (take n list) (drop (length table - n) table)
      tail_is = tail_alike table list n (omega (arith, x.proper)) x.tail

      whole : AreAlike eq list (drop (length table - n) table ++ x.gained.0)
      whole = subst (λ w. AreAlike eq w (drop (length table - n) table ++ x.gained.0)) (take-append-drop n list)
          (alike_append (take n list) (drop n list) (drop (length table - n) table) x.gained.0 tail_is x.gained.2)

      pub stands_new : stands_at eq new list (length table - n) ≡ true
      stands_new =
          let long = as_long eq list (drop (length table - n) table ++ x.gained.0) whole in
          subst (λ w. stands_at eq w list (length table - n) ≡ true) (sym x.gained.1)
          (subst (λ w. pointwise eq list (take (length list) w) ≡ true)
          (sym (drop-append-le (length table - n) table x.gained.0 (omega arith)))
          (subst (λ w. pointwise eq list w ≡ true)
          (sym (take_all (length list) (drop (length table - n) table ++ x.gained.0) (omega (arith, long)))) whole))

      -- where another list has the table in front and the list at a place, the two lie over one another
      over : (other : List X) (place j : ℕ) → starts_with eq other table ≡ true → stands_at eq other list place ≡ true
          → place + j ≤ length table → j ≤ length list → AreAlike eq (take j list) (take j (drop place table))
      over other place j front stands in_table in_list =
          let a = alike_take j list (take (length list) (drop place other)) stands in
          let b = alike_take j (drop place table) (drop place (take (length table) other))
          (alike_drop place table (take (length table) other) front) in
          let c : take j (take (length list) (drop place other)) ≡ take j (drop place other) =
          take-take j (length list) (drop place other) in_list in
          let d : drop place (take (length table) other) ≡ take (length table - place) (drop place other) =
          ap (λ k. drop place (take k other)) (omega arith) ∙ drop-take place (length table - place) other in
          let e : take j (drop place (take (length table) other)) ≡ take j (drop place other) = ap (take j) d
          ∙ take-take j (length table - place) (drop place other) (omega arith) in
          alike_trans (take j list) (take j (drop place other)) (take j (drop place table))
          (subst (AreAlike eq (take j list)) c a)
          (alike_sym (take j (drop place table)) (take j (drop place other)) (subst (AreAlike eq (take j (drop place table))) e b))

      -- a longer overlap would be a place in the table or a longer tail
      longer : (other : List X) (place : ℕ) → starts_with eq other table ≡ true → stands_at eq other list place ≡ true
          → place + n < length table → ⊥
      longer other place front stands early = elim (cases_lt (length table) (place + length list)) [
        | inl past ↦
            let k : ℕ = length table - place in
            let o : AreAlike eq (take k list) (drop place table) =
            subst (AreAlike eq (take k list)) (take_all k (drop place table) (omega (arith, length-drop place table)))
            (over other place k front stands (omega arith) (omega arith)) in
            let t : is_shared eq table list k ≡ true = subst (λ w. AreAlike eq (take k list) (drop w table))
            (omega (arith, length-take-le k list (omega arith))) o in
            let f = x.longest k (omega arith) (omega arith) in (cc)
        | inr within ↦
            let o : stands_at eq table list place ≡ true =
            subst (λ w. AreAlike eq w (take (length list) (drop place table)))
            (take_all (length list) list (omega arith)) (over other place (length list) front stands (omega arith) (omega arith)) in
            let f = x.never place (omega arith) in (cc)
      ]

      standing_length : (other : List X) (place : ℕ) → stands_at eq other list place ≡ true → length list ≤ length other - place
      standing_length other place stands =
          let e = as_long eq list (take (length list) (drop place other)) stands in
          omega (arith, e, length-take (length list) (drop place other), length-drop place other)

      new_length : length new + n ≡ length table + length list
      new_length =
          let e = as_long eq (drop n list) x.gained.0 x.gained.2 in
          omega (arith, ap length x.gained.1, length-append table x.gained.0, e, length-drop n list, x.proper)

      pub shortest_new : IsShortest eq table list new
      shortest_new other place front stands = elim (cases_lt (place + n) (length table)) [
        | inl early ↦ absurd (longer other place front stands early)
        | inr late ↦ omega (arith, new_length, standing_length other place stands, x.proper)
      ]
