-- The places of the items of a sort.
use Rattle.std.proofs.Common.{◌≡◌, ℕ, zero, suc, ◌+◌, Bool, true, false, cond, List, [], ◌∷◌, ◌++◌, Some, length, take, slice_get, refl}
use Rattle.std.proofs.Common.{sym, ap, ◌∙◌, arith, add-zero}
use Rattle.std.specs.List.{count_by}
use Rattle.std.proofs.lemmas.List.Sums.{sum_by-cons}
use Rattle.meta_file_syntax.specs.declared.items.Item.{Item}
use Rattle.meta_file_declare.specs.Places.{places_from, places_of}

-- the item at place k is so, and n others above it are
pub record IsNth (is : Item → Bool) (items : List Item) (k n : ℕ) : Type 0 where
  pub item : Item
  pub at : slice_get items k ≡ Some item
  pub so : is item ≡ true
  pub above : count_by is (take k items) ≡ n

module _ (is : Item → Bool) where
  -- the n-th of the places, where the first item stands at place s
  record IsPlaceOf (s : ℕ) (items : List Item) (n k : ℕ) : Type 0 where
    pub after : ℕ
    pub place : k ≡ s + after
    pub nth : IsNth is items after n

  later : (s : ℕ) (i : Item) (items : List Item) (n m k : ℕ) (b : Bool) → is i ≡ b → cond b 1 0 + n ≡ m → IsPlaceOf (s + 1) items n k
      → IsPlaceOf s (i ∷ items) m k
  later s i items n m k b e more h =
      record {
        after = suc h.after;
        place = omega (arith, h.place);
        nth = record {
          item = h.nth.item;
          at = h.nth.at;
          so = h.nth.so;
          above = sum_by-cons (λ (x : Item). cond (is x) 1 0) i (take h.after items)
              ∙ ap (λ (c : Bool). cond c 1 0 + count_by is (take h.after items)) e ∙ ap (λ (x : ℕ). cond b 1 0 + x) h.nth.above ∙ more;
        };
      }

  step : (s : ℕ) (i : Item) (items : List Item) (k : ℕ) (b : Bool) (n : ℕ) → is i ≡ b
      → ((m : ℕ) → slice_get (places_from is (s + 1) items) m ≡ Some k → IsPlaceOf (s + 1) items m k)
      → slice_get (cond b (s ∷ places_from is (s + 1) items) (places_from is (s + 1) items)) n ≡ Some k → IsPlaceOf s (i ∷ items) n k
  step s i items k true zero e rest h =
      let first : s ≡ k = cc in
      record { after = 0; place = omega (arith, first); nth = record { item = i; at = refl; so = e; above = refl } }
  step s i items k true (suc m) e rest h = later s i items m (suc m) k true e (omega arith) (rest m h)
  step s i items k false n e rest h = later s i items n n k false e (omega arith) (rest n h)

  place_is : (s : ℕ) (items : List Item) (n k : ℕ) → slice_get (places_from is s items) n ≡ Some k → IsPlaceOf s items n k
  place_is s [] n k h = absurd (cc)
  place_is s (i ∷ items) n k h = step s i items k (is i) n refl (λ m g. place_is (s + 1) items m k g) h

  pub nth_is : (items : List Item) (n k : ℕ) → slice_get (places_of is items) n ≡ Some k → IsNth is items k n
  nth_is items n k h =
      let found = place_is 0 items n k h in
      let same : found.after ≡ k = omega (arith, found.place) in
      subst_nth found.after k same found.nth
    where
      subst_nth : (j k : ℕ) → j ≡ k → IsNth is items j n → IsNth is items k n
      subst_nth j k e h = record {
        item = h.item;
        at = ap (slice_get items) (sym e) ∙ h.at;
        so = h.so;
        above = ap (λ (x : ℕ). count_by is (take x items)) (sym e) ∙ h.above;
      }

  -- with one item more
  from_more : (s : ℕ) (items : List Item) (i : Item)
      → places_from is s (items ++ i ∷ []) ≡ places_from is s items ++ cond (is i) ((s + length items) ∷ []) []
  from_more s [] i = ap (λ (n : ℕ). cond (is i) (n ∷ []) []) (sym (add-zero s))
  from_more s (x ∷ items) i =
      let next : (s + 1) + length items ≡ s + length (x ∷ items) = omega arith in
      let rest : places_from is (s + 1) (items ++ i ∷ [])
      ≡ places_from is (s + 1) items ++ cond (is i) ((s + length (x ∷ items)) ∷ []) [] =
      from_more (s + 1) items i ∙ ap (λ (n : ℕ). places_from is (s + 1) items ++ cond (is i) (n ∷ []) []) next in
      elim (is x) as (λ b. cond b (s ∷ places_from is (s + 1) (items ++ i ∷ [])) (places_from is (s + 1) (items ++ i ∷ []))
      ≡ cond b (s ∷ places_from is (s + 1) items) (places_from is (s + 1) items) ++ cond (is i) ((s + length (x ∷ items)) ∷ []) []) [
        | true ↦ ap (λ (ns : List ℕ). s ∷ ns) rest
        | false ↦ rest
      ]

  pub places_more : (items : List Item) (i : Item)
      → places_of is (items ++ i ∷ []) ≡ places_of is items ++ cond (is i) (length items ∷ []) []
  places_more items i =
      let e : 0 + length items ≡ length items = omega arith in
      from_more 0 items i ∙ ap (λ (n : ℕ). places_of is items ++ cond (is i) (n ∷ []) []) e
