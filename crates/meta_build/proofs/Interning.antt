-- Lists of sets that grow by what is needed.
use Rattle.std.proofs.Common.{◌≡◌, ◌<◌, ◌≤◌, Bool, true, false, ◌⊎◌, inl, inr, ⊎_elim, ℕ, zero, suc, ◌+◌, List, [], ◌∷◌, ◌++◌, length}
use Rattle.std.proofs.Common.{slice_get, Some, refl, sym, ap, ◌∙◌, subst, arith}
use Rattle.std.proofs.lemmas.Bool.{cases_lt, cases_order, false≢true}
use Rattle.std.proofs.lemmas.Option.{slice_get_within, same_Some}
use Rattle.meta_lists.proofs.Places.{get_stays}
use Rattle.meta_lists.proofs.Pushed.{get_end, get_pushed_below}
use Rattle.meta_typevar.specs.Compared.{are_equal}
use Rattle.meta_typevar.specs.TypeSetParts.{TypeSetParts, IsTypeSet}
use Rattle.meta_typevar.specs.Registry.{HoldTypeSets}
use Rattle.meta_typevar.proofs.EqualSets.{one_set, equal_self}
use Rattle.meta_inst.specs.Instruction.{controls_of}
use Rattle.meta_inst.specs.Which.{Which, First, Second}
use Rattle.meta_inst.specs.InstructionSet.{InstructionSet, root_sets, instruction_in_set}
use Rattle.meta_inst.specs.Faults.{IsControlSet, IsFreeSet, NeedsSetAt}
use Rattle.meta_unique.specs.Interning.{IsIndexOf, IsNew}
use Rattle.meta_build.specs.Needed.{NeedsUnder, NeedsInOrder, ComesBefore, IsNeededBefore, AreSetsByNeed}
use Rattle.meta_build.specs.Interned.{Adds, AddsSome, AddsEach}

true_or_false : (b : Bool) → (b ≡ true) ⊎ (b ≡ false)
true_or_false true = inl refl
true_or_false false = inr refl

-- an equal set stands in the list, or none does
abbrev StandsOrNot : List TypeSetParts → TypeSetParts → Type 0
StandsOrNot sets s = ((i : ℕ) × IsIndexOf are_equal sets s i) ⊎ IsNew are_equal sets s

one_more_is_new : (x : TypeSetParts) (xs : List TypeSetParts) (s : TypeSetParts) → are_equal s x ≡ false → IsNew are_equal xs s
    → IsNew are_equal (x ∷ xs) s
one_more_is_new x xs s e n zero h = let t : x ≡ h.entry = same_Some x h.entry h.there in false≢true (sym e ∙ ap (are_equal s) t ∙ h.equal)
one_more_is_new x xs s e n (suc i) h = n i (record { entry = h.entry; there = h.there; equal = h.equal })

index_more : (x : TypeSetParts) (xs : List TypeSetParts) (s : TypeSetParts) → StandsOrNot xs s
    → (are_equal s x ≡ true) ⊎ (are_equal s x ≡ false) → StandsOrNot (x ∷ xs) s
index_more x xs s h (inl e) = inl (0, record { entry = x; there = refl; equal = e })
index_more x xs s (inl h) (inr e) = inl (suc h.0, record { entry = h.1.entry; there = h.1.there; equal = h.1.equal })
index_more x xs s (inr n) (inr e) = inr (one_more_is_new x xs s e n)

index_or_new : (sets : List TypeSetParts) (s : TypeSetParts) → StandsOrNot sets s
index_or_new [] s = inr (λ i h. let e = h.there in absurd (cc))
index_or_new (x ∷ xs) s = index_more x xs s (index_or_new xs s) (true_or_false (are_equal s x))

-- what a table tells of an entry that is added
pub adds_told : (s : TypeSetParts) (before after : List TypeSetParts) → ((i : ℕ) → IsIndexOf are_equal before s i → after ≡ before)
    → (IsNew are_equal before s → after ≡ before ++ s ∷ []) → Adds s before after
adds_told s before after known added = ⊎_elim (λ h. inl (h.0, h.1, known h.0 h.1)) (λ n. inr (n, added n)) (index_or_new before s)

-- nothing is needed
pub adds_none : (P : TypeSetParts → Type 0) (sets : List TypeSetParts) → ((s : TypeSetParts) → P s → ⊥) → AddsSome P sets sets
adds_none P sets none = inl (none, refl)

-- one set is needed
pub adds_one_set : (P : TypeSetParts → Type 0) (s : TypeSetParts) (a b : List TypeSetParts) → P s → ((t : TypeSetParts) → P t → t ≡ s)
    → Adds s a b → AddsSome P a b
adds_one_set P s a b is only adds = inr (s, is, only, adds)

-- two that say the same of sets
pub adds_like : (P Q : TypeSetParts → Type 0) (a b : List TypeSetParts) → ((s : TypeSetParts) → P s → Q s)
    → ((s : TypeSetParts) → Q s → P s) → AddsSome P a b → AddsSome Q a b
adds_like P Q a b to back (inl h) = inl ((λ s q. h.0 s (back s q)), h.1)
adds_like P Q a b to back (inr h) = inr (h.0, to h.0 h.1, (λ t q. h.2 t (back t q)), h.3)

pub each_like : (F G : ℕ → TypeSetParts → Type 0) (n : ℕ) (a b : List TypeSetParts) → ((k : ℕ) (s : TypeSetParts) → F k s → G k s)
    → ((k : ℕ) (s : TypeSetParts) → G k s → F k s) → AddsEach F n a b → AddsEach G n a b
each_like F G zero a b to back h = h
each_like F G (suc n) a b to back h = (h.0, each_like F G n a h.0 to back h.1, adds_like (F n) (G n) h.0 b (to n) (back n) h.2)

-- first the one at 0, and then those after it
pub each_after : (F : ℕ → TypeSetParts → Type 0) (n : ℕ) (a b c : List TypeSetParts) → AddsSome (F 0) a b
    → AddsEach (λ k. F (suc k)) n b c → AddsEach F (suc n) a c
each_after F zero a b c first rest = (a, refl, subst (AddsSome (F 0) a) (sym rest) first)
each_after F (suc n) a b c first rest = (rest.0, each_after F n a b rest.0 first rest.1, rest.2)

-- ---- needs in their order

before_next : (l q k p : ℕ) → ComesBefore l q k (suc p) → ComesBefore l q k p ⊎ ((l ≡ k) × (q ≡ p))
before_next l q k p (inl b) = inl (inl b)
before_next l q k p (inr h) = ⊎_elim (λ l. inl (inr (h.0, l))) (λ g. inr (h.0, omega (arith, h.1, g))) (cases_lt q p)

one_later : (l q k p : ℕ) → ComesBefore l q k p → ComesBefore l q k (suc p)
one_later l q k p (inl b) = inl b
one_later l q k p (inr h) = inr (h.0, omega (arith, h.1))

-- what isn't before comes after all that is
comes_later : (l q k p m r : ℕ) → ComesBefore l q k p → (ComesBefore m r k p → ⊥) → ComesBefore l q m r
comes_later l q k p m r before not = elim (cases_order m k) [
  | inl same ↦ ⊎_elim (λ less. absurd (not (inr (same, less)))) (λ more. at_same same more before) (cases_lt r p)
  | inr other ↦ elim other [ inl less ↦ absurd (not (inl less)) | inr more ↦ after more before ]
]
  where
    at_same : m ≡ k → p ≤ r → ComesBefore l q k p → ComesBefore l q m r
    at_same e g (inl b) = inl (omega (arith, e, b))
    at_same e g (inr h) = inr (h.0 ∙ sym e, omega (arith, h.1, g))

    after : k < m → ComesBefore l q k p → ComesBefore l q m r
    after g (inl b) = inl (omega (arith, g, b))
    after g (inr h) = inl (omega (arith, g, h.0))

-- a need by its place is a need
pub needs_set : (d : InstructionSet) (k p : ℕ) (s : TypeSetParts) → NeedsInOrder d k p s → NeedsSetAt d k s
needs_set d k p s n = record {
  user = n.user;
  at = n.at;
  control = n.needs.control;
  is_control = n.needs.is_control;
  needs = which p n.needs.needs;
}
  where
    which : (p : ℕ) → NeedsUnder (root_sets d) (instruction_in_set d n.user) n.needs.control p s
        → ((a : Which) × IsControlSet (root_sets d) (controls_of (instruction_in_set d n.user) n.needs.control) a s)
        ⊎ IsFreeSet (root_sets d) (instruction_in_set d n.user) n.needs.control s
    which zero h = inl (First, h)
    which (suc zero) h = inl (Second, h)
    which (suc (suc k)) h = inr h.0

-- and a need has its place
set_needed : (d : InstructionSet) (k : ℕ) (s : TypeSetParts) → NeedsSetAt d k s → (p : ℕ) × NeedsInOrder d k p s
set_needed d k s n = ⊎_elim
    (λ c. of_control c.0 c.1)
    (λ f. (
      suc (suc f.place),
      record {
        user = n.user;
        at = n.at;
        needs = record { control = n.control; is_control = n.is_control; needs = (f, refl) };
      },
    ))
    n.needs
  where
    of_control : (a : Which) → IsControlSet (root_sets d) (controls_of (instruction_in_set d n.user) n.control) a s
        → (p : ℕ) × NeedsInOrder d k p s
    of_control First c =
        (0, record { user = n.user; at = n.at; needs = record { control = n.control; is_control = n.is_control; needs = c } })
    of_control Second c =
        (1, record { user = n.user; at = n.at; needs = record { control = n.control; is_control = n.is_control; needs = c } })

-- the sets that are needed before a place of an instruction, each once, in order of first need
pub record IsInterned (d : InstructionSet) (k p : ℕ) (sets : List TypeSetParts) : Type 0 where
  pub needed : (j : ℕ) (s : TypeSetParts) → slice_get sets j ≡ Some s → (l : ℕ) × (q : ℕ) × NeedsInOrder d l q s × ComesBefore l q k p
  pub all : (l q : ℕ) (s : TypeSetParts) → NeedsInOrder d l q s → ComesBefore l q k p → (j : ℕ) × (slice_get sets j ≡ Some s)
  pub once : (i j : ℕ) (s : TypeSetParts) → slice_get sets i ≡ Some s → slice_get sets j ≡ Some s → i ≡ j
  pub ordered : (i j : ℕ) (s t : TypeSetParts) → i < j → slice_get sets i ≡ Some s → slice_get sets j ≡ Some t → IsNeededBefore d s t

-- a place of a list with one more at its end: an old one, or the new one
abbrev IsOld : List TypeSetParts → ℕ → TypeSetParts → Type 0
IsOld sets j t = (j < length sets) × (slice_get sets j ≡ Some t)

abbrev IsLast : List TypeSetParts → TypeSetParts → ℕ → TypeSetParts → Type 0
IsLast sets s j t = (j ≡ length sets) × (s ≡ t)

module _ (d : InstructionSet) where
  pub none_yet : IsInterned d 0 0 []
  none_yet = record {
    needed = λ j s at. absurd (cc);
    all = λ l q s n b. absurd (⊎_elim (λ less. omega (arith, less)) (λ h. omega (arith, h.1)) b);
    once = λ i j s a b. absurd (cc);
    ordered = λ i j s t l a b. absurd (cc);
  }

  -- what is needed next stands there already
  stay : (k p : ℕ) (sets : List TypeSetParts) → IsInterned d k p sets
      → ((t : TypeSetParts) → NeedsInOrder d k p t → (i : ℕ) × (slice_get sets i ≡ Some t)) → IsInterned d k (suc p) sets
  stay k p sets h there = record {
    needed = λ j s at. let (l, q, n, b) = h.needed j s at in (l, q, n, one_later l q k p b);
    all = λ l q s n b. ⊎_elim (λ b. h.all l q s n b)
        (λ e. there s (subst (λ x. NeedsInOrder d x p s) e.0 (subst (λ y. NeedsInOrder d l y s) e.1 n))) (before_next l q k p b);
    once = h.once;
    ordered = h.ordered;
  }

  -- what is needed next is new
  more : (k p : ℕ) (sets : List TypeSetParts) (s : TypeSetParts) → IsInterned d k p sets → NeedsInOrder d k p s
      → ((t : TypeSetParts) → NeedsInOrder d k p t → t ≡ s) → ((i : ℕ) → slice_get sets i ≡ Some s → ⊥)
      → IsInterned d k (suc p) (sets ++ s ∷ [])
  more k p sets s h needs only absent = record { needed = needed; all = all; once = once; ordered = ordered }
    where
      at_place : (j : ℕ) (t : TypeSetParts) → slice_get (sets ++ s ∷ []) j ≡ Some t → IsOld sets j t ⊎ IsLast sets s j t
      at_place j t at = get_pushed_below sets s j t at

      needed : (j : ℕ) (t : TypeSetParts) → slice_get (sets ++ s ∷ []) j ≡ Some t
          → (l : ℕ) × (q : ℕ) × NeedsInOrder d l q t × ComesBefore l q k (suc p)
      needed j t at = ⊎_elim
          (λ o. let (l, q, n, b) = h.needed j t o.1 in (l, q, n, one_later l q k p b))
          (λ e. (k, p, subst (NeedsInOrder d k p) e.1 needs, inr (refl, omega arith)))
          (at_place j t at)

      all : (l q : ℕ) (t : TypeSetParts) → NeedsInOrder d l q t → ComesBefore l q k (suc p)
          → (j : ℕ) × (slice_get (sets ++ s ∷ []) j ≡ Some t)
      all l q t n b = ⊎_elim
          (λ b. let (j, at) = h.all l q t n b in (j, get_stays sets (s ∷ []) j t at))
          (λ e. (
            length sets,
            get_end sets s
                ∙ ap Some (sym (only t (subst (λ x. NeedsInOrder d x p t) e.0 (subst (λ y. NeedsInOrder d l y t) e.1 n)))),
          ))
          (before_next l q k p b)

      both : (i j : ℕ) (t : TypeSetParts) → IsOld sets i t ⊎ IsLast sets s i t → IsOld sets j t ⊎ IsLast sets s j t → i ≡ j
      both i j t (inl a) (inl b) = h.once i j t a.1 b.1
      both i j t (inl a) (inr b) = absurd (absent i (a.1 ∙ ap Some (sym b.1)))
      both i j t (inr a) (inl b) = absurd (absent j (b.1 ∙ ap Some (sym a.1)))
      both i j t (inr a) (inr b) = a.0 ∙ sym b.0

      once : (i j : ℕ) (t : TypeSetParts) → slice_get (sets ++ s ∷ []) i ≡ Some t → slice_get (sets ++ s ∷ []) j ≡ Some t → i ≡ j
      once i j t a b = both i j t (at_place i t a) (at_place j t b)

      -- the new set is first needed after all others
      after_all : (i : ℕ) (t u : TypeSetParts) → slice_get sets i ≡ Some t → s ≡ u → IsNeededBefore d t u
      after_all i t u at same =
          let (l, q, n, before) = h.needed i t at in
          record {
            instruction = l;
            place = q;
            needs = n;
            first = λ m r need. comes_later l q k p m r before (λ b. let (j, there) = h.all m r u need b
                in absent j (there ∙ ap Some (sym same)));
          }

      in_order : (i j : ℕ) (t u : TypeSetParts) → i < j → IsOld sets i t ⊎ IsLast sets s i t → IsOld sets j u ⊎ IsLast sets s j u
          → IsNeededBefore d t u
      in_order i j t u l (inl a) (inl b) = h.ordered i j t u l a.1 b.1
      in_order i j t u l (inl a) (inr b) = after_all i t u a.1 b.1
      in_order i j t u l (inr a) (inl b) = absurd (omega (arith, l, a.0, b.0))
      in_order i j t u l (inr a) (inr b) = absurd (omega (arith, l, a.0, b.0))

      ordered : (i j : ℕ) (t u : TypeSetParts) → i < j → slice_get (sets ++ s ∷ []) i ≡ Some t → slice_get (sets ++ s ∷ []) j ≡ Some u
          → IsNeededBefore d t u
      ordered i j t u l a b = in_order i j t u l (at_place i t a) (at_place j u b)

  module _ (types : HoldTypeSets d.vars) where
    -- a set that is needed is the set of a variable
    type_set : (k p : ℕ) (s : TypeSetParts) → NeedsInOrder d k p s → IsTypeSet s
    type_set k p s n = ⊎_elim
        (λ c. subst IsTypeSet (sym c.1.set) (types c.1.variable.root))
        (λ f. subst IsTypeSet (sym f.set) (types f.variable.root))
        (needs_set d k p s n).needs

    -- the equal set that stands there is the one that is needed
    known : (k p : ℕ) (sets : List TypeSetParts) (s : TypeSetParts) → IsInterned d k p sets → NeedsInOrder d k p s → (i : ℕ)
        → IsIndexOf are_equal sets s i → slice_get sets i ≡ Some s
    known k p sets s h needs i index =
        let (l, q, n, b) = h.needed i index.entry index.there in
        let same : s ≡ index.entry = (one_set s index.entry (type_set k p s needs) (type_set l q index.entry n)).0 index.equal in
        index.there ∙ ap Some (sym same)

    -- one need more
    pub one_need_more : (k p : ℕ) (a b : List TypeSetParts) → IsInterned d k p a → AddsSome (NeedsInOrder d k p) a b
        → IsInterned d k (suc p) b
    one_need_more k p a b h (inl none) = subst (IsInterned d k (suc p)) (sym none.1) (stay k p a h (λ t n. absurd (none.0 t n)))
    one_need_more k p a b h (inr (s, needs, only, inl (i, index, same))) =
        let at = known k p a s h needs i index in
        subst (IsInterned d k (suc p)) (sym same) (stay k p a h (λ t n. (i, at ∙ ap Some (sym (only t n)))))
    one_need_more k p a b h (inr (s, needs, only, inr (new, same))) =
        let typed = type_set k p s needs in
        subst (IsInterned d k (suc p)) (sym same)
        (more k p a s h needs only (λ i at. new i (record { entry = s; there = at; equal = (one_set s s typed typed).1 refl })))

    -- the needs of one instruction
    pub needs_more : (k n : ℕ) (a b : List TypeSetParts) → IsInterned d k 0 a → AddsEach (NeedsInOrder d k) n a b → IsInterned d k n b
    needs_more k zero a b h e = subst (IsInterned d k 0) (sym e) h
    needs_more k (suc n) a b h e = one_need_more k n e.0 b (needs_more k n a e.0 h e.1) e.2

  -- the next instruction
  pub next_instruction : (k n : ℕ) (sets : List TypeSetParts) → IsInterned d k n sets
      → ((p : ℕ) (s : TypeSetParts) → n ≤ p → NeedsInOrder d k p s → ⊥) → IsInterned d (k + 1) 0 sets
  next_instruction k n sets h no_more = record {
    needed = λ j s at. let (l, q, needs, b) = h.needed j s at
        in (l, q, needs, inl (⊎_elim (λ less. omega (arith, less)) (λ e. omega (arith, e.0)) b));
    all = λ l q s needs b. all l q s needs (⊎_elim (λ less. omega (arith, less)) (λ e. absurd (omega (arith, e.1))) b);
    once = h.once;
    ordered = h.ordered;
  }
    where
      last : (l q : ℕ) (s : TypeSetParts) → NeedsInOrder d l q s → l ≡ k → (j : ℕ) × (slice_get sets j ≡ Some s)
      last l q s needs e = ⊎_elim (λ less. h.all l q s needs (inr (e, less)))
          (λ g. absurd (no_more q s g (subst (λ x. NeedsInOrder d x q s) e needs))) (cases_lt q n)

      all : (l q : ℕ) (s : TypeSetParts) → NeedsInOrder d l q s → l < k + 1 → (j : ℕ) × (slice_get sets j ≡ Some s)
      all l q s needs below = ⊎_elim (λ less. h.all l q s needs (inl less)) (λ g. last l q s needs (omega (arith, g, below))) (cases_lt l k)

  -- all instructions
  pub all_interned : (end : ℕ) (sets : List TypeSetParts) → length d.instructions ≤ end → IsInterned d end 0 sets → AreSetsByNeed d sets
  all_interned end sets l h = record {
    are_needed = record {
      needed = λ j s at. let (k, p, n, b) = h.needed j s at in (k, needs_set d k p s n);
      all = λ s n.
          let (p, needs) = set_needed d n.0 s n.1 in
          let inside = slice_get_within d.instructions n.0 needs.user needs.at in
          h.all n.0 p s needs (inl (omega (arith, inside, l)));
      once = h.once;
    };
    ordered = h.ordered;
  }

-- a set that stands in the table is found there
module _ (sets : List TypeSetParts) (x s : TypeSetParts) (same : x ≡ s) (there : (k : ℕ) × (slice_get sets k ≡ Some s)) where
  pub interned_at : (k : ℕ) × IsIndexOf are_equal sets x k
  interned_at = (there.0, record { entry = s; there = there.1; equal = ap (λ (q : TypeSetParts). are_equal q s) same ∙ equal_self s })

  pub found_there : (place : ℕ) → ((k : ℕ) → IsIndexOf are_equal sets x k → place ≡ k) → slice_get sets place ≡ Some s
  found_there place only =
      let at : IsIndexOf are_equal sets x there.0 = record {
        entry = s;
        there = there.1;
        equal = ap (λ (q : TypeSetParts). are_equal q s) same ∙ equal_self s;
      } in
      ap (slice_get sets) (only there.0 at) ∙ there.1
