-- A constraint depends on at most one control. So it is enough to try each control beside one number of the other.
use Rattle.std.proofs.Common.{◌≡◌, ◌↔◌, ◌⊎◌, ℕ, Bool, true, false, Option, slice_get, None, Some, refl, sym, ◌∙◌, subst, inl, inr}
use Rattle.std.proofs.lemmas.Option.{same_Some, none-some}
use Rattle.meta_inst.specs.Which.{Which, First, Second, both}
use Rattle.meta_inst.specs.Tables.{TableContents, NumberConstraint, ConcreteNumber, FreeOf, SameNumber, ByNumber, ControlNumberFits}
use Rattle.meta_inst.specs.Tables.{NumberPasses, PassesAt}
use Rattle.meta_audit.specs.Comparison.{SameNumbers, SamePlace, reads, ReadsAt, paired, Ignores}

-- ---- what a constraint depends on

-- what passes depends on the controls that it reads
same_read : (tables : TableContents) (x : NumberConstraint) (c d c' d' : Option ℕ) (n : ℕ)
    → (reads First x ≡ true → c ≡ c') → (reads Second x ≡ true → d ≡ d') → NumberPasses tables (both c d) x n
    → NumberPasses tables (both c' d') x n
same_read tables (ConcreteNumber m) c d c' d' n first second p = p
same_read tables (FreeOf j) c d c' d' n first second p = p
same_read tables (SameNumber First) c d c' d' n first second p = sym (first refl) ∙ p
same_read tables (SameNumber Second) c d c' d' n first second p = sym (second refl) ∙ p
same_read tables (ByNumber First f) c d c' d' n first second (u, is, steps) = (u, sym (first refl) ∙ is, steps)
same_read tables (ByNumber Second f) c d c' d' n first second (u, is, steps) = (u, sym (second refl) ∙ is, steps)

module _ (tables : TableContents) (p : ℕ) where
  -- at a place without a constraint nothing passes
  none_passes : slice_get tables.operand_constraints p ≡ None → (a : Which) → Ignores a tables p
  none_passes none a c d e n h = absurd (none-some h.constraint (sym none ∙ h.is_constraint))

  module _ (x : NumberConstraint) (at : slice_get tables.operand_constraints p ≡ Some x) where
    -- what passes at the place under some numbers passes there under others, if x passes it
    moved : (c d c' d' : Option ℕ) (n : ℕ)
        → (NumberPasses tables (both c d) x n → NumberPasses tables (both c' d') x n) → PassesAt tables (both c d) p n
        → PassesAt tables (both c' d') p n
    moved c d c' d' n passes h = record {
      constraint = x;
      is_constraint = at;
      passes = passes (subst (λ y. NumberPasses tables (both c d) y n) (same_Some h.constraint x (sym h.is_constraint ∙ at)) h.passes);
    }

    -- a constraint that doesn't read a control ignores it
    ignores : (a : Which) → reads a x ≡ false → Ignores a tables p
    ignores First unread c d e n =
        moved c e d e n (same_read tables x c e d e n (λ yes. let bad : false ≡ true = sym unread ∙ yes in cc) (λ yes. refl))
    ignores Second unread c d e n =
        moved e c e d n (same_read tables x e c e d n (λ yes. refl) (λ yes. let bad : false ≡ true = sym unread ∙ yes in cc))

  -- a place where no constraint reads a control ignores it
  pub ignores_unread : (a : Which) → (ReadsAt a tables p → ⊥) → Ignores a tables p
  ignores_unread a unread = by_case (slice_get tables.operand_constraints p) refl
    where
      of_constraint : (x : NumberConstraint) → slice_get tables.operand_constraints p ≡ Some x → (b : Bool)
          → reads a x ≡ b → Ignores a tables p
      of_constraint x at true is = absurd (unread (record { constraint = x; is_constraint = at; is_read = is }))
      of_constraint x at false is = ignores x at a is

      by_case : (o : Option NumberConstraint) → slice_get tables.operand_constraints p ≡ o → Ignores a tables p
      by_case None none = none_passes none a
      by_case (Some x) at = of_constraint x at (reads a x) refl

-- no constraint reads both
reads_one : (x : NumberConstraint) → (reads First x ≡ false) ⊎ (reads Second x ≡ false)
reads_one (ConcreteNumber n) = inl refl
reads_one (FreeOf j) = inl refl
reads_one (SameNumber First) = inr refl
reads_one (SameNumber Second) = inl refl
reads_one (ByNumber First f) = inr refl
reads_one (ByNumber Second f) = inl refl

-- what passes at a place doesn't depend on both controls
ignores_one : (tables : TableContents) (p : ℕ) → Ignores First tables p ⊎ Ignores Second tables p
ignores_one tables p = by_case (slice_get tables.operand_constraints p) refl
  where
    of_constraint : (x : NumberConstraint) → slice_get tables.operand_constraints p ≡ Some x
        → (reads First x ≡ false) ⊎ (reads Second x ≡ false) → Ignores First tables p ⊎ Ignores Second tables p
    of_constraint x at (inl unread) = inl (ignores tables p x at First unread)
    of_constraint x at (inr unread) = inr (ignores tables p x at Second unread)

    by_case : (o : Option NumberConstraint) → slice_get tables.operand_constraints p ≡ o → Ignores First tables p ⊎ Ignores Second tables p
    by_case None none = inl (none_passes tables p none First)
    by_case (Some x) at = of_constraint x at (reads_one x)

-- ---- the cross

-- from one equivalence to the next
then : {A B C : Type 0} → (A ↔ B) → (B ↔ C) → (A ↔ C)
then f g = ((λ a. g.0 (f.0 a)), (λ c. f.1 (g.1 c)))

module _ (own other : TableContents) (p q : ℕ) (n : ℕ) where
  -- numbers of a control that is ignored can be exchanged
  change_first : (tables : TableContents) (r : ℕ) → Ignores First tables r → (c e d : Option ℕ)
      → (PassesAt tables (both c d) r n ↔ PassesAt tables (both e d) r n)
  change_first tables r ignores c e d = (ignores c e d n, ignores e c d n)

  change_second : (tables : TableContents) (r : ℕ) → Ignores Second tables r → (c d e : Option ℕ)
      → (PassesAt tables (both c d) r n ↔ PassesAt tables (both c e) r n)
  change_second tables r ignores c d e = (ignores d e c n, ignores e d c n)

  -- the same numbers pass under c and d, if they do for one number of each with the other
  crossed : (c0 d0 c d : Option ℕ) → (PassesAt own (both c d0) p n ↔ PassesAt other (both c d0) q n)
      → (PassesAt own (both c0 d) p n ↔ PassesAt other (both c0 d) q n) → (PassesAt own (both c0 d0) p n ↔ PassesAt other (both c0 d0) q n)
      → Ignores First own p ⊎ Ignores Second own p → Ignores First other q ⊎ Ignores Second other q
      → (PassesAt own (both c d) p n ↔ PassesAt other (both c d) q n)
  crossed c0 d0 c d over_c over_d at_both (inl own_first) (inl other_first) =
      then (change_first own p own_first c c0 d) (then over_d (change_first other q other_first c0 c d))
  crossed c0 d0 c d over_c over_d at_both (inr own_second) (inr other_second) =
      then (change_second own p own_second c d d0) (then over_c (change_second other q other_second c d0 d))
  crossed c0 d0 c d over_c over_d at_both (inr own_second) (inl other_first) =
      then (change_second own p own_second c d d0)
      (then over_c (then (change_first other q other_first c c0 d0)
      (then ((λ x. at_both.1 x), (λ x. at_both.0 x))
      (then (change_second own p own_second c0 d0 d) (then over_d (change_first other q other_first c0 c d))))))
  crossed c0 d0 c d over_c over_d at_both (inl own_first) (inr other_second) =
      then (change_first own p own_first c c0 d)
      (then over_d (then (change_second other q other_second c0 d d0)
      (then ((λ x. at_both.1 x), (λ x. at_both.0 x))
      (then (change_first own p own_first c0 c d0) (then over_c (change_second other q other_second c d0 d))))))

-- If the same numbers pass for each number of the first control with d0, and for each of the second control with c0, they pass for all.
pub cross : (own other : TableContents) (first second p q : ℕ) (c0 d0 : Option ℕ) → ControlNumberFits own first c0
    → ControlNumberFits own second d0
    → ((c : Option ℕ) → ControlNumberFits own first c → SameNumbers own other (paired First c d0) p q)
    → ((d : Option ℕ) → ControlNumberFits own second d → SameNumbers own other (paired Second d c0) p q)
    → SamePlace own other first second p q
cross own other first second p q c0 d0 c0_fits d0_fits over_c over_d c d c_fits d_fits n =
    crossed own other p q n c0 d0 c d (over_c c c_fits n) (over_d d d_fits n) (over_c c0 c0_fits n)
    (ignores_one own p) (ignores_one other q)

-- if both places ignore a control, one number of it is enough
pub one_number : (a : Which) (own other : TableContents) (p q : ℕ) (c0 e : Option ℕ) → Ignores a own p
    → Ignores a other q → SameNumbers own other (paired a c0 e) p q → (c : Option ℕ) → SameNumbers own other (paired a c e) p q
one_number a own other p q c0 e own_ignores ignores same c n =
    then (own_ignores c c0 e n, own_ignores c0 c e n) (then (same n) (ignores c0 c e n, ignores c c0 e n))
