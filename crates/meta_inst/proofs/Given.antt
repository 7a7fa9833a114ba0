-- What tables allow, and what they give for the results.
use Rattle.std.proofs.Common.{◌≡◌, ◌≢◌, ℕ, zero, suc, ◌+◌, List, [], ◌∷◌, ◌++◌, length, Option, Some, slice_get, refl, sym, ap, ◌∙◌, subst}
use Rattle.std.proofs.Common.{inl, inr, arith}
use Rattle.std.proofs.lemmas.Option.{same_Some}
use Rattle.meta_lists.proofs.Places.{get_stays}
use Rattle.meta_types.specs.TypeParts.{number_of}
use Rattle.meta_types.proofs.Functions.{relation_or_not}
use Rattle.meta_types.specs.Function.{Function, StepsTypes, StepsNumbers, AnswersNumber}
use Rattle.meta_types.proofs.OneAnswer.{one}
use Rattle.meta_types.proofs.Numbers.{one_number}
use Rattle.meta_inst.specs.Which.{Which, both}
use Rattle.meta_inst.specs.Inference.{GivesNumber, GivesAt, GivesResults}
use Rattle.meta_inst.specs.Tables.{TableContents, NumberConstraint, ConcreteNumber, FreeOf, SameNumber, ByNumber, NumberPasses, PassesAt}
use Rattle.meta_inst.specs.Tables.{Allows, OpcodeNumbers}

module _ (tables : TableContents) (c : Which → Option ℕ) where
  -- a constraint that some number passes gives one
  one_given : (x : NumberConstraint) (n : ℕ) → NumberPasses tables c x n → (m : ℕ) × GivesNumber c x m
  one_given (ConcreteNumber m) n p = (n, p)
  one_given (FreeOf j) n p = (0, refl)
  one_given (SameNumber a) n p = (n, p)
  one_given (ByNumber a f) n (u, is, steps) = elim (relation_or_not f) [
    | inl r ↦ (0, inl (r, refl))
    | inr g ↦ (n, inr (u, is, record { is_function = g; steps = steps }))
  ]

  -- so constraints that numbers pass give as many
  record AreGiven (offset : ℕ) (rs : List ℕ) : Type 0 where
    numbers : List ℕ
    count : length numbers ≡ length rs
    each : (k n : ℕ) → slice_get numbers k ≡ Some n → GivesAt tables c (offset + k) n

  -- one more in front
  more_given : (offset r : ℕ) (rs : List ℕ) → PassesAt tables c (offset + 0) r → AreGiven (offset + 1) rs → AreGiven offset (r ∷ rs)
  more_given offset r rs p rest = record { numbers = given.0 ∷ rest.numbers; count = counted; each = each }
    where
      given : (m : ℕ) × GivesNumber c p.constraint m
      given = one_given p.constraint r p.passes

      counted : length (given.0 ∷ rest.numbers) ≡ length (r ∷ rs)
      counted = let h = rest.count in omega arith

      each : (k n : ℕ) → slice_get (given.0 ∷ rest.numbers) k ≡ Some n → GivesAt tables c (offset + k) n
      each zero n e = record {
        constraint = p.constraint;
        is_constraint = p.is_constraint;
        gives = subst (GivesNumber c p.constraint) (same_Some given.0 n e) given.1;
      }
      each (suc k) n e = let there : offset + 1 + k ≡ offset + suc k = omega arith
          in subst (λ m. GivesAt tables c m n) there (rest.each k n e)

  all_given : (rs : List ℕ) (offset : ℕ) → ((k n : ℕ) → slice_get rs k ≡ Some n → PassesAt tables c (offset + k) n) → AreGiven offset rs
  all_given [] offset all = record { numbers = []; count = refl; each = λ k n e. absurd (cc) }
  all_given (r ∷ rs) offset all =
      more_given offset r rs (all 0 r refl) (all_given rs (offset + 1) (λ k n e. let there : offset + suc k ≡ offset + 1 + k = omega arith
      in subst (λ m. PassesAt tables c m n) there (all (suc k) n e)))

  -- a function answers one number for one number
  one_answered : (f : Function) (u m n : ℕ) → AnswersNumber f u n → StepsNumbers f u m → m ≡ n
  one_answered f u m n a s =
      let from : s.from ≡ a.steps.from = one_number s.from a.steps.from s.steps.from a.steps.steps.from (s.number_from
      ∙ sym a.steps.number_from) in
      let to : s.to ≡ a.steps.to = one f a.steps.from s.to a.steps.to (record {
        is_function = a.is_function;
        steps = subst (λ v. StepsTypes f v s.to) from s.steps;
      }) (record { is_function = a.is_function; steps = a.steps.steps }) in
      sym s.number_to ∙ ap number_of to ∙ a.steps.number_to

  -- a number that is given and isn't 0 is the one that passes
  given_passes : (x : NumberConstraint) (m n : ℕ) → NumberPasses tables c x m → GivesNumber c x n → n ≢ 0 → m ≡ n
  given_passes (ConcreteNumber k) m n p g some = p ∙ sym g
  given_passes (FreeOf j) m n p g some = absurd (some g)
  given_passes (SameNumber a) m n p g some = same_Some m n (sym p ∙ g)
  given_passes (ByNumber a f) m n p (inl (r, z)) some = absurd (some z)
  given_passes (ByNumber a f) m n (v, is_v, steps) (inr (u, is_u, answer)) some =
      let same : v ≡ u = same_Some v u (sym is_v ∙ is_u) in
      one_answered f u m n answer (subst (λ x. StepsNumbers f x m) same steps)

module _ (tables : TableContents) (op : ℕ) (c d : Option ℕ) (rs vs : List ℕ) (a : Allows tables op c d rs vs) where
  -- Where something is allowed, the results are given.
  pub allowed_given : (numbers : List ℕ) × GivesResults tables op c d numbers
  allowed_given =
      let given = all_given tables (both c d) rs a.entry.constraint_offset (λ k n e. a.passes k n (get_stays rs vs k n e)) in (
        given.numbers,
        record {
          entry = a.entry;
          is_opcode = a.is_opcode;
          control_fits = a.control_fits;
          second_fits = a.second_fits;
          count = given.count ∙ a.results;
          each = given.each;
        },
      )

  -- And each number that is given and isn't 0 is that result's.
  pub given_is : (numbers : List ℕ) → GivesResults tables op c d numbers → (k m n : ℕ) → slice_get numbers k ≡ Some n → n ≢ 0
      → slice_get rs k ≡ Some m → m ≡ n
  given_is numbers g k m n n_at some m_at =
      let entries : g.entry ≡ a.entry = same_Some g.entry a.entry (sym g.is_opcode ∙ a.is_opcode) in
      let x : GivesAt tables (both c d) (a.entry.constraint_offset + k) n =
      subst (λ (e : OpcodeNumbers). GivesAt tables (both c d) (e.constraint_offset + k) n) entries (g.each k n n_at) in
      let p = a.passes k m (get_stays rs vs k m m_at) in
      let same = same_Some x.constraint p.constraint (sym x.is_constraint ∙ p.is_constraint) in
      given_passes tables (both c d) p.constraint m n p.passes (subst (λ y. GivesNumber (both c d) y n) same x.gives) some
