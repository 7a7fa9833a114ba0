-- What is left out of a line is determined by what is written, by tables.
use Rattle.std.proofs.Common.{◌≡◌, ◌↔◌, inl, inr, IsTrue, ℕ, zero, suc, ◌+◌, ◌<◌, ◌==◌, ◌||◌, MatchBool, Bool, true, false, List, [], ◌∷◌}
use Rattle.std.proofs.Common.{map, length, take, drop}
use Rattle.std.proofs.Common.{get_or, slice_get, Option, None, Some, refl, sym, ap, ap₂, ◌∙◌, subst, arith}
use Rattle.std.specs.List.{list_any}
use Rattle.std.specs.Cmp.{both_ways}
use Rattle.std.proofs.lemmas.Bool.{false≢true}
use Rattle.std.proofs.lemmas.Option.{same_Some, slice_get_within, get_or_from_slice_get}
use Rattle.meta_lists.proofs.Places.{get_there, get_stays, get_right, get_take, get_drop, get_taken}
use Rattle.meta_lists.proofs.Mapped.{get_map}
use Rattle.meta_types.specs.TypeParts.{number_of}
use Rattle.meta_types.specs.Function.{Function, Narrower, Wider, IsRelation, IsFunction, StepsTypes, StepsNumbers}
use Rattle.meta_types.proofs.Functions.{relation_or_not}
use Rattle.meta_types.proofs.OneAnswer.{one}
use Rattle.meta_types.proofs.Numbers.{one_number}
use Rattle.meta_inst.specs.Which.{Which, First, Second, both}
use Rattle.meta_inst.specs.Tables.{TableContents, OpcodeNumbers, NumberConstraint, ConcreteNumber, FreeOf, SameNumber, ByNumber}
use Rattle.meta_inst.specs.Tables.{NumberPasses, PassesAt, Allows, SetContains, ControlNumberFits, at_opcode, result_count, value_count}
use Rattle.meta_inst.specs.Tables.{no_type_set}
use Rattle.meta_verify.specs.Statement.{TypedValue}
use Rattle.meta_asm.specs.Short.{ShortResult, shortened, short_results}
use Rattle.meta_asm.specs.Manners.{is_relation, is_open, is_control, result_constraints, value_constraints, manner_of}

-- the test for a relation
pub relation_is : (f : Function) → is_relation f ≡ true → IsRelation f
relation_is Narrower h = inl refl
relation_is Wider h = inr refl
relation_is f h = absurd (cc)

pub relation_passes : (f : Function) → IsRelation f → is_relation f ≡ true
relation_passes f (inl e) = ap is_relation e
relation_passes f (inr e) = ap is_relation e

pub relation_test : (b : Bool) (f : Function) → (IsTrue b ↔ IsRelation f) → b ≡ is_relation f
relation_test b f h = both_ways b (is_relation f) (λ e. relation_passes f (h.0 e)) (λ e. h.1 (relation_is f e))

-- a function that isn't a relation
pub not_relation : (f : Function) → is_relation f ≡ false → IsFunction f
not_relation f h = elim (relation_or_not f) [
  | inl r ↦ absurd (false≢true (sym h ∙ relation_passes f r))
  | inr is ↦ is
]

-- a function leads from a number to one number
pub one_number_reached : (f : Function) (u n m : ℕ) → IsFunction f → StepsNumbers f u n → StepsNumbers f u m → n ≡ m
one_number_reached f u n m is s t =
    let from : s.from ≡ t.from = one_number s.from t.from s.steps.from t.steps.from (s.number_from ∙ sym t.number_from) in
    let to : s.to ≡ t.to = one f t.from s.to t.to (record { is_function = is; steps = subst (λ v. StepsTypes f v s.to) from s.steps })
    (record { is_function = is; steps = t.steps }) in
    sym s.number_to ∙ ap number_of to ∙ t.number_to

-- numbers that pass a constraint which isn't open are one
one_passes : (tables : TableContents) (c : Which → Option ℕ) (x : NumberConstraint) (n m : ℕ) → is_open x ≡ false
    → NumberPasses tables c x n → NumberPasses tables c x m → n ≡ m
one_passes tables c (ConcreteNumber k) n m h p q = p ∙ sym q
one_passes tables c (FreeOf j) n m h p q = absurd (cc)
one_passes tables c (SameNumber a) n m h p q = same_Some n m (sym p ∙ q)
one_passes tables c (ByNumber a f) n m h (u, e, s) (v, g, t) =
    let same : v ≡ u = same_Some v u (sym g ∙ e) in
    one_number_reached f u n m (not_relation f h) s (subst (λ w. StepsNumbers f w m) same t)

same_heads : (x y : ShortResult) (xs ys : List ShortResult) → x ∷ xs ≡ y ∷ ys → (x ≡ y) × (xs ≡ ys)
same_heads x y xs ys e = ((cc), (cc))

same_typed : (r q : TypedValue) → r.value ≡ q.value → r.type ≡ q.type → r ≡ q
same_typed r q value type = λ i. record { value = value i; type = type i }

-- results that are written alike are the same, where those whose types aren't written have the same types
pub same_results : (opened : List Bool) (rs qs : List TypedValue) → short_results opened rs ≡ short_results opened qs
    → ((k : ℕ) (r q : TypedValue) → slice_get rs k ≡ Some r → slice_get qs k ≡ Some q → get_or opened k false ≡ false → r.type ≡ q.type)
    → rs ≡ qs
same_results opened [] [] e same = refl
same_results [] [] (q ∷ qs) e same = absurd (cc)
same_results (true ∷ os) [] (q ∷ qs) e same = absurd (cc)
same_results (false ∷ os) [] (q ∷ qs) e same = absurd (cc)
same_results [] (r ∷ rs) [] e same = absurd (cc)
same_results (true ∷ os) (r ∷ rs) [] e same = absurd (cc)
same_results (false ∷ os) (r ∷ rs) [] e same = absurd (cc)
same_results [] (r ∷ rs) (q ∷ qs) e same =
    let (first, others) = same_heads (shortened false r) (shortened false q) (short_results [] rs) (short_results [] qs) e in
    ap₂ ◌∷◌ (same_typed r q (ap (λ (s : ShortResult). s.value) first) (same 0 r q refl refl refl))
    (same_results [] rs qs others (λ k x y a b c. same (suc k) x y a b refl))
same_results (true ∷ os) (r ∷ rs) (q ∷ qs) e same =
    let (first, others) = same_heads (shortened true r) (shortened true q) (short_results os rs) (short_results os qs) e in
    ap₂ ◌∷◌ (same_typed r q (ap (λ (s : ShortResult). s.value) first) (same_Some r.type q.type (ap (λ (s : ShortResult). s.type) first)))
    (same_results os rs qs others (λ k x y a b c. same (suc k) x y a b c))
same_results (false ∷ os) (r ∷ rs) (q ∷ qs) e same =
    let (first, others) = same_heads (shortened false r) (shortened false q) (short_results os rs) (short_results os qs) e in
    ap₂ ◌∷◌ (same_typed r q (ap (λ (s : ShortResult). s.value) first) (same 0 r q refl refl refl))
    (same_results os rs qs others (λ k x y a b c. same (suc k) x y a b c))

-- an element of the front stands before its end
taken_within : {X : Type 0} (xs : List X) (n k : ℕ) (x : X) → slice_get (take n xs) k ≡ Some x → k < n
taken_within xs zero k x e = absurd (cc)
taken_within [] (suc n) k x e = absurd (cc)
taken_within (y ∷ ys) (suc n) zero x e = omega arith
taken_within (y ∷ ys) (suc n) (suc k) x e = let l = taken_within ys n k x e in omega (arith, l)

module _ (tables : TableContents) (entry : OpcodeNumbers) where
  -- the constraint of a result stands among those of the results
  pub result_at : (k : ℕ) → k < result_count entry.flags → slice_get (result_constraints tables entry) k
      ≡ slice_get tables.operand_constraints (entry.constraint_offset + k)
  result_at k few = get_take (drop entry.constraint_offset tables.operand_constraints) (result_count entry.flags) k few
      ∙ get_drop tables.operand_constraints entry.constraint_offset k

  -- and says whether the result is written with its type
  pub mark_is : (k : ℕ) (x : NumberConstraint) → k < result_count entry.flags
      → slice_get tables.operand_constraints (entry.constraint_offset + k) ≡ Some x
      → get_or (manner_of tables entry).opened k false ≡ is_open x
  mark_is k x few at =
      get_or_from_slice_get (map is_open (result_constraints tables entry)) k (is_open x) false
      (get_map is_open (result_constraints tables entry) k x (result_at k few ∙ at))

  -- there is a value for a constraint among those of the values
  pub value_within : (j : ℕ) (x : NumberConstraint) → slice_get (value_constraints tables entry) j ≡ Some x → j < value_count entry.flags
  value_within j x at = taken_within (drop (entry.constraint_offset + result_count entry.flags) tables.operand_constraints)
      (value_count entry.flags) j x at

module _ (tables : TableContents) (op : ℕ) (entry : OpcodeNumbers) (at : at_opcode tables.entries op ≡ Some entry) (vs : List ℕ) where
  -- the entry of what is allowed is the opcode's
  same_entry : (c d : Option ℕ) (rs : List ℕ) (a : Allows tables op c d rs vs) → a.entry ≡ entry
  same_entry c d rs a = same_Some a.entry entry (sym a.is_opcode ∙ at)

  module _ (c d : Option ℕ) (rs ps : List ℕ) (a : Allows tables op c d rs vs) (b : Allows tables op c d ps vs) where
    -- a result whose type isn't written has one number
    pub one_number_at : (k n m : ℕ) → slice_get rs k ≡ Some n → slice_get ps k ≡ Some m
        → get_or (manner_of tables entry).opened k false ≡ false → n ≡ m
    one_number_at k n m n_at m_at closed =
        let p : PassesAt tables (both c d) (entry.constraint_offset + k) n =
        subst (λ (e : OpcodeNumbers). PassesAt tables (both c d) (e.constraint_offset + k) n) (same_entry c d rs a)
        (a.passes k n (get_stays rs vs k n n_at)) in
        let q : PassesAt tables (both c d) (entry.constraint_offset + k) m =
        subst (λ (e : OpcodeNumbers). PassesAt tables (both c d) (e.constraint_offset + k) m) (same_entry c d ps b)
        (b.passes k m (get_stays ps vs k m m_at)) in
        let same : q.constraint ≡ p.constraint = same_Some q.constraint p.constraint (sym q.is_constraint ∙ p.is_constraint) in
        let counted : length rs ≡ result_count entry.flags = a.results
        ∙ ap (λ (e : OpcodeNumbers). result_count e.flags) (same_entry c d rs a) in
        let inside : k < length rs = slice_get_within rs k n n_at in
        let mark = mark_is tables entry k p.constraint (omega (arith, inside, counted)) p.is_constraint in
        one_passes tables (both c d) p.constraint n m (sym mark
        ∙ closed) p.passes (subst (λ x. NumberPasses tables (both c d) x m) same q.passes)

-- ---- the control

-- where a test holds of some element there is one
pub record IsAny {X : Type 0} (p : X → Bool) (xs : List X) : Type 0 where
  pub place : ℕ
  pub element : X
  pub there : slice_get xs place ≡ Some element
  pub passes : p element ≡ true

pub any_there : {X : Type 0} (p : X → Bool) (xs : List X) → list_any p xs ≡ true → IsAny p xs
any_there p [] h = absurd (cc)
any_there p (x ∷ xs) h = by_test (p x) refl h (any_there p xs)
  where
    by_test : (b : Bool) → p x ≡ b → (b || list_any p xs) ≡ true → (list_any p xs ≡ true → IsAny p xs) → IsAny p (x ∷ xs)
    by_test true is h below = record { place = 0; element = x; there = refl; passes = is }
    by_test false is h below = let more = below h in record {
      place = suc more.place;
      element = more.element;
      there = more.there;
      passes = more.passes;
    }

-- the constraint of the control
pub control_constraint_is : (x : NumberConstraint) → is_control x ≡ true → x ≡ SameNumber First
control_constraint_is (ConcreteNumber n) h = absurd (cc)
control_constraint_is (FreeOf j) h = absurd (cc)
control_constraint_is (SameNumber First) h = refl
control_constraint_is (SameNumber Second) h = absurd (cc)
control_constraint_is (ByNumber a f) h = absurd (cc)

-- no number of a second control where the opcode has none
pub no_second : (tables : TableContents) (offset : ℕ) (d : Option ℕ) → (offset == no_type_set) ≡ true → ControlNumberFits tables offset d
    → d ≡ None
no_second tables offset d h fits = subst (λ b. MatchBool b (d ≡ None) ((n : ℕ) × (d ≡ Some n) × SetContains tables offset n)) h fits

module _ (tables : TableContents) (op : ℕ) (entry : OpcodeNumbers) (at : at_opcode tables.entries op ≡ Some entry) (vs : List ℕ) (j : ℕ)
    (x : NumberConstraint) (there : slice_get (value_constraints tables entry) j ≡ Some x) (is : x ≡ SameNumber First) where
  -- a left out control is the type of the value under its constraint
  pub control_of : (c d : Option ℕ) (rs : List ℕ) (a : Allows tables op c d rs vs) (n : ℕ) → slice_get vs j ≡ Some n → c ≡ Some n
  control_of c d rs a n n_at =
      let e = same_entry tables op entry at vs c d rs a in
      let counted : length rs ≡ result_count entry.flags = a.results ∙ ap (λ (e : OpcodeNumbers). result_count e.flags) e in
      let p : PassesAt tables (both c d) (entry.constraint_offset + (length rs + j)) n =
      subst (λ (e : OpcodeNumbers). PassesAt tables (both c d) (e.constraint_offset + (length rs + j)) n) e
      (a.passes (length rs + j) n (get_right rs vs j ∙ n_at)) in
      let place : entry.constraint_offset + (length rs + j) ≡ entry.constraint_offset + result_count entry.flags + j =
      omega (arith, counted) in
      let found : slice_get tables.operand_constraints (entry.constraint_offset + result_count entry.flags + j) ≡ Some x =
      sym (get_drop tables.operand_constraints (entry.constraint_offset + result_count entry.flags) j)
      ∙ get_taken (drop (entry.constraint_offset + result_count entry.flags) tables.operand_constraints)
      (value_count entry.flags) j x there in
      let same : p.constraint ≡ SameNumber First = same_Some p.constraint x (sym p.is_constraint
      ∙ ap (slice_get tables.operand_constraints) place ∙ found) ∙ is in
      subst (λ y. NumberPasses tables (both c d) y n) same p.passes

  -- so it is one
  pub one_control_number : (c d e g : Option ℕ) (rs ps : List ℕ) → Allows tables op c d rs vs → Allows tables op e g ps vs → c ≡ e
  one_control_number c d e g rs ps a b =
      let few = value_within tables entry j x there in
      let counted : length vs ≡ value_count entry.flags = a.values
      ∙ ap (λ (e : OpcodeNumbers). value_count e.flags) (same_entry tables op entry at vs c d rs a) in
      let (n, n_at) = get_there vs j (omega (arith, few, counted)) in
      control_of c d rs a n n_at ∙ sym (control_of e g ps b n n_at)
