-- Controls one by one: what an opcode accepts by those that serve.
use Rattle.std.proofs.Common.{◌≡◌, ◌≢◌, ◌↔◌, ◌⊎◌, inl, inr, ⊎_elim, ◌<◌, ◌≤◌, ◌+◌, ◌||◌, not, ltb, Bool, true, false, ℕ, zero, suc, List, []}
use Rattle.std.proofs.Common.{◌∷◌, ◌++◌, length, slice_get, get_or, replicate, Contains, Option, None, Some, IfSome, IfNone, IsTrue, refl, sym, ◌∙◌}
use Rattle.std.proofs.Common.{ap, subst, arith, length-append}
use Rattle.std.specs.Prelude.{is_some}
use Rattle.std.specs.Global.{Vec}
use Rattle.std.proofs.lemmas.Bool.{cases_eq, and_parts, ltb-true, false≢true}
use Rattle.std.proofs.lemmas.List.{length-replicate}
use Rattle.std.proofs.lemmas.Option.{same_Some, slice_get_within, slice_get-get_or}
use Rattle.meta_lists.proofs.Contained.{contains_first, contains_none}
use Rattle.meta_types.specs.TypeParts.{TypeParts, number_of}
use Rattle.meta_types.specs.TypeNumber.{IsTypeNumber}
use Rattle.meta_types.specs.Function.{Function, Narrower, Wider, IsRelation, is_scalar, relates, StepsNumbers, AnswersNumber}
use Rattle.meta_types.proofs.AllTypes.{at_all, at_all_types}
use Rattle.meta_types.proofs.TypeNumbers.{number_is_one}
use Rattle.meta_typevar.proofs.Finite.{implies}
use Rattle.meta_inst.specs.Which.{Which, First, Second}
use Rattle.meta_inst.specs.Tables.{TableContents, OpcodeNumbers, NumberConstraint, ConcreteNumber, FreeOf, SameNumber, ByNumber, at_opcode}
use Rattle.meta_inst.specs.Tables.{ControlNumberFits, NumberPasses, PassesAt, no_type_set, result_count, value_count}
use Rattle.meta_explain.specs.Listed.{AreListed, IsLess}
use Rattle.meta_explain.specs.Parts.{numbers_of}
use Rattle.meta_explain.specs.Search.{SomePasses, CanPass, AllCanPass, offset_of}
use Rattle.meta_explain.specs.Operands.{AcceptsSome}
use Rattle.meta_explain.specs.Options.{AcceptsFirst, AcceptsSecond, AreOptions, IsOption, AreControlOptions, AreTypeOptions}
use Rattle.meta_explain.specs.Serving.{LeadsOn, Serves, ServesAt, IsPlace, IsServing, IsMet, IsMetAt, AreMet, AreServing, IsEmptyOption}
use Rattle.meta_explain.specs.declared.control_types.ControlTypes.{ControlTypes}
use Rattle.meta_explain.specs.declared.control_options.ControlOptions.{ControlOptions}
use Rattle.meta_explain.proofs.Listing.{listed_all}
use Rattle.meta_explain.proofs.Typed.{in_range, control_typed, fits_none, none_fits, fits_some, fits_both}
use Rattle.meta_explain.proofs.Combining.{asked_any, by_some, some_first, some_second}

-- ---- what a function leads to

abbrev is_low_scalar : TypeParts → Bool
is_low_scalar t = not (is_scalar t) || ltb (number_of t) 125

all_low_scalars : at_all is_low_scalar ≡ true
all_low_scalars = refl

-- a scalar is one of the numbers before 125
scalar_below : (t : TypeParts) (f : Function) (u n : ℕ) (s : StepsNumbers f u n) → s.to ≡ t → is_scalar t ≡ true → n < 125
scalar_below t f u n s to is =
    let typed = at_all_types is_low_scalar all_low_scalars s.to s.steps.to in
    let scalar : is_scalar s.to ≡ true = ap is_scalar to ∙ is in
    let below = ltb-true (number_of s.to) 125 (implies (is_scalar s.to) (ltb (number_of s.to) 125) typed scalar) in
    let e = s.number_to in
    omega (arith, below, e)

-- a relation leads to scalars
pub relation_below : (f : Function) (u n : ℕ) → IsRelation f → StepsNumbers f u n → n < 125
relation_below f u n (inl e) s =
    let r = subst (λ g. relates g s.from s.to ≡ true) e s.steps.relates in
    scalar_below s.to f u n s refl (and_parts _ _ (and_parts _ _ (and_parts _ _ r).1).1).0
relation_below f u n (inr e) s =
    let r = subst (λ g. relates g s.from s.to ≡ true) e s.steps.relates in
    scalar_below s.to f u n s refl (and_parts _ _ (and_parts _ _ (and_parts _ _ r).1).1).0

-- what a function leads to is the number of a type
pub led_to : (f : Function) (u n : ℕ) → StepsNumbers f u n → (116 ≤ n) × (n < 381)
led_to f u n s = in_range n (subst IsTypeNumber s.number_to (number_is_one s.to s.steps.to))

-- a function that is no relation leads on exactly where it answers
pub applied : (f : Function) (u : ℕ) (o : Option ℕ) (b : Bool) → (IsRelation f → ⊥) → IfSome o (λ m. AnswersNumber f u m)
    → IfNone o ((m : ℕ) → AnswersNumber f u m → ⊥) → b ≡ is_some o → IsTrue b ↔ LeadsOn f u
applied f u None b never found none e = (
  λ t. absurd (false≢true (sym e ∙ t)),
  λ (n, s). absurd (none n (record { is_function = (λ h. never (inl h), λ h. never (inr h)); steps = s })),
)
applied f u (Some m) b never found none e = (λ t. (m, found.steps), λ s. e)

-- ---- what stands at a place

-- the constraint at a place is met, or isn't; without one nothing is met, and all serves
pub met_here : (tables : TableContents) (e : OpcodeNumbers) (place : ℕ) (x : NumberConstraint)
    → Some x ≡ slice_get tables.operand_constraints place → IsMet tables e x → IsMetAt tables e place
met_here tables e place x at met = (x, sym at, met)

pub met_there : (tables : TableContents) (e : OpcodeNumbers) (place : ℕ) (x : NumberConstraint)
    → Some x ≡ slice_get tables.operand_constraints place → IsMetAt tables e place → IsMet tables e x
met_there tables e place x at (y, is, met) = subst (IsMet tables e) (same_Some y x (sym is ∙ sym at)) met

pub met_nowhere : (tables : TableContents) (e : OpcodeNumbers) (place : ℕ) → None ≡ slice_get tables.operand_constraints place
    → IsMetAt tables e place → ⊥
met_nowhere tables e place at (y, is, met) = let both : None ≡ Some y = at ∙ is in absurd (cc)

pub serves_here : (tables : TableContents) (a : Which) (u place : ℕ) (x : NumberConstraint)
    → Some x ≡ slice_get tables.operand_constraints place → (Serves a u x ↔ ServesAt tables a u place)
serves_here tables a u place x at = (
  λ s y is. subst (Serves a u) (same_Some x y (at ∙ is)) s,
  λ s. s x (sym at),
)

pub serves_nowhere : (tables : TableContents) (a : Which) (u place : ℕ) → None ≡ slice_get tables.operand_constraints place
    → ServesAt tables a u place
serves_nowhere tables a u place at y is = let both : None ≡ Some y = at ∙ is in absurd (cc)

-- ---- what is accepted

-- so many operands of any types are asked for
abbrev nones : ℕ → List (Option ℕ)
nones count = replicate count None

module _ (tables : TableContents) (op : ℕ) (e : OpcodeNumbers) (at : at_opcode tables.entries op ≡ Some e) where
  -- what may stand for a control: no type where there is no such control, and else a type that serves
  abbrev pub IsChoice : Which → Option ℕ → Type 0
  IsChoice a o = ((offset_of e a ≡ no_type_set) × (o ≡ None))
      ⊎ ((offset_of e a ≢ no_type_set) × (u : ℕ) × (o ≡ Some u) × IsServing tables e a u)

  module _ (c : ControlTypes) where
    module _ (some : AcceptsSome tables op c) where
      own : some.accepts.entry ≡ e
      own = same_Some some.accepts.entry e (sym some.accepts.is_opcode ∙ at)

      fits : (a : Which) → ControlNumberFits tables (offset_of e a) (numbers_of c a)
      fits = fits_both tables e c (some_first tables op c e at some) (some_second tables op c e at some)

      -- something passes at each operand
      pass : (k : ℕ) → IsPlace e k → SomePasses tables (numbers_of c) (e.constraint_offset + k)
      pass k l =
          let both = some.results ++ some.values in
          let long = length-append some.results some.values in
          let results : length some.results ≡ result_count e.flags =
          subst (λ y. length some.results ≡ result_count y.flags) own some.accepts.results in
          let values : length some.values ≡ value_count e.flags =
          subst (λ y. length some.values ≡ value_count y.flags) own some.accepts.values in
          let within : k < length both = omega (arith, l, long, results, values) in (
            get_or both k 0,
            subst (λ y. PassesAt tables (numbers_of c) (y.constraint_offset + k) (get_or both k 0)) own
                (some.accepts.passes k (get_or both k 0) (slice_get-get_or both k 0 within)),
          )

      -- a control with a type is there
      there : (a : Which) (n : ℕ) → numbers_of c a ≡ Some n → offset_of e a ≢ no_type_set
      there a n is none =
          let both : None ≡ Some n = sym (fits_none tables (offset_of e a) (numbers_of c a) none (fits a)) ∙ is in
          absurd (cc)

      met_by : (x : NumberConstraint) (n : ℕ) → NumberPasses tables (numbers_of c) x n → IsMet tables e x
      met_by (ConcreteNumber m) n p = tt
      met_by (FreeOf j) n p = (n, p)
      met_by (SameNumber a) n p = there a n p
      met_by (ByNumber a f) n (u, is, steps) = there a u is

      pub some_met : AreMet tables e
      some_met k l =
          let (n, p) = pass k l in
          (p.constraint, p.is_constraint, met_by p.constraint n p.passes)

      serves_by : (a : Which) (u : ℕ) → numbers_of c a ≡ Some u → (x : NumberConstraint) (n : ℕ) → NumberPasses tables (numbers_of c) x n
          → Serves a u x
      serves_by a u is (ConcreteNumber m) n p = tt
      serves_by a u is (FreeOf j) n p = tt
      serves_by a u is (SameNumber b) n p = tt
      serves_by a u is (ByNumber b f) n (v, by, steps) = λ same.
          (n, subst (λ w. StepsNumbers f w n) (same_Some v u (sym by ∙ ap (numbers_of c) same ∙ is)) steps)

      chosen : (a : Which) (u : ℕ) → numbers_of c a ≡ Some u → IsServing tables e a u
      chosen a u is = record {
        fits = subst (ControlNumberFits tables (offset_of e a)) is (fits a);
        serves = λ k l x here.
            let (n, p) = pass k l in
            serves_by a u is x n (subst (λ y. NumberPasses tables (numbers_of c) y n) (same_Some p.constraint x (sym p.is_constraint ∙ here))
            p.passes);
      }

      pub some_chosen : (a : Which) → IsChoice a (numbers_of c a)
      some_chosen a = ⊎_elim
          (λ none. inl (none, fits_none tables (offset_of e a) (numbers_of c a) none (fits a)))
          (λ differs. let (u, is, contains) = fits_some tables (offset_of e a) (numbers_of c a) differs (fits a) in
          inr (differs, u, is, chosen a u is))
          (cases_eq (offset_of e a) no_type_set)

    module _ (met : AreMet tables e) (first : IsChoice First c.ctrl) (second : IsChoice Second c.second) where
      choice : (a : Which) → IsChoice a (numbers_of c a)
      choice First = first
      choice Second = second

      choice_fits : (a : Which) → ControlNumberFits tables (offset_of e a) (numbers_of c a)
      choice_fits a = ⊎_elim
          (λ h. none_fits tables (offset_of e a) (numbers_of c a) h.0 h.1)
          (λ (differs, u, is, s). subst (ControlNumberFits tables (offset_of e a)) (sym is) s.fits)
          (choice a)

      -- a control that is there has a type that serves
      type_of : (a : Which) → offset_of e a ≢ no_type_set → (u : ℕ) × (numbers_of c a ≡ Some u) × IsServing tables e a u
      type_of a differs = ⊎_elim (λ h. absurd (differs h.0)) (λ (d, u, is, s). (u, is, s)) (choice a)

      can_by : (k : ℕ) → IsPlace e k → (x : NumberConstraint)
          → slice_get tables.operand_constraints (e.constraint_offset + k) ≡ Some x → IsMet tables e x
          → SomePasses tables (numbers_of c) (e.constraint_offset + k)
      can_by k l (ConcreteNumber n) here m = (n, record { constraint = ConcreteNumber n; is_constraint = here; passes = refl })
      can_by k l (FreeOf j) here (n, s) = (n, record { constraint = FreeOf j; is_constraint = here; passes = s })
      can_by k l (SameNumber a) here m =
          let (u, is, s) = type_of a m in
          (u, record { constraint = SameNumber a; is_constraint = here; passes = is })
      can_by k l (ByNumber a f) here m =
          let (u, is, s) = type_of a m in
          let (n, steps) = s.serves k l (ByNumber a f) here refl in
          (n, record { constraint = ByNumber a f; is_constraint = here; passes = (u, is, steps) })

      can : (k : ℕ) → IsPlace e k → SomePasses tables (numbers_of c) (e.constraint_offset + k)
      can k l = let (x, here, m) = met k l in can_by k l x here m

      can_any : (offset count first : ℕ) → offset ≡ e.constraint_offset + first → first + count ≤ result_count e.flags + value_count e.flags
          → AllCanPass tables (numbers_of c) offset (nones count)
      can_any offset count from is most k o asked =
          let long : length (nones count) ≡ count = length-replicate count None in
          let within = slice_get_within (nones count) k o asked in
          let place : e.constraint_offset + (from + k) ≡ offset + k = omega (arith, is) in
          subst (CanPass tables (numbers_of c) (offset + k)) (sym (asked_any count k o asked))
          (subst (SomePasses tables (numbers_of c)) place (can (from + k) (omega (arith, long, within, most))))

      pub chosen_some : AcceptsSome tables op c
      chosen_some =
          let results = result_count e.flags in
          let values = value_count e.flags in
          let long : length (nones results) ≡ results = length-replicate results None in
          by_some tables op e at (nones results) (nones values) refl refl c (choice_fits First) (choice_fits Second)
          (can_any e.constraint_offset results 0 (omega arith) (omega arith))
          (can_any (e.constraint_offset + length (nones results)) values results (omega (arith, long)) (omega arith))

-- ---- lists of controls

-- some control is one of those that are listed
some_option : (o : Option (Vec ℕ)) → (IsEmptyOption o → ⊥) → (c : Option ℕ) × IsOption o c
some_option None never = (None, refl)
some_option (Some types) never = by_list types.items refl
  where
    by_list : (xs : List ℕ) → types.items ≡ xs → (c : Option ℕ) × IsOption (Some types) c
    by_list [] is = absurd (never is)
    by_list (x ∷ xs) is = (Some x, (x, refl, subst (λ ys. Contains ys x) (sym is) (contains_first x xs)))

-- and none is where no type is
empty_never : (o : Option (Vec ℕ)) → IsEmptyOption o → (d : Option ℕ) → IsOption o d → ⊥
empty_never None empty d is = empty
empty_never (Some types) empty d (n, is, has) = contains_none n (subst (λ ys. Contains ys n) empty has)

-- the numbers that are listed rise
abbrev Rise : Option (Vec ℕ) → Type 0
Rise None = Unit {0}
Rise (Some types) = (j k m n : ℕ) → j < k → slice_get types.items j ≡ Some m → slice_get types.items k ≡ Some n → m < n

options_of : (P : Option ℕ → Type 0) (o : Option (Vec ℕ)) → Rise o → ((c : Option ℕ) → (P c ↔ IsOption o c)) → AreOptions P o
options_of P None rise h = h
options_of P (Some types) rise h = (
  λ p. let (n, is, has) = (h None).0 p in absurd (cc),
  record {
    contains = λ n. (
      λ has. (h (Some n)).1 (n, refl, has),
      λ p. let (m, is, has) = (h (Some n)).0 p in subst (Contains types.items) (sym (same_Some n m is)) has,
    );
    order = rise;
  },
)

module _ (tables : TableContents) (op : ℕ) (e : OpcodeNumbers) (at : at_opcode tables.entries op ≡ Some e) where
  serving_rise : (a : Which) (o : Option (Vec ℕ)) → AreServing tables e a o → Rise o
  serving_rise a None s = tt
  serving_rise a (Some types) s = s.1.order

  serving_choice : (a : Which) (o : Option (Vec ℕ)) → AreServing tables e a o → (c : Option ℕ)
      → (IsOption o c ↔ IsChoice tables op e at a c)
  serving_choice a None s c = (λ is. inl (s, is), λ ch. ⊎_elim (λ h. h.1) (λ h. absurd (h.0 s)) ch)
  serving_choice a (Some types) s c = (
    λ (n, is, has). inr (s.0, n, is, (s.1.contains n).0 has),
    λ ch. ⊎_elim (λ h. absurd (s.0 h.0)) (λ (d, u, is, serving). (u, is, (s.1.contains u).1 serving)) ch,
  )

  serving_types : (a : Which) (o : Option (Vec ℕ)) → AreServing tables e a o → AreTypeOptions o
  serving_types a None s = tt
  serving_types a (Some types) s = listed_all IsLess (IsServing tables e a) IsTypeNumber types.items
      (λ n serving. control_typed tables (offset_of e a) (Some n) n serving.fits refl) s.1

  module _ (met : AreMet tables e) (x : ControlOptions) (first : AreServing tables e First x.first)
      (second : AreServing tables e Second x.second) where
    pairs : (c : ControlTypes) → (AcceptsSome tables op c ↔ (IsOption x.first c.ctrl × IsOption x.second c.second))
    pairs c = (
      λ some. (
        (serving_choice First x.first first c.ctrl).1 (some_chosen tables op e at c some First),
        (serving_choice Second x.second second c.second).1 (some_chosen tables op e at c some Second),
      ),
      λ (is, is_second). chosen_some tables op e at c met ((serving_choice First x.first first c.ctrl).0 is)
          ((serving_choice Second x.second second c.second).0 is_second),
    )

    -- nothing is accepted where no type serves as a control that is there
    pub never_first : IsEmptyOption x.first → (c : ControlTypes) → AcceptsSome tables op c → ⊥
    never_first empty c some = empty_never x.first empty c.ctrl ((pairs c).0 some).0

    pub never_second : IsEmptyOption x.second → (c : ControlTypes) → AcceptsSome tables op c → ⊥
    never_second empty c some = empty_never x.second empty c.second ((pairs c).0 some).1

    module _ (some_first_type : IsEmptyOption x.first → ⊥) (some_second_type : IsEmptyOption x.second → ⊥) where
      pub control_options : AreControlOptions tables op x
      control_options =
          let (c, is_first) = some_option x.first some_first_type in
          let (d, is_second) = some_option x.second some_second_type in
          record {
            first = options_of (AcceptsFirst tables op) x.first (serving_rise First x.first first) (λ b. (
              λ (g, some). ((pairs (record { ctrl = b; second = g })).0 some).0,
              λ is. (d, (pairs (record { ctrl = b; second = d })).1 (is, is_second)),
            ));
            second = options_of (AcceptsSecond tables op) x.second (serving_rise Second x.second second) (λ b. (
              λ (g, some). ((pairs (record { ctrl = g; second = b })).0 some).1,
              λ is. (c, (pairs (record { ctrl = c; second = b })).1 (is_first, is)),
            ));
            some = (record { ctrl = c; second = d }, (pairs (record { ctrl = c; second = d })).1 (is_first, is_second));
            pairs = pairs;
          }

      pub option_types : AreTypeOptions x.first × AreTypeOptions x.second
      option_types = (serving_types First x.first first, serving_types Second x.second second)
