-- What tables give for results, and what the declarations infer that the tables are of.
use Rattle.std.proofs.Common.{◌≡◌, ◌≢◌, ◌↔◌, ◌<◌, ◌≤◌, ◌+◌, ◌-◌, ℕ, suc, List, length, take, drop, slice_get, get_or, Option, None, Some}
use Rattle.std.proofs.Common.{IfSome, IfNone, inl, inr, sym, ap, ◌∙◌, subst, add-one, arith, length-drop, below_more}
use Rattle.std.proofs.lemmas.Option.{same_Some, slice_get-get_or, slice_get_within, get_or_from_slice_get}
use Rattle.std.proofs.Math.ListN.{set}
use Rattle.std.proofs.lemmas.List.{length-take-le, get_or-set_same, get_or-set_other}
use Rattle.meta_lists.proofs.Places.{same_places, get_take, get_drop}
use Rattle.meta_types.specs.TypeParts.{number_of}
use Rattle.meta_types.specs.DerivedFunc.{function_of}
use Rattle.meta_types.specs.Function.{Function, IsRelation, AnswersNumber}
use Rattle.meta_types.specs.declared.derived_func.DerivedFunc.{DerivedFunc}
use Rattle.meta_typevar.specs.Registry.{HoldTypeSets}
use Rattle.meta_inst.specs.Builder.{Builder}
use Rattle.meta_inst.specs.Which.{Which, both}
use Rattle.meta_inst.specs.Controls.{which_of}
use Rattle.meta_inst.specs.declared.controls.Which.{Which as WhichType}
use Rattle.meta_inst.specs.Control.{IsControl, HasBadSecond}
use Rattle.meta_inst.specs.Faults.{IsValid}
use Rattle.meta_inst.specs.InstructionSet.{InstructionSet, root_sets, instruction_in_set}
use Rattle.meta_inst.proofs.OneControl.{same_control}
use Rattle.meta_inst.proofs.ValidControls.{good_second}
use Rattle.meta_inst.specs.Inference.{GivesBy, GivesNumber, GivesAt, GivesResults, InfersNumbers}
use Rattle.meta_inst.specs.Tables.{TableContents, NumberConstraint, OpcodeNumbers, ControlNumberFits, Allows, SaysDesignated}
use Rattle.meta_inst.specs.Tables.{DesignatedControls, at_opcode, result_count}
use Rattle.meta_inst.proofs.Decoding.{tables_mean}
use Rattle.meta_inst.proofs.Inferring.{designated_typed as value_typed}
use Rattle.meta_inst.proofs.ListedOperands.{number_of_type, number_of_type_at}
use Rattle.meta_inst.proofs.Giving.{results_mean}
use Rattle.meta_inst.proofs.Given.{allowed_given, given_is}
use Rattle.meta_gen.specs.Demand.{number_constraint_demanded}
use Rattle.meta_gen.specs.TablesOf.{AreTablesOf, HoldsInstruction, AcceptsOpcode}
use Rattle.meta_gen.specs.Inferred.{InfersOpcode, HasDesignatedControl, HasControlType}
use Rattle.meta_gen.specs.declared.constraint.Demand.{Demand}
use Rattle.meta_gen.specs.declared.constraint.Demand.TheVariants.{Controlling, By}
use Rattle.meta_gen.proofs.Declared.{declared_as}

-- ---- one constraint

-- a function that answers nothing gives nothing
pub none_by : (from : Option ℕ) (f : Function) (u : ℕ) (r : Option ℕ) → from ≡ Some u → (IsRelation f → ⊥)
    → IfNone r ((m : ℕ) → AnswersNumber f u m → ⊥) → IfNone r ((n : ℕ) → GivesBy from f n → ⊥)
none_by from f u (Some x) is other none = tt
none_by from f u None is other none = by_case
  where
    by_case : (n : ℕ) → GivesBy from f n → ⊥
    by_case n (inl h) = other h.0
    by_case n (inr (v, is_v, answer)) = none n (subst (λ x. AnswersNumber f x n) (same_Some v u (sym is_v ∙ is)) answer)

-- what a control gives, where its number is demanded
pub same_as : (c : Which → Option ℕ) (x : NumberConstraint) (demand : Demand) (which : WhichType) (r : Option ℕ)
    → number_constraint_demanded demand ≡ x → demand ≡ Controlling which → r ≡ c (which_of which) → IfSome r (GivesNumber c x)
same_as c x demand which (Some n) e is of = subst (λ z. GivesNumber c z n) (sym (ap number_constraint_demanded is) ∙ e) (sym of)
same_as c x demand which None e is of = tt

pub none_as : (c : Which → Option ℕ) (x : NumberConstraint) (demand : Demand) (which : WhichType) (f : DerivedFunc) (from r : Option ℕ)
    → number_constraint_demanded demand ≡ x → demand ≡ By which f → from ≡ c (which_of which)
    → IfNone r ((n : ℕ) → GivesBy from (function_of f) n → ⊥) → IfNone r ((n : ℕ) → GivesNumber c x n → ⊥)
none_as c x demand which f from (Some y) e is of none = tt
none_as c x demand which f from None e is of none =
    λ n g. none n (subst (λ o. GivesBy o (function_of f) n) (sym of) (subst (λ z. GivesNumber c z n) (sym e
    ∙ ap number_constraint_demanded is) g))

module _ (tables : TableContents) (c : Which → Option ℕ) (place : ℕ) where
  -- the constraint at a place gives what is given there
  pub given_read : (x : NumberConstraint) (r : Option ℕ) → slice_get tables.operand_constraints place ≡ Some x
      → IfSome r (λ n. GivesNumber c x n) → IfSome r (λ n. GivesAt tables c place n)
  given_read x None at g = g
  given_read x (Some n) at g = record { constraint = x; is_constraint = at; gives = g }

  pub none_read : (x : NumberConstraint) (r : Option ℕ) → slice_get tables.operand_constraints place ≡ Some x
      → IfNone r ((n : ℕ) → GivesNumber c x n → ⊥) → IfNone r ((n : ℕ) → GivesAt tables c place n → ⊥)
  none_read x (Some n) at none = tt
  none_read x None at none = λ n g. none n (subst (λ y. GivesNumber c y n) (same_Some g.constraint x (sym g.is_constraint ∙ at)) g.gives)

  -- where there is no constraint nothing is given
  pub nothing_given : slice_get tables.operand_constraints place ≡ None → (n : ℕ) → GivesAt tables c place n → ⊥
  nothing_given none n g = let e : None ≡ Some g.constraint = sym none ∙ g.is_constraint in cc

-- ---- all results of an opcode

module _ (tables : TableContents) (op : ℕ) (c d : Option ℕ) (entry : OpcodeNumbers) (at : at_opcode tables.entries op ≡ Some entry) where
  same_entry : (numbers : List ℕ) (g : GivesResults tables op c d numbers) → g.entry ≡ entry
  same_entry numbers g = same_Some g.entry entry (sym g.is_opcode ∙ at)

  pub refused_control : (ControlNumberFits tables entry.typeset_offset c → ⊥) → (numbers : List ℕ) → GivesResults tables op c d numbers → ⊥
  refused_control unfit numbers g = unfit (subst (λ x. ControlNumberFits tables x.typeset_offset c) (same_entry numbers g) g.control_fits)

  pub refused_second : (ControlNumberFits tables entry.second_offset d → ⊥) → (numbers : List ℕ) → GivesResults tables op c d numbers → ⊥
  refused_second unfit numbers g = unfit (subst (λ x. ControlNumberFits tables x.second_offset d) (same_entry numbers g) g.second_fits)

  -- where a result's constraint gives nothing
  pub refused_place : (k : ℕ) → k < result_count entry.flags → ((n : ℕ) → GivesAt tables (both c d) (entry.constraint_offset + k) n → ⊥)
      → (numbers : List ℕ) → GivesResults tables op c d numbers → ⊥
  refused_place k below none numbers g =
      let same = same_entry numbers g in
      let count : length numbers ≡ result_count entry.flags = g.count ∙ ap (λ (x : OpcodeNumbers). result_count x.flags) same in
      let there = g.each k (get_or numbers k 0) (slice_get-get_or numbers k 0 (omega (arith, count, below))) in
      none (get_or numbers k 0) (subst (λ (x : OpcodeNumbers). GivesAt tables (both c d) (x.constraint_offset + k) (get_or numbers k 0))
      same there)

  -- the front of a list of what is given
  pub all_given : (numbers : List ℕ) (count : ℕ) → ControlNumberFits tables entry.typeset_offset c
      → ControlNumberFits tables entry.second_offset d → count ≡ result_count entry.flags → count ≤ length numbers
      → ((j : ℕ) → j < count → GivesAt tables (both c d) (entry.constraint_offset + j) (get_or numbers j 0))
      → GivesResults tables op c d (take count numbers)
  all_given numbers count fits second_fits is within each = record {
    entry = entry;
    is_opcode = at;
    control_fits = fits;
    second_fits = second_fits;
    count = long ∙ is;
    each = λ k n n_at.
        let below : k < count = (let inside = slice_get_within (take count numbers) k n n_at in omega (arith, inside, long)) in
        let own : get_or numbers k 0 ≡ n = get_or_from_slice_get numbers k n 0 (sym (get_take numbers count k below) ∙ n_at) in
        subst (λ m. GivesAt tables (both c d) (entry.constraint_offset + k) m) own (each k below);
  }
    where
      long : length (take count numbers) ≡ count
      long = length-take-le count numbers within

-- one number more, written at the next place
pub more_given : (tables : TableContents) (c : Which → Option ℕ) (offset : ℕ) (xs : List ℕ) (k n : ℕ) → k < length xs
    → GivesAt tables c (offset + k) n → ((j : ℕ) → j < k → GivesAt tables c (offset + j) (get_or xs j 0)) → (j : ℕ) → j < k + 1
    → GivesAt tables c (offset + j) (get_or (set xs k n) j 0)
more_given tables c offset xs k n inside here before j below =
    below_more (λ j. GivesAt tables c (offset + j) (get_or (set xs k n) j 0)) k
    (λ j l. subst (λ m. GivesAt tables c (offset + j) m) (sym (get_or-set_other xs k j n 0 (λ e. omega (arith, e, l)))) (before j l))
    (subst (λ m. GivesAt tables c (offset + k) m) (sym (get_or-set_same xs k n 0 inside)) here)
    j below

pub rest_stays : (xs ys : List ℕ) (k n : ℕ) → ((j : ℕ) → k ≤ j → get_or xs j 0 ≡ get_or ys j 0) → (j : ℕ) → k + 1 ≤ j
    → get_or (set xs k n) j 0 ≡ get_or ys j 0
rest_stays xs ys k n rest j past = get_or-set_other xs k j n 0 (λ e. omega (arith, e, past)) ∙ rest j (omega arith)

-- lists that are the same from a place on
pub same_rest : (xs ys : List ℕ) (count : ℕ) → length xs ≡ length ys
    → ((j : ℕ) → count ≤ j → j < length xs → get_or xs j 0 ≡ get_or ys j 0) → drop count xs ≡ drop count ys
same_rest xs ys count long same =
    same_places (drop count xs) (drop count ys) (length-drop count xs ∙ ap (λ n. n - count) long ∙ sym (length-drop count ys))
    (λ j l.
    let inside : count + j < length xs = omega (arith, l, length-drop count xs) in
    get_drop xs count j ∙ slice_get-get_or xs (count + j) 0 inside ∙ ap Some (same (count + j) (omega arith) inside)
    ∙ sym (slice_get-get_or ys (count + j) 0 (omega (arith, inside, long))) ∙ sym (get_drop ys count j))

-- ---- tables of declarations

module _ (d : InstructionSet) (tables : TableContents) (op : ℕ) (c e : Option ℕ) (typed : HoldTypeSets d.vars)
    (h : AreTablesOf d tables) where
  -- the tables give what the declarations infer
  inferred : (numbers : List ℕ) → GivesResults tables op c e numbers → InfersOpcode d op c e numbers
  inferred numbers g =
      let x = declared_as d tables op g.entry h g.is_opcode in
      record {
        place = x.place;
        builder = x.builder;
        at = x.at;
        number = x.number;
        control = x.control;
        is_control = x.is_control;
        infers = (results_mean (root_sets d) (instruction_in_set d x.builder) x.control tables g.entry (λ k w _. typed w.root) x.is_control
            (h.holds x.place x.builder x.at).good x.is_entry c e op g.is_opcode numbers).0 g;
      }

  given : (numbers : List ℕ) → InfersOpcode d op c e numbers → GivesResults tables op c e numbers
  given numbers a =
      let held : HoldsInstruction d tables a.place a.builder = h.holds a.place a.builder a.at in
      let same : a.control ≡ held.control =
      same_control (root_sets d) (instruction_in_set d a.builder) a.control held.control a.is_control held.is_control in
      let infers : InfersNumbers (root_sets d) (instruction_in_set d a.builder) held.control c e numbers =
      subst (λ x. InfersNumbers (root_sets d) (instruction_in_set d a.builder) x c e numbers) same a.infers in
      let numbered : suc a.place ≡ op = sym (a.number ∙ add-one a.place) in
      let at : at_opcode tables.entries op ≡ Some held.entry = subst (λ n. at_opcode tables.entries n ≡ Some held.entry) numbered held.at in
      (results_mean (root_sets d) (instruction_in_set d a.builder) held.control tables held.entry
      (λ k w _. typed w.root) held.is_control held.good held.is_entry c e op at numbers).1 infers

  pub results_of_mean : (numbers : List ℕ) → (GivesResults tables op c e numbers ↔ InfersOpcode d op c e numbers)
  results_of_mean numbers = (inferred numbers, given numbers)

  pub some_inferred : (r : Option ℕ) (out : List ℕ) → IfSome r (λ count. GivesResults tables op c e (take count out))
      → IfSome r (λ count. InfersOpcode d op c e (take count out))
  some_inferred None out g = g
  some_inferred (Some count) out g = inferred (take count out) g

  pub none_inferred : (r : Option ℕ) → IfNone r ((numbers : List ℕ) → GivesResults tables op c e numbers → ⊥)
      → IfNone r ((numbers : List ℕ) → InfersOpcode d op c e numbers → ⊥)
  none_inferred (Some count) none = tt
  none_inferred None none = λ numbers a. none numbers (given numbers a)

-- ---- what is allowed

module _ (tables : TableContents) (op : ℕ) (c e : Option ℕ) where
  pub each_accepted : (r : Option ℕ) (out : List ℕ) → IfSome r (λ count. GivesResults tables op c e (take count out))
      → IfSome r (λ count. (rs vs : List ℕ) → Allows tables op c e rs vs → (k m n : ℕ) → slice_get (take count out) k ≡ Some n → n ≢ 0
      → slice_get rs k ≡ Some m → m ≡ n)
  each_accepted None out g = g
  each_accepted (Some count) out g = λ rs vs a k m n. given_is tables op c e rs vs a (take count out) g k m n

  pub none_accepted : (r : Option ℕ) → IfNone r ((numbers : List ℕ) → GivesResults tables op c e numbers → ⊥)
      → IfNone r ((rs vs : List ℕ) → Allows tables op c e rs vs → ⊥)
  none_accepted (Some count) none = tt
  none_accepted None none = λ rs vs a. let (numbers, g) = allowed_given tables op c e rs vs a in none numbers g

-- where the designated operand's variable controls, what is designated has the controlling type
typed_designated : (d : InstructionSet) (op : ℕ) (c e : Option ℕ) (rs vs : List ℕ) (a : AcceptsOpcode d op c e rs vs)
    → (HasBadSecond (root_sets d) (instruction_in_set d a.builder) → ⊥) → DesignatedControls (instruction_in_set d a.builder) a.control
    → HasControlType d op c vs
typed_designated d op c e rs vs a good (v, is, to) =
    let x = a.accepts in
    let (t, t_at, is_t) = value_typed (root_sets d) (instruction_in_set d a.builder) a.control x.control_type x.second_type x.result_types
    x.value_types a.is_control good x.accepts (v, is, to) to.place to.designates in
    record {
      place = a.place;
      builder = a.builder;
      at = a.at;
      number = a.number;
      position = to.place;
      designated = to.designates;
      type_number = number_of t;
      controls = number_of_type x.control_type c t x.control_number is_t;
      stands = number_of_type_at x.value_types vs to.place t x.value_numbers t_at;
    }

-- where the flags say so
pub designated_typed : (d : InstructionSet) (tables : TableContents) (op : ℕ) (entry : OpcodeNumbers) (c e : Option ℕ) (rs vs : List ℕ)
    → HoldTypeSets d.vars → AreTablesOf d tables → at_opcode tables.entries op ≡ Some entry → SaysDesignated entry.flags
    → Allows tables op c e rs vs → HasControlType d op c vs
designated_typed d tables op entry c e rs vs typed h at bit allows =
    let x = declared_as d tables op entry h at in
    let good = (h.holds x.place x.builder x.at).good in
    typed_designated d op c e rs vs (record {
      place = x.place;
      builder = x.builder;
      at = x.at;
      number = x.number;
      control = x.control;
      is_control = x.is_control;
      accepts = (tables_mean (root_sets d) (instruction_in_set d x.builder) x.control tables op entry c e rs vs
          (λ k w _. typed w.root) x.is_control good x.is_entry at).0 allows;
    }) good (x.is_entry.flags.designated.0 bit)

-- where the declarations do, which are valid
pub declared_typed : (d : InstructionSet) (op : ℕ) (c e : Option ℕ) (rs vs : List ℕ) → IsValid d → HasDesignatedControl d op
    → AcceptsOpcode d op c e rs vs → HasControlType d op c vs
declared_typed d op c e rs vs valid x a =
    let place : x.place ≡ a.place = omega (arith, x.number, a.number) in
    let same : x.builder ≡ a.builder = same_Some x.builder a.builder (sym x.at ∙ ap (slice_get d.instructions) place ∙ a.at) in
    let is_control : IsControl (root_sets d) (instruction_in_set d a.builder) x.control =
    subst (λ (b : Builder). IsControl (root_sets d) (instruction_in_set d b) x.control) same x.is_control in
    let one : x.control ≡ a.control =
    same_control (root_sets d) (instruction_in_set d a.builder) x.control a.control is_control a.is_control in
    let own : DesignatedControls (instruction_in_set d a.builder) x.control =
    subst (λ (b : Builder). DesignatedControls (instruction_in_set d b) x.control) same x.controls in
    typed_designated d op c e rs vs a (good_second d valid a.place a.builder a.at)
    (subst (DesignatedControls (instruction_in_set d a.builder)) one own)
