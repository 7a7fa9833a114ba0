-- The operand constraints of valid declarations, in their one list.
use Rattle.std.proofs.Common.{◌≡◌, ◌≤◌, ◌+◌, ◌*◌, inl, ℕ, Bool, true, false, List, [], ◌∷◌, ◌++◌, All, length, fold, drop, slice_get}
use Rattle.std.proofs.Common.{Option, Some, if◌then◌else◌, refl, sym, ap, ◌∙◌, subst, length-append, length-drop, arith}
use Rattle.std.specs.Prelude.{nat_lt}
use Rattle.std.proofs.lemmas.List.{length-map}
use Rattle.std.proofs.lemmas.List.Elements.{All-nil, All-cons, All-head, All-tail, All-append, All-drop, All-map}
use Rattle.std.proofs.lemmas.Option.{same_Some, slice_get_within}
use Rattle.meta_lists.proofs.Everywhere.{everywhere}
use Rattle.meta_lists.proofs.Places.{get_there, get_beside}
use Rattle.meta_types.specs.TypeParts.{TypeParts, IsType}
use Rattle.meta_types.specs.Function.{Function}
use Rattle.meta_types.proofs.TypeNumbers.{number_is_one}
use Rattle.meta_typevar.specs.Chain.{IsFixed}
use Rattle.meta_typevar.specs.TypeSetParts.{TypeSetParts}
use Rattle.meta_typevar.specs.Variable.{Variable, Sets}
use Rattle.meta_typevar.specs.Registry.{variable_at}
use Rattle.meta_operands.specs.Operand.{variables_of}
use Rattle.meta_inst.specs.Builder.{Builder, inputs_of, outputs_of}
use Rattle.meta_inst.specs.Which.{Which}
use Rattle.meta_inst.specs.Instruction.{Instruction, operands}
use Rattle.meta_inst.specs.InstructionFaults.{CountRule, HasTooManyOperands}
use Rattle.meta_inst.specs.InstructionSet.{InstructionSet, root_sets, instruction_in_set}
use Rattle.meta_inst.specs.Faults.{IsAt, IsValid, OfInstruction}
use Rattle.meta_inst.specs.Constraint.{IsConstraint, TypeConstraint, ConcreteType, FreeType, SameType, ByType}
use Rattle.meta_inst.specs.Tables.{TableContents, NumberConstraint, StandsFor}
use Rattle.meta_inst.proofs.Chains.{agrees_type}
use Rattle.meta_unique.specs.Overlap.{added, first_place, shared}
use Rattle.meta_gen.specs.Constraint.{number_constraint_of}
use Rattle.meta_gen.specs.ConstraintLists.{same_constraint, three_same, overlapped, IsConstraintList, IsListAt, AreOverlapped}
use Rattle.meta_gen.specs.WellFormedOpcodes.{IsWellFormedConstraint}
use Rattle.meta_gen.specs.declared.constraint.Constraint.{Constraint}
use Rattle.meta_gen.specs.declared.constraint.Constraint.TheVariants.{Same}
use Rattle.meta_gen.proofs.Entering.{few_results, few_values}

-- ---- what is added list by list

-- what holds of the table and of the list holds of the table after the list is added
chosen : (P : Constraint → Type 0) (b : Bool) (table more : List Constraint) → All P table → All P more → All P (if b then table else more)
chosen P true table more old new = old
chosen P false table more old new = new

added_holds : (P : Constraint → Type 0) (table list : List Constraint) → All P table → All P list → All P (added same_constraint table list)
added_holds P table [] old new = old
added_holds P table (x ∷ xs) old new =
    chosen P (nat_lt (first_place same_constraint table (x ∷ xs)) (length table)) table
    (table ++ drop (shared same_constraint table (x ∷ xs)) (x ∷ xs)) old
    (All-append P table (drop (shared same_constraint table (x ∷ xs)) (x ∷ xs)) old
    (All-drop P (shared same_constraint table (x ∷ xs)) (x ∷ xs) new))

all_added_hold : (P : Constraint → Type 0) (table : List Constraint) (lists : List (List Constraint)) → All P table → All (All P) lists
    → All P (fold (added same_constraint) table lists)
all_added_hold P table [] old new = old
all_added_hold P table (list ∷ lists) old new =
    all_added_hold P (added same_constraint table list) lists (added_holds P table list old (All-head (All P) list lists new))
    (All-tail (All P) list lists new)

-- the table grows by the list at most
chosen_length : (b : Bool) (table more : List Constraint) (most : ℕ) → length table ≤ most → length more ≤ most
    → length (if b then table else more) ≤ most
chosen_length true table more most old new = old
chosen_length false table more most old new = new

added_length : (table list : List Constraint) → length (added same_constraint table list) ≤ length table + length list
added_length table [] = omega arith
added_length table (x ∷ xs) =
    chosen_length (nat_lt (first_place same_constraint table (x ∷ xs)) (length table)) table
    (table ++ drop (shared same_constraint table (x ∷ xs)) (x ∷ xs)) (length table + length (x ∷ xs))
    (omega arith)
    (omega (
      arith,
      length-append table (drop (shared same_constraint table (x ∷ xs)) (x ∷ xs)),
      length-drop (shared same_constraint table (x ∷ xs)) (x ∷ xs),
    ))

all_added_length : (table : List Constraint) (lists : List (List Constraint)) → All (λ (list : List Constraint). length list ≤ 14) lists
    → length (fold (added same_constraint) table lists) ≤ length table + 14 * length lists
all_added_length table [] few = omega arith
all_added_length table (list ∷ lists) few =
    let rest = all_added_length (added same_constraint table list) lists (All-tail (λ (l : List Constraint). length l ≤ 14) list lists few)
    in
    let one = added_length table list in
    let small : length list ≤ 14 = All-head (λ (l : List Constraint). length l ≤ 14) list lists few in
    omega (arith, rest, one, small)

-- ---- one constraint

-- a fixed type is a type
fixed_type : (s : TypeSetParts) (chain : List Function) (t : TypeParts) → IsFixed s chain t → IsType t
fixed_type s chain t h = agrees_type chain h.member t h.inhabited.is_type (h.reached h.member h.inhabited)

-- what stands for the constraint of an operand is well-formed
stands_well : (sets : Sets) (controls : Which → Option Variable) (w : Variable) (tables : TableContents) (c : TypeConstraint)
    (x : NumberConstraint) → IsConstraint sets controls w c → StandsFor tables c x → IsWellFormedConstraint (length tables.type_sets) x
stands_well sets controls w tables (ConcreteType t) x is stands =
    subst (IsWellFormedConstraint (length tables.type_sets)) (sym stands) (number_is_one t (fixed_type (sets w.root) w.chain t is))
stands_well sets controls w tables (FreeType s) x is (j, stands, held) =
    subst (IsWellFormedConstraint (length tables.type_sets)) (sym stands) (slice_get_within tables.type_sets j held.masks held.is_set)
stands_well sets controls w tables (SameType a) x is stands = subst (IsWellFormedConstraint (length tables.type_sets)) (sym stands) tt
stands_well sets controls w tables (ByType a f) x is stands = subst (IsWellFormedConstraint (length tables.type_sets)) (sym stands) tt

-- ---- the lists of the instructions

-- well-formed, in tables with this count of type sets
abbrev pub IsWell : TableContents → Constraint → Type 0
IsWell tables x = IsWellFormedConstraint (length tables.type_sets) (number_constraint_of x)

list_well : (sets : Sets) (control : Option Variable) (tables : TableContents) (i : Instruction) (list : List Constraint)
    → IsConstraintList sets control tables i list → All (IsWell tables) list
list_well sets control tables i list is = everywhere list (λ k x at.
    let inside = slice_get_within list k x at in
    let (w, op) = get_there (operands i) k (omega (arith, is.count, length-append i.results i.values)) in
    let h = is.each k w op in
    let well = stands_well sets _ w tables h.type_constraint (number_constraint_of h.constraint) h.is_constraint h.stands in
    subst (IsWell tables) (same_Some h.constraint x (sym h.placed ∙ at)) well)

module _ (d : InstructionSet) (valid : IsValid d) where
  few_operands : (k : ℕ) (b : Builder) → IsAt d k b → (count : ℕ) → HasTooManyOperands b count → ⊥
  few_operands k b at count many = valid (OfInstruction k CountRule) _ (inl (record { builder = b; at = at; breaks = (count, refl, many) }))

  -- an instruction has at most fourteen operands
  pub operand_count : (k : ℕ) (b : Builder) → IsAt d k b
      → length (instruction_in_set d b).results + length (instruction_in_set d b).values ≤ 14
  operand_count k b at =
      let results = few_results b (few_operands k b at) in
      let values = few_values b (few_operands k b at) in
      omega (
        arith,
        results,
        values,
        length-map (variables_of (outputs_of b)) (variable_at d.vars),
        length-map (variables_of (inputs_of b)) (variable_at d.vars),
      )

  module _ (tables : TableContents) (are : AreOverlapped d tables) where
    list_at : (k : ℕ) (list : List Constraint) → slice_get are.lists k ≡ Some list
        → (b : Builder) × IsAt d k b × ((h : IsListAt d tables are.lists k b) × (h.list ≡ list))
    list_at k list at =
        let (b, b_at) = get_beside are.lists d.instructions k list are.count at in
        let h = are.are k b b_at in
        (b, b_at, (h, same_Some h.list list (sym h.at ∙ at)))

    lists_well : All (All (IsWell tables)) are.lists
    lists_well = everywhere are.lists (λ k list at.
        let (b, b_at, here) = list_at k list at in
        let h = here.0 in
        let same = here.1 in
        subst (All (IsWell tables)) same (list_well (root_sets d) h.control tables (instruction_in_set d b) h.list h.is_list))

    lists_short : All (λ (list : List Constraint). length list ≤ 14) are.lists
    lists_short = everywhere {P = λ (list : List Constraint). length list ≤ 14} are.lists (λ k list at.
        let (b, b_at, here) = list_at k list at in
        let h = here.0 in
        let same = here.1 in
        let few = operand_count k b b_at in
        omega (arith, few, h.is_list.count, ap (length {A = Constraint}) same))

    three_well : All (IsWell tables) three_same
    three_well = All-cons (IsWell tables) Same (Same ∷ Same ∷ []) (tt {0})
        (All-cons (IsWell tables) Same (Same ∷ []) (tt {0}) (All-cons (IsWell tables) Same [] (tt {0}) (All-nil (IsWell tables))))

    pub constraints_well : All (IsWellFormedConstraint (length tables.type_sets)) tables.operand_constraints
    constraints_well =
        subst (All (IsWellFormedConstraint (length tables.type_sets))) (sym are.whole)
        (All-map (IsWellFormedConstraint (length tables.type_sets)) number_constraint_of (overlapped are.lists)
        (all_added_hold (IsWell tables) three_same are.lists three_well lists_well))

    pub constraints_few : length d.instructions ≤ 4095 → length tables.operand_constraints ≤ 65535
    constraints_few few =
        let count = ap (length {A = NumberConstraint}) are.whole ∙ length-map (overlapped are.lists) number_constraint_of in
        let most = all_added_length three_same are.lists lists_short in
        omega (arith, count, most, few, are.count)
