-- Entries that hold instructions, and the lists that grow after them.
use Rattle.std.proofs.Common.{◌≡◌, ◌<◌, ◌≤◌, ◌+◌, ℕ, List, [], ◌∷◌, ◌++◌, length, map, take, drop, ◌-◌, length-drop, slice_get, Option}
use Rattle.std.proofs.Common.{Some, inl, inr, ⊎_elim, arith, refl, sym, ap, ◌∙◌, subst, below_more, length-append}
use Rattle.std.specs.Prelude.{option_map}
use Rattle.std.proofs.lemmas.Option.{slice_get-map, slice_get_within, same_Some}
use Rattle.meta_typevar.specs.Variable.{Variable}
use Rattle.meta_typevar.specs.Registry.{sets_of, variable_at, IsRegistry}
use Rattle.meta_typevar.specs.TypeSetParts.{TypeSetParts}
use Rattle.meta_typevar.specs.declared.content.TypeVarContent.{TypeVarContent}
use Rattle.meta_operands.specs.declared.format.InstructionFormat.{InstructionFormat}
use Rattle.meta_inst.specs.Builder.{Builder}
use Rattle.meta_inst.specs.Instruction.{Instruction, IsOperand, controls_of}
use Rattle.meta_inst.specs.Which.{Which, Second, both}
use Rattle.meta_inst.specs.Controls.{AreControlsOf}
use Rattle.meta_inst.specs.Control.{IsControl, HasBadSecond}
use Rattle.meta_inst.specs.InstructionSet.{InstructionSet, root_sets, instruction_of_builder, instruction_in_set}
use Rattle.meta_inst.specs.Faults.{IsAt, AreNeededSets}
use Rattle.meta_inst.specs.Operands.{OperandList, instruction_of_operands, AreOf, SecondIsOf, second_in}
use Rattle.meta_inst.proofs.Meaning.{operand_at, operand_from, results_length}
use Rattle.meta_inst.specs.Tables.{TableContents, OpcodeNumbers, AreFlagsOf, IsTypeSetOffset}
use Rattle.meta_gen.specs.Constraint.{number_constraint_of, entry_of}
use Rattle.meta_gen.specs.TablesOf.{HoldsInstruction}
use Rattle.meta_gen.specs.declared.constraint.Constraint.{Constraint}
use Rattle.meta_gen.specs.declared.constraint.OpcodeConstraints.{OpcodeConstraints}
use Rattle.meta_unique.specs.Overlap.{added, added_at}
use Rattle.meta_gen.specs.ConstraintLists.{same_constraint, three_same, overlapped, IsConstraintAt, IsConstraintList}
use Rattle.meta_gen.specs.ConstraintLists.{AreOverlapped}
use Rattle.meta_gen.specs.Entries.{StaysIn, IsHeld, HoldNeeded, HoldFree, HasTypeSets, IsDescribedAt, AreDescribed, EntryHolds}
use Rattle.meta_gen.specs.Entries.{IsAdded, AreAdded, IsListOf, IsHeldAt}
use Rattle.meta_inst.proofs.ControlLemmas.{control_is, control_from}
use Rattle.meta_gen.proofs.Overlapping.{one_list_more}
use Rattle.std.proofs.Math.Seq.{take-append_seam}
use Rattle.std.proofs.lemmas.List.{take-append-le, length-map}
use Rattle.meta_lists.proofs.Places.{get_stays}
use Rattle.meta_lists.proofs.Pushed.{get_before, get_pushed_below, stays, last, one_longer}
use Rattle.meta_lists.proofs.Mapped.{get_mapped}

-- the needed sets hold what each instruction needs
pub needed_held : (d : InstructionSet) (type_sets : List TypeSetParts) → AreNeededSets d type_sets → (k : ℕ) (b : Builder) → IsAt d k b
    → HoldNeeded type_sets (root_sets d) (instruction_in_set d b)
needed_held d type_sets needed k b at control s is which =
    needed.all s (k, record { user = b; at = at; control = control; is_control = is; needs = which })

module _ (vars : List TypeVarContent) (o : OperandList) (within : o.result_count ≤ length o.variables) (control : Option ℕ)
    (type_sets : List TypeSetParts)
    (held : HoldNeeded type_sets (sets_of vars) (instruction_of_operands vars o))
    (is_control : IsControl (sets_of vars) (instruction_of_operands vars o) (option_map (variable_at vars) control))
    (registry : IsRegistry vars) (are : AreOf vars o.variables) (of : AreControlsOf vars (both control o.second)) where
  -- the set of each control is held
  pub control_held : (a : Which) (v : ℕ) → both control o.second a ≡ Some v → IsHeld type_sets (sets_of vars (variable_at vars v).root)
  control_held a v e = held (option_map (variable_at vars) control) (sets_of vars (variable_at vars v).root) is_control
      (inl (a, record { variable = variable_at vars v; controls_is = control_is vars (both control o.second) a v e; set = refl }))

  -- and the set of each other operand that needs one
  pub free_held : (numbers : List ℕ) → numbers ≡ o.variables → HoldFree vars (both control o.second) type_sets numbers
  free_held numbers same k n at f =
      let there : slice_get o.variables k ≡ Some n = ap (λ ns. slice_get ns k) (sym same) ∙ at in
      held (option_map (variable_at vars) control) (sets_of vars (variable_at vars n).root) is_control (inr record {
        place = k;
        variable = variable_at vars n;
        operand = operand_at vars o within registry are (of Second) k n there;
        underived = f.underived;
        other = λ a e. f.other (a, control_from vars (both control o.second) registry of a n (are k n there) e);
        set = refl;
        several = f.several;
      })

module _ (vars : List TypeVarContent) (o : OperandList) (within : o.result_count ≤ length o.variables) (registry : IsRegistry vars)
    (are : AreOf vars o.variables) (second_of : SecondIsOf vars o.second) (control : Option ℕ) (type_sets : List TypeSetParts)
    (list : List Constraint) (described : AreDescribed vars (both control o.second) type_sets list o.variables) where
  -- the constraint of an operand
  constraint_at : (tables : TableContents) → HasTypeSets tables type_sets → (k : ℕ) (w : Variable)
      → IsOperand (instruction_of_operands vars o) k w
      → IsConstraintAt (sets_of vars) (controls_of (instruction_of_operands vars o) (option_map (variable_at vars) control)) tables list k w
  constraint_at tables has k w op =
      let (n, at, is) = operand_from vars o within registry are second_of k w op in
      let h : IsDescribedAt vars (both control o.second) type_sets list k n = described.each k n at in
      subst (IsConstraintAt (sets_of vars) (controls_of (instruction_of_operands vars o) (option_map (variable_at vars) control)) tables
      list k) (sym is) (record {
        type_constraint = h.describes.constraint;
        is_constraint = h.describes.is_constraint;
        constraint = h.constraint;
        stands = h.describes.stands tables has;
        placed = h.at;
      })

  -- there is one for each operand
  list_length : length list ≡ length (instruction_of_operands vars o).results + length (instruction_of_operands vars o).values
  list_length =
      let results : length (instruction_of_operands vars o).results ≡ o.result_count = results_length vars o within registry are second_of
      in
      let values : length (instruction_of_operands vars o).values ≡ length o.variables - o.result_count =
      length-map (drop o.result_count o.variables) (variable_at vars) ∙ length-drop o.result_count o.variables in
      omega (arith, described.count, results, values, within)

  pub is_list : (tables : TableContents) → HasTypeSets tables type_sets
      → IsConstraintList (sets_of vars) (option_map (variable_at vars) control) tables (instruction_of_operands vars o) list
  is_list tables has = record { count = list_length; each = constraint_at tables has }

  -- the entry of an instruction whose list stands in the constraints
  pub entry_holds : (e : OpcodeConstraints) (constraints : List Constraint)
      → IsControl (sets_of vars) (instruction_of_operands vars o) (option_map (variable_at vars) control)
      → (HasBadSecond (sets_of vars) (instruction_of_operands vars o) → ⊥)
      → AreFlagsOf (instruction_of_operands vars o) (option_map (variable_at vars) control) e.flags
      → ((tables : TableContents) → HasTypeSets tables type_sets
      → IsTypeSetOffset (sets_of vars) (option_map (variable_at vars) control) tables e.typeset_offset)
      → ((tables : TableContents) → HasTypeSets tables type_sets
      → IsTypeSetOffset (sets_of vars) (second_in vars o.second) tables e.second_offset)
      → ((k : ℕ) (x : Constraint) → slice_get list k ≡ Some x → slice_get constraints (e.constraint_offset + k) ≡ Some x)
      → EntryHolds vars (instruction_of_operands vars o) type_sets constraints e
  entry_holds e constraints is_control good flags type_set second_set stands = record {
    control = option_map (variable_at vars) control;
    is_control = is_control;
    good = good;
    is_entry = λ tables has hold. record {
      flags = flags;
      type_set = type_set tables has;
      second_set = second_set tables has;
      constraints = λ k w op.
          let h = constraint_at tables has k w op in
          record {
            constraint = h.type_constraint;
            is_constraint = h.is_constraint;
            number_constraint = number_constraint_of h.constraint;
            stands = h.stands;
            placed = hold (e.constraint_offset + k) h.constraint (stands k h.constraint h.placed);
          };
    };
  }

-- an entry holds its instruction when the list of constraints has grown
pub holds_later : (vars : List TypeVarContent) (i : Instruction) (type_sets : List TypeSetParts) (old new : List Constraint)
    (e : OpcodeConstraints) → StaysIn old new → EntryHolds vars i type_sets old e → EntryHolds vars i type_sets new e
holds_later vars i type_sets old new e stay h = record {
  control = h.control;
  is_control = h.is_control;
  good = h.good;
  is_entry = λ tables has hold. h.is_entry tables has (λ k x at. hold k x (stay k x at));
}

module _ (vars : List TypeVarContent) (formats : List InstructionFormat) (type_sets : List TypeSetParts) where
  -- one more entry, that of the instruction at the next place
  pub one_more_held : (instructions : List Builder) (old new : List Constraint) (entries later : List OpcodeConstraints)
      (e : OpcodeConstraints) (b : Builder) (place : ℕ)
      → later ≡ entries ++ e ∷ [] → length entries ≡ place → slice_get instructions place ≡ Some b → StaysIn old new
      → EntryHolds vars (instruction_of_builder vars formats b) type_sets new e
      → ((k : ℕ) (x : Builder) → k < place → slice_get instructions k ≡ Some x → IsHeldAt vars formats type_sets old entries k x)
      → (k : ℕ) (x : Builder) → k < place + 1 → slice_get instructions k ≡ Some x → IsHeldAt vars formats type_sets new later k x
  one_more_held instructions old new entries later e b place added count at stay holds before k x below at_k =
      below_more (λ k. (x : Builder) → slice_get instructions k ≡ Some x → IsHeldAt vars formats type_sets new later k x) place
      (λ k l x at_x. let h = before k x l at_x in record {
        entry = h.entry;
        at = stays entries later e added k h.entry h.at;
        holds = holds_later vars (instruction_of_builder vars formats x) type_sets old new h.entry stay h.holds;
      })
      (λ x at_x. record {
        entry = e;
        at = last entries later e added place (sym count);
        holds = subst (λ y. EntryHolds vars (instruction_of_builder vars formats y) type_sets new e) (same_Some b x (sym at ∙ at_x)) holds;
      })
      k below x at_k

  -- the tables hold an instruction whose entry holds it
  pub instruction_held : (instructions : List Builder) (tables : TableContents) (constraints : List Constraint)
      (entries : List OpcodeConstraints) → HasTypeSets tables type_sets → tables.operand_constraints ≡ map number_constraint_of constraints
      → tables.entries ≡ map entry_of entries → (k : ℕ) (b : Builder)
      → IsHeldAt vars formats type_sets constraints entries k b
      → HoldsInstruction (record { vars = vars; formats = formats; instructions = instructions }) tables k b
  instruction_held instructions tables constraints entries has has_constraints has_entries k b h = record {
    control = h.holds.control;
    is_control = h.holds.is_control;
    good = h.holds.good;
    entry = entry_of h.entry;
    at = ap (λ xs. slice_get xs k) has_entries ∙ slice_get-map entry_of entries k ∙ ap (option_map entry_of) h.at;
    is_entry = h.holds.is_entry tables has (λ j x at. ap (λ xs. slice_get xs j) has_constraints
        ∙ slice_get-map number_constraint_of constraints j ∙ ap (option_map number_constraint_of) at);
  }

  -- nothing is added yet
  pub none_added : (instructions : List Builder) → AreAdded vars formats instructions type_sets three_same [] []
  none_added instructions = record {
    count = refl;
    whole = refl;
    are = λ k b l at. absurd (omega arith);
    offsets = λ k list e at at_e. absurd (cc);
  }

  -- one more list is added, that of the instruction at the next place
  pub one_more_added : (instructions : List Builder) (old new : List Constraint) (entries later : List OpcodeConstraints)
      (e : OpcodeConstraints) (b : Builder) (lists : List (List Constraint))
      → later ≡ entries ++ e ∷ [] → slice_get instructions (length entries) ≡ Some b
      → (a : IsAdded vars (instruction_of_builder vars formats b) type_sets old new e)
      → AreAdded vars formats instructions type_sets old entries lists
      → AreAdded vars formats instructions type_sets new later (lists ++ a.list ∷ [])
  one_more_added instructions old new entries later e b lists pushed at a h = record {
    count = length-append lists (a.list ∷ []) ∙ ap (λ n. n + 1) h.count ∙ sym longer;
    whole = a.made ∙ ap (λ xs. added same_constraint xs a.list) h.whole ∙ sym (one_list_more lists a.list);
    are = λ k c l at_c. below_more (λ k. (c : Builder) → slice_get instructions k ≡ Some c
        → IsListOf vars formats type_sets (lists ++ a.list ∷ []) k c) (length entries)
        (λ k l c at_c. let x = h.are k c l at_c in record {
          control = x.control;
          is_control = x.is_control;
          list = x.list;
          at = get_stays lists (a.list ∷ []) k x.list x.at;
          is_list = x.is_list;
        })
        (λ c at_c. subst (λ y. IsListOf vars formats type_sets (lists ++ a.list ∷ []) (length entries) y) (same_Some b c (sym at ∙ at_c))
        (record {
          control = a.control;
          is_control = a.is_control;
          list = a.list;
          at = last lists (lists ++ a.list ∷ []) a.list refl (length entries) (sym h.count);
          is_list = a.is_list;
        }))
        k (omega (arith, l, longer)) c at_c;
    offsets = λ k list f at_l at_f. ⊎_elim
        (λ before. older k list f at_l at_f before.0 before.1)
        (λ here. newest k list f at_f here.0 here.1)
        (get_pushed_below lists a.list k list at_l);
  }
    where
      longer : length later ≡ length entries + 1
      longer = one_longer entries later e pushed

      -- the lists before a place are those before it among more
      front : (k : ℕ) → k ≤ length lists → take k (lists ++ a.list ∷ []) ≡ take k lists
      front k l = take-append-le k lists (a.list ∷ []) l

      older : (k : ℕ) (list : List Constraint) (f : OpcodeConstraints) → slice_get (lists ++ a.list ∷ []) k ≡ Some list
          → slice_get later k ≡ Some f → k < length lists → slice_get lists k ≡ Some list
          → f.constraint_offset ≡ added_at same_constraint (overlapped (take k (lists ++ a.list ∷ []))) list
      older k list f at_l at_f inside was =
          let was_entry : slice_get entries k ≡ Some f = sym (get_before entries e k (omega (arith, inside, h.count)))
          ∙ ap (λ xs. slice_get xs k) (sym pushed) ∙ at_f in
          h.offsets k list f was was_entry
          ∙ ap (λ ls. added_at same_constraint (overlapped ls) list) (sym (front k (omega (arith, inside))))

      newest : (k : ℕ) (list : List Constraint) (f : OpcodeConstraints) → slice_get later k ≡ Some f → k ≡ length lists → a.list ≡ list
          → f.constraint_offset ≡ added_at same_constraint (overlapped (take k (lists ++ a.list ∷ []))) list
      newest k list f at_f end same =
          let is : e ≡ f = same_Some e f (sym (last entries later e pushed k (end ∙ h.count)) ∙ at_f) in
          let all : take k (lists ++ a.list ∷ []) ≡ lists = ap (λ n. take n (lists ++ a.list ∷ [])) end
          ∙ take-append_seam lists (a.list ∷ []) in
          ap (λ (x : OpcodeConstraints). x.constraint_offset) (sym is) ∙ a.offset ∙ ap (λ xs. added_at same_constraint xs a.list) h.whole
          ∙ ap (added_at same_constraint (overlapped lists)) same
          ∙ ap (λ ls. added_at same_constraint (overlapped ls) list) (sym all)

-- the one list of the tables is made of the lists of the instructions
pub are_overlapped : (d : InstructionSet) (type_sets : List TypeSetParts) (tables : TableContents) (constraints : List Constraint)
    (entries : List OpcodeConstraints) (lists : List (List Constraint)) → HasTypeSets tables type_sets
    → tables.operand_constraints ≡ map number_constraint_of constraints → tables.entries ≡ map entry_of entries
    → length entries ≡ length d.instructions
    → AreAdded d.vars d.formats d.instructions type_sets constraints entries lists → AreOverlapped d tables
are_overlapped d type_sets tables constraints entries lists has has_constraints has_entries count h = record {
  lists = lists;
  count = h.count ∙ count;
  are = λ k b at. let inside = slice_get_within d.instructions k b at in let x = h.are k b (omega (arith, inside, count)) at in record {
    control = x.control;
    is_control = x.is_control;
    list = x.list;
    at = x.at;
    is_list = x.is_list tables has;
  };
  whole = has_constraints ∙ ap (map number_constraint_of) h.whole;
  offsets = λ k list entry at at_e.
      let (e, at_own, is) = get_mapped entry_of entries k entry (sym (ap (λ xs. slice_get xs k) has_entries) ∙ at_e) in
      ap (λ (x : OpcodeNumbers). x.constraint_offset) (sym is) ∙ h.offsets k list e at at_own;
}
