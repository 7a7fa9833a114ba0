-- The declarations of every number are valid.
use Rattle.std.proofs.Common.{◌≡◌, ◌⊎◌, inl, inr, ⊎_elim, ◌+◌, ◌<◌, ◌≤◌, ◌^◌, ℕ, zero, suc, ◌==◌, cond, List, [], ◌∷◌, length, map}
use Rattle.std.proofs.Common.{slice_get, Option, Some, codes, refl, sym, ap, subst, ◌∙◌, arith}
use Rattle.std.specs.List.{All, AllZip}
use Rattle.std.proofs.lemmas.List.Elements.{All-nil, All-cons}
use Rattle.std.proofs.lemmas.Bool.{false≢true}
use Rattle.std.proofs.lemmas.Option.{same_Some, slice_get_within}
use Rattle.meta_lists.proofs.Mapped.{get_mapped}
use Rattle.meta_types.specs.Name.{IsName, IsNameByte}
use Rattle.meta_types.specs.SharedNames.{SharesName, IsDuplicate}
use Rattle.meta_types.specs.declared.fault.DefinitionError.{DefinitionError}
use Rattle.meta_typevar.specs.TypeSetParts.{TypeSetParts, HasOne}
use Rattle.meta_types.specs.Function.{AsTruthy}
use Rattle.meta_typevar.specs.Variable.{Variable, underived, longer}
use Rattle.meta_typevar.specs.Registry.{sets_of, set_at}
use Rattle.meta_typevar.specs.declared.content.TypeVarContent.{TypeVarContent}
use Rattle.meta_operands.specs.declared.operand.Operand.{Operand}
use Rattle.meta_operands.specs.declared.format.InstructionFormat.{InstructionFormat}
use Rattle.meta_operands.specs.declared.structure.FormatStructure.{FormatStructure}
use Rattle.meta_inst.specs.Builder.{Builder, inputs_of, outputs_of}
use Rattle.meta_inst.specs.FormatMatch.{MatchesFormat}
use Rattle.meta_inst.specs.Which.{Which}
use Rattle.meta_inst.specs.Instruction.{Instruction, controls_of}
use Rattle.meta_settings.specs.GroupDeclaration.{GroupDeclaration}
use Rattle.meta_inst.specs.Control.{HasNoControl, HasBadSecond, DerivesBadly, IsControl}
use Rattle.meta_inst.specs.InstructionSet.{instruction_of_builder, designated_in, begins_with_value}
use Rattle.meta_inst.specs.Operands.{second_in}
use Rattle.meta_inst.specs.InstructionFaults.{Rule, NameRule, DuplicateRule, OutputRule, MismatchRule, ControlRule, SecondRule}
use Rattle.meta_inst.specs.InstructionFaults.{DerivationRule, CountRule, MethodRule, Breaks}
use Rattle.meta_inst.specs.Faults.{IsAt, names_of, IsFirstUse, SharesFormat, IsControlSet, IsFreeSet, NeedsSet, FormatRule, FormatNameRule}
use Rattle.meta_inst.specs.Faults.{BlocksRule, ClashRule, OfOpcodes, OfInstruction, OfFormat, OfTypeSets, FormatBreaks, IsValid}
use Rattle.meta_build.specs.AllDeclared.{Declared, AreValid}
use Rattle.meta_query.specs.declared.shape.Shape.{Shape}
use Rattle.meta_query.specs.declared.shape.Shape.TheVariants.{Bare, Copying, Comparing, Widening}
use Rattle.meta_query.specs.Shapes.{inputs_for, outputs_for, format_of, value_format, all_formats}
use Rattle.meta_query.specs.Seeds.{seed_of, shape_of, set_of_seed, name_of_number}
use Rattle.meta_query.specs.Synth.{IsValueOf, variables_to, IsInstruction, IsSynth}
use Rattle.meta_query.proofs.Naming.{names_apart, is_name}
use Rattle.meta_query.proofs.Choosing.{several}
use Rattle.meta_query.proofs.Few.{IsKnown, is_known, few_sets}
use Rattle.meta_query.proofs.Valued.{variables, value_count, variable_count, no_blocks, no_raw_blocks, no_fields, no_varargs, no_bad_output}
use Rattle.meta_query.proofs.Valued.{begins, begins_not}
use Rattle.meta_query.proofs.Controlled.{gives, model, has_control, control_set, free_set, derives_well, no_second}

-- ---- the shapes

-- the format of the shape
abbrev format_for : Shape → InstructionFormat
format_for Bare = value_format (codes "NullAry") 0
format_for Copying = value_format (codes "Unary") 1
format_for Comparing = value_format (codes "Binary") 2
format_for Widening = value_format (codes "Unary") 1

format_at : (shape : Shape) → slice_get all_formats (format_of shape) ≡ Some (format_for shape)
format_at Bare = refl
format_at Copying = refl
format_at Comparing = refl
format_at Widening = refl

begins_so : (vars : List TypeVarContent) (shape : Shape) (x : ℕ) (os : List Operand)
    → AllZip (IsValueOf vars) (outputs_for shape x) os → begins_with_value os ≡ gives shape
begins_so vars Bare x os h = begins_not vars os h
begins_so vars Copying x os h = begins vars (codes "a", underived x) [] os h
begins_so vars Comparing x os h = begins vars (codes "a", longer (underived x) AsTruthy) [] os h
begins_so vars Widening x os h = begins vars (codes "a", underived x) [] os h

few_outputs : (shape : Shape) (x : ℕ) → length (outputs_for shape x) ≤ 1
few_outputs Bare x = omega arith
few_outputs Copying x = omega arith
few_outputs Comparing x = omega arith
few_outputs Widening x = omega arith

few_inputs : (shape : Shape) (x : ℕ) → length (inputs_for shape x) ≤ 2
few_inputs Bare x = omega arith
few_inputs Copying x = omega arith
few_inputs Comparing x = omega arith
few_inputs Widening x = omega arith

-- inputs of the shape are stored as its format says
matches : (vars : List TypeVarContent) (shape : Shape) (x : ℕ) (os : List Operand)
    → AllZip (IsValueOf vars) (inputs_for shape x) os → MatchesFormat (format_for shape) os
matches vars shape x os h = record {
  values = value_count vars (inputs_for shape x) os h ∙ counts shape;
  blocks = no_blocks vars (inputs_for shape x) os h ∙ blocks_so shape;
  raw_blocks = no_raw_blocks vars (inputs_for shape x) os h ∙ raw_so shape;
  fields = no_fields vars (inputs_for shape x) os h ∙ fields_so shape;
  varargs = λ e. absurd (false≢true (sym (no_varargs vars (inputs_for shape x) os h) ∙ e));
}
  where
    counts : (shape : Shape) → length (inputs_for shape x) ≡ (format_for shape).num_value_operands
    counts Bare = refl
    counts Copying = refl
    counts Comparing = refl
    counts Widening = refl

    blocks_so : (shape : Shape) → 0 ≡ (format_for shape).num_block_operands
    blocks_so Bare = refl
    blocks_so Copying = refl
    blocks_so Comparing = refl
    blocks_so Widening = refl

    raw_so : (shape : Shape) → 0 ≡ (format_for shape).num_raw_block_operands
    raw_so Bare = refl
    raw_so Copying = refl
    raw_so Comparing = refl
    raw_so Widening = refl

    fields_so : (shape : Shape) → [] ≡ map (λ field. field.kind.rust_field_name) (format_for shape).imm_fields
    fields_so Bare = refl
    fields_so Copying = refl
    fields_so Comparing = refl
    fields_so Widening = refl

-- ---- one instruction

module _ (vars : List TypeVarContent) (formats : List InstructionFormat) (n number x : ℕ) (b : Builder)
    (are : formats ≡ all_formats) (small : number < 2 ^ 64) (is : IsInstruction vars n number x b) where
  abbrev seed : ℕ
  seed = seed_of n number

  abbrev shape : Shape
  shape = shape_of seed

  -- the set of its root
  root_set : sets_of vars x ≡ set_of_seed seed
  root_set = ap set_at is.root

  root_several : HasOne (sets_of vars x) → ⊥
  root_several h = several seed (subst HasOne root_set h)

  its_format : slice_get formats b.format ≡ Some (format_for shape)
  its_format = ap (λ fs. slice_get fs b.format) are ∙ ap (slice_get all_formats) is.format ∙ format_at shape

  pub is_model : instruction_of_builder vars formats b ≡ model shape x
  is_model = λ i. record {
    results = variables vars (outputs_for shape x) (outputs_of b) is.outputs i;
    values = variables vars (inputs_for shape x) (inputs_of b) is.inputs i;
    designated = ap designated_in (ap (λ fs. slice_get fs b.format) are ∙ ap (slice_get all_formats) is.format) i;
    begins_with_value = begins_so vars shape x (outputs_of b) is.outputs i;
    second = ap (second_in vars) is.second i;
  }

  pub well_made : (rule : Rule) (e : DefinitionError) (m : ℕ) → Breaks vars formats b m rule e → ⊥
  well_made NameRule e m h = h.1 (subst IsName (sym is.name) (is_name number small))
  well_made DuplicateRule e m h = h
  well_made OutputRule e m h = no_bad_output vars (outputs_for shape x) (outputs_of b) is.outputs h.0 h.2
  well_made MismatchRule e m h =
      let format = h.1 in
      format.2 (subst (λ f. MatchesFormat f (inputs_of b)) (same_Some _ _ (sym its_format ∙ format.1))
      (matches vars shape x (inputs_of b) is.inputs))
  well_made ControlRule e m h = has_control (sets_of vars) x root_several shape (subst (HasNoControl (sets_of vars)) is_model h.1)
  well_made SecondRule e m h = no_second (sets_of vars) shape x (subst (HasBadSecond (sets_of vars)) is_model h.1)
  well_made DerivationRule e m h = derives_well (sets_of vars) x root_several shape h.0
      (subst (λ (i : Instruction). DerivesBadly (sets_of vars) i h.0) is_model h.2)
  well_made CountRule e m h =
      let results = variable_count vars (outputs_for shape x) (outputs_of b) is.outputs in
      let values = variable_count vars (inputs_for shape x) (inputs_of b) is.inputs in
      ⊎_elim
      (λ many. omega (arith, many.0, results, few_outputs shape x))
      (λ many. omega (arith, many.1, values, few_inputs shape x))
      h.2
  well_made MethodRule e m h = false≢true (sym (ap (λ marks. marks.inst_builder_imm_method) is.marks) ∙ h.1.0)

  -- what it needs in tables is the set of its root
  pub needed : (s : TypeSetParts) (control : Option Variable) → IsControl (sets_of vars) (instruction_of_builder vars formats b) control
      → (((a : Which) × IsControlSet (sets_of vars) (controls_of (instruction_of_builder vars formats b) control) a s)
      ⊎ IsFreeSet (sets_of vars) (instruction_of_builder vars formats b) control s)
      → s ≡ set_of_seed seed
  needed s control is_control needs = of_model (instruction_of_builder vars formats b) is_model is_control needs ∙ root_set
    where
      of_model : (i : Instruction) → i ≡ model shape x → IsControl (sets_of vars) i control
          → (((a : Which) × IsControlSet (sets_of vars) (controls_of i control) a s) ⊎ IsFreeSet (sets_of vars) i control s)
          → s ≡ sets_of vars x
      of_model i e is needs =
          let at : IsControl (sets_of vars) (model shape x) control = subst (λ j. IsControl (sets_of vars) j control) e is in
          ⊎_elim
          (λ c. control_set (sets_of vars) x root_several shape control c.0 s at
          (subst (λ (j : Instruction). IsControlSet (sets_of vars) (controls_of j control) c.0 s) e c.1))
          (λ f. free_set (sets_of vars) x root_several shape control s
          (subst (λ (j : Instruction). IsFreeSet (sets_of vars) j control s) e f))
          needs

-- ---- formats

-- a byte that may stand in a name
lower : (c : ℕ) (cs : List ℕ) → 97 ≤ c → c ≤ 122 → All IsNameByte cs → All IsNameByte (c ∷ cs)
lower c cs low high all = All-cons IsNameByte c cs (inl (inr (low, high))) all

upper : (c : ℕ) (cs : List ℕ) → 65 ≤ c → c ≤ 90 → All IsNameByte cs → All IsNameByte (c ∷ cs)
upper c cs low high all = All-cons IsNameByte c cs (inl (inl (low, high))) all

ry : All IsNameByte (codes "ry")
ry = lower 114 (codes "y") (omega arith) (omega arith) (lower 121 [] (omega arith) (omega arith) (All-nil IsNameByte))

ary : All IsNameByte (codes "ary")
ary = lower 97 (codes "ry") (omega arith) (omega arith) ry

ull_ary : All IsNameByte (codes "ullAry")
ull_ary =
    lower 117 (codes "llAry") (omega arith) (omega arith)
    (lower 108 (codes "lAry") (omega arith) (omega arith)
    (lower 108 (codes "Ary") (omega arith) (omega arith)
    (upper 65 (codes "ry") (omega arith) (omega arith) ry)))

-- the number of a format, by the length of its name
abbrev number_by : List ℕ → ℕ
number_by name = cond (length name == 7) 0 (cond (length name == 5) 1 2)

-- the format with the number f
record IsFormat (f : ℕ) (format : InstructionFormat) : Type 0 where
  named : IsName format.name
  number : number_by format.name ≡ f
  values : format.num_value_operands ≡ f
  blocks : format.num_block_operands ≡ 0
  raw_blocks : format.num_raw_block_operands ≡ 0

is_format : (f : ℕ) (format : InstructionFormat) → slice_get all_formats f ≡ Some format → IsFormat f format
is_format zero format at = subst (IsFormat 0) (same_Some (value_format (codes "NullAry") 0) format at)
    (record { named = (inl (omega arith, omega arith), ull_ary); number = refl; values = refl; blocks = refl; raw_blocks = refl })
is_format (suc zero) format at = subst (IsFormat 1) (same_Some (value_format (codes "Unary") 1) format at)
    (record {
      named = (inl (omega arith, omega arith), lower 110 (codes "ary") (omega arith) (omega arith) ary);
      number = refl;
      values = refl;
      blocks = refl;
      raw_blocks = refl;
    })
is_format (suc (suc zero)) format at = subst (IsFormat 2) (same_Some (value_format (codes "Binary") 2) format at)
    (record {
      named = (
        inl (omega arith, omega arith),
        lower 105 (codes "nary") (omega arith) (omega arith) (lower 110 (codes "ary") (omega arith) (omega arith) ary),
      );
      number = refl;
      values = refl;
      blocks = refl;
      raw_blocks = refl;
    })
is_format (suc (suc (suc f))) format at = absurd (cc)

-- formats that can't both be in use are the same
same_format : (f g : ℕ) (a b : InstructionFormat) → IsFormat f a → IsFormat g b → SharesFormat a b → f ≡ g
same_format f g a b is_a is_b shares = ⊎_elim
    (λ name. sym is_a.number ∙ ap number_by name ∙ is_b.number)
    (λ structure. sym is_a.values ∙ ap (λ (s : FormatStructure). s.num_value_operands) structure ∙ is_b.values)
    shares

-- ---- all of it

module _ (n : ℕ) (d : Declared) (is : IsSynth n d) where
  -- an instruction, with its root
  instruction_at : (k : ℕ) (b : Builder) → IsAt d.set k b → (x : ℕ) × IsInstruction d.set.vars n (k + 1) x b
  instruction_at k b at =
      (length (variables_to n k), is.instructions.each k b at)

  small : (k : ℕ) (b : Builder) → IsAt d.set k b → k + 1 < 2 ^ 64
  small k b at = omega (arith, slice_get_within d.set.instructions k b at, is.count)

  format_in : (f : ℕ) (format : InstructionFormat) → slice_get d.set.formats f ≡ Some format → IsFormat f format
  format_in f format at = is_format f format (sym (ap (λ fs. slice_get fs f) is.formats) ∙ at)

  named_at : (k : ℕ) (name : List ℕ) → slice_get (names_of d.set) k ≡ Some name → (name_of_number (k + 1) ≡ name) × (k + 1 < 2 ^ 64)
  named_at k name at =
      let found = get_mapped (λ (b : Builder). b.name) d.set.instructions k name at in
      (sym (instruction_at k found.0 found.1).1.name ∙ found.2, small k found.0 found.1)

  no_duplicate : (k j : ℕ) → IsDuplicate (names_of d.set) k j → ⊥
  no_duplicate k j h =
      let late = named_at k h.name h.is_name in
      let early = named_at j h.earlier h.is_earlier in
      let shares : SharesName (name_of_number (j + 1)) (name_of_number (k + 1)) =
      subst (λ a. SharesName a (name_of_number (k + 1))) (sym early.0) (subst (λ b. SharesName h.earlier b) (sym late.0) h.shares) in
      let same : j + 1 ≡ k + 1 = names_apart (j + 1) (k + 1) early.1 late.1 shares in
      omega (arith, same, h.before)

  no_format_fault : (k f : ℕ) (rule : FormatRule) (e : DefinitionError) → IsFirstUse d.set f k → FormatBreaks d.set k f rule e → ⊥
  no_format_fault k f FormatNameRule e first h = h.1.2 (format_in f h.1.0 h.1.1).named
  no_format_fault k f BlocksRule e first h =
      let good = format_in f h.1.0 h.1.1 in
      ⊎_elim (λ many. omega (arith, many, good.blocks)) (λ many. omega (arith, many, good.raw_blocks)) h.1.2
  no_format_fault k f ClashRule e first h =
      let clash = h.2 in
      let both = clash.clashes in
      let same : f ≡ h.0 = same_format f h.0 both.0 both.1 (format_in f both.0 both.2) (format_in h.0 both.1 both.3) both.4 in
      first.first clash.place clash.first_use.user clash.earlier clash.first_use.at (clash.first_use.uses ∙ sym same)

  known_set : (s : TypeSetParts) → NeedsSet d.set s → IsKnown s
  known_set s h =
      let needs = h.1 in
      let found = instruction_at h.0 needs.user needs.at in
      let same = needed d.set.vars d.set.formats n (h.0 + 1) found.0 needs.user is.formats
      (small h.0 needs.user needs.at) found.1 s needs.control needs.is_control needs.needs in
      subst IsKnown (sym same) (is_known (seed_of n (h.0 + 1)))

  pub set_is_valid : IsValid d.set
  set_is_valid OfOpcodes e h = omega (arith, h.1, is.count)
  set_is_valid (OfInstruction k rule) e h = ⊎_elim
      (λ breaks.
      let found = instruction_at k breaks.builder breaks.at in
      well_made d.set.vars d.set.formats n (k + 1) found.0 breaks.builder is.formats
      (small k breaks.builder breaks.at) found.1 rule e (k + 1) breaks.breaks)
      (λ shares. no_duplicate k shares.earlier shares.duplicate)
      h
  set_is_valid (OfFormat k rule) e h = no_format_fault k h.format rule e h.first_use h.breaks
  set_is_valid OfTypeSets e h =
      let many = h.2 in
      let few = few_sets many.0 (λ k s at. known_set s (many.1.needed k s at)) (λ j k s a b. many.1.once j k s a b) in
      omega (arith, few, many.2, many.3)

  pub is_valid : AreValid d
  is_valid = record {
    set = set_is_valid;
    groups = λ k g at. absurd (no_group k g (sym (ap (λ gs. slice_get gs k) is.groups) ∙ at));
  }
    where
      no_group : (k : ℕ) (g : GroupDeclaration) → slice_get [] k ≡ Some g → ⊥
      no_group k g e = cc
