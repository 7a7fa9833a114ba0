-- What has a name that Rust refuses is there.
use Rattle.std.proofs.Common.{◌≡◌, ℕ, suc, ◌+◌, Bool, List, [], ◌∷◌, ◌++◌, All, Option, Some, None, slice_get, refl, subst, arith}
use Rattle.std.specs.List.{flat_map, enumerate_from}
use Rattle.std.proofs.lemmas.List.Elements.{All-nil, All-cons, All-append}
use Rattle.meta_types.specs.declared.fault.Place.{Place}
use Rattle.meta_types.specs.declared.fault.Place.TheVariants.{Instruction, Format, Group, Entry}
use Rattle.meta_typevar.specs.declared.content.TypeVarContent.{TypeVarContent}
use Rattle.meta_operands.specs.declared.operand.Operand.{Operand}
use Rattle.meta_operands.specs.declared.field.FormatField.{FormatField}
use Rattle.meta_operands.specs.declared.format.InstructionFormat.{InstructionFormat}
use Rattle.meta_inst.specs.Built.{BuiltInstruction}
use Rattle.meta_settings.specs.declared.setting.SpecificSetting.{SpecificSetting}
use Rattle.meta_settings.specs.declared.setting.SpecificSetting.TheVariants.{Bool as ABool, Enum, Num}
use Rattle.meta_settings.specs.Layout.{PlacedSetting, Layout}
use Rattle.meta_build.specs.BuiltDeclarations.{BuiltDeclarations}
use Rattle.meta_rust_names.specs.declared.refused.Part.{Part}
use Rattle.meta_rust_names.specs.declared.refused.Part.TheVariants as part
use Rattle.meta_rust_names.specs.declared.refused.Why.{Why}
use Rattle.meta_rust_names.specs.declared.refused.RefusedName.{RefusedName}
use Rattle.meta_rust_names.specs.Refused.{refused}
use Rattle.meta_rust_names.specs.Inputs.{input_refused, input_at, inputs_refused}
use Rattle.meta_rust_names.specs.Instructions.{output_refused, outputs_refused, control_refused, operands_refused, with_format}
use Rattle.meta_rust_names.specs.Instructions.{instruction_refused, instructions_refused}
use Rattle.meta_rust_names.specs.Fields.{field_refused, field_at, fields_refused}
use Rattle.meta_rust_names.specs.Formats.{of_format, format_found, format_refused, formats_refused}
use Rattle.meta_rust_names.specs.Groups.{value_refused, values_refused, enum_refused, specific_refused, setting_refused, settings_refused}
use Rattle.meta_rust_names.specs.Groups.{group_refused, groups_refused}
use Rattle.meta_rust_names.specs.AllRefused.{refused_names}

-- ---- what is there

-- a part of a group
abbrev pub IsPartOf : Layout → Part → Type 0
IsPartOf g part.Name = Unit {0}
IsPartOf g (part.Input n) = ⊥
IsPartOf g (part.InputType n) = ⊥
IsPartOf g (part.InputDoc n) = ⊥
IsPartOf g (part.Output n) = ⊥
IsPartOf g (part.OutputDoc n) = ⊥
IsPartOf g part.Doc = ⊥
IsPartOf g part.Control = ⊥
IsPartOf g part.ControlDoc = ⊥
IsPartOf g (part.Field n) = ⊥
IsPartOf g (part.FieldType n) = ⊥
IsPartOf g (part.Setting n) = (s : PlacedSetting) × (slice_get g.settings n ≡ Some s)
IsPartOf g (part.SettingType n) = (s : PlacedSetting) × (slice_get g.settings n ≡ Some s)
IsPartOf g (part.Value n v) = (s : PlacedSetting) × (slice_get g.settings n ≡ Some s) × (values : List (List ℕ))
    × (s.specific ≡ Enum values) × (value : List ℕ) × (slice_get values v ≡ Some value)

-- what has a name at this place
abbrev pub IsThere : BuiltDeclarations → Place → Part → Type 0
IsThere b (Instruction i) part = (n : ℕ) × (i ≡ n + 1) × (c : BuiltInstruction) × (slice_get b.instructions n ≡ Some c)
IsThere b (Format f) part = (x : InstructionFormat) × (slice_get b.declared.set.formats f ≡ Some x)
IsThere b (Group g) part = (x : Layout) × (slice_get b.groups g ≡ Some x) × IsPartOf x part
IsThere b (Entry g e) part = ⊥

abbrev pub IsNamedThere : BuiltDeclarations → RefusedName → Type 0
IsNamedThere b name = IsThere b name.place name.part

-- each of these names has what it names
record AreThere (b : BuiltDeclarations) (names : List RefusedName) : Type 0 where
  pub all : All (IsNamedThere b) names

module _ (b : BuiltDeclarations) where
  none : AreThere b []
  none = record { all = All-nil (IsNamedThere b) }

  one : (place : Place) (part : Part) (why : Option Why) → IsThere b place part → AreThere b (refused place part why)
  one place part None h = none
  one place part (Some why) h = record {
    all = All-cons (IsNamedThere b) (record { place = place; part = part; why = why }) [] h (All-nil (IsNamedThere b));
  }

  both : (xs ys : List RefusedName) → AreThere b xs → AreThere b ys → AreThere b (xs ++ ys)
  both xs ys h k = record { all = All-append (IsNamedThere b) xs ys h.all k.all }

  joined : {X : Type 0} (f : X → List RefusedName) (xs : List X) → ((x : X) → AreThere b (f x)) → AreThere b (flat_map f xs)
  joined f [] each = none
  joined f (x ∷ xs) each = both (f x) (flat_map f xs) (each x) (joined f xs each)

  -- of elements by their places, of which the first stands at place n
  placed_from : {X : Type 0} (f : ℕ × X → List RefusedName) (n : ℕ) (xs : List X)
      → ((k : ℕ) (x : X) → slice_get xs k ≡ Some x → AreThere b (f (n + k, x))) → AreThere b (flat_map f (enumerate_from n xs))
  placed_from f n [] each = none
  placed_from {X} f n (x ∷ xs) each =
      let here : n + 0 ≡ n = omega arith in
      both (f (n, x)) (flat_map f (enumerate_from (n + 1) xs)) (subst (λ (m : ℕ). AreThere b (f (m, x))) here (each 0 x refl))
      (placed_from f (n + 1) xs (λ k y at. later k y (each (suc k) y at)))
    where
      later : (k : ℕ) (y : X) → AreThere b (f (n + suc k, y)) → AreThere b (f (n + 1 + k, y))
      later k y h = let next : n + suc k ≡ n + 1 + k = omega arith in subst (λ (m : ℕ). AreThere b (f (m, y))) next h

  placed : {X : Type 0} (f : ℕ × X → List RefusedName) (xs : List X)
      → ((k : ℕ) (x : X) → slice_get xs k ≡ Some x → AreThere b (f (k, x))) → AreThere b (flat_map f (enumerate_from 0 xs))
  placed {X} f xs each = placed_from f 0 xs (λ k x at. here k x (each k x at))
    where
      here : (k : ℕ) (x : X) → AreThere b (f (k, x)) → AreThere b (f (0 + k, x))
      here k x h = let same : k ≡ 0 + k = omega arith in subst (λ (m : ℕ). AreThere b (f (m, x))) same h

  -- ---- of an instruction and of a format, where each part has its place

  module _ (place : Place) (there : (part : Part) → IsThere b place part) where
    part_there : (part : Part) (why : Option Why) → AreThere b (refused place part why)
    part_there part why = one place part why (there part)

    of_inputs : (vars : List TypeVarContent) (c : BuiltInstruction) (f : InstructionFormat) (inputs : List Operand)
        → AreThere b (inputs_refused vars c f place inputs)
    unfolding inputs_refused input_refused
    of_inputs vars c f inputs = joined (input_at vars c f place inputs) (enumerate_from 0 inputs) (λ at. search (both, part_there))

    of_outputs : (vars : List TypeVarContent) (outputs : List Operand) → AreThere b (outputs_refused vars place outputs)
    unfolding outputs_refused output_refused
    of_outputs vars outputs = joined (output_refused vars place) (enumerate_from 0 outputs) (λ at. search (both, part_there))

    of_control : (vars : List TypeVarContent) (c : BuiltInstruction) (f : InstructionFormat) (known : List ℕ → Bool) (control : Option ℕ)
        → AreThere b (control_refused vars c f place known control)
    of_control vars c f known None = none
    of_control vars c f known (Some tv) = search (both, part_there)

    of_operands : (vars : List TypeVarContent) (c : BuiltInstruction) (f : InstructionFormat) → AreThere b (operands_refused vars c f place)
    unfolding operands_refused
    of_operands vars c f = search (both, part_there, of_inputs, of_outputs, of_control)

    of_formatted : (vars : List TypeVarContent) (c : BuiltInstruction) (f : Option InstructionFormat)
        → AreThere b (with_format vars c place f)
    of_formatted vars c None = none
    of_formatted vars c (Some f) = of_operands vars c f

    of_fields : (f : InstructionFormat) (fields : List FormatField) → AreThere b (fields_refused f place fields)
    unfolding fields_refused field_refused
    of_fields f fields = joined (field_at f place fields) (enumerate_from 0 fields) (λ at. search (both, part_there))

    of_format_names : (is_method is_imm : List ℕ → Bool) (f : InstructionFormat) → AreThere b (of_format is_method is_imm f place)
    unfolding of_format
    of_format_names is_method is_imm f = search (both, part_there, of_fields)

  -- ---- of all instructions and formats

  of_instruction : (is_format is_imm : List ℕ → Bool) (vars : List TypeVarContent) (formats : List InstructionFormat) (n : ℕ)
      (c : BuiltInstruction) → slice_get b.instructions n ≡ Some c
      → AreThere b (instruction_refused is_format is_imm vars formats (n, c))
  unfolding instruction_refused
  of_instruction is_format is_imm vars formats n c at =
      let there : (part : Part) → IsThere b (Instruction (n + 1)) part = λ part. (n, refl, c, at) in
      both _ _ (part_there (Instruction (n + 1)) there _ _) (of_formatted (Instruction (n + 1)) there vars c (slice_get formats c.format))

  of_instructions : AreThere b (instructions_refused b)
  unfolding instructions_refused
  of_instructions = placed _ b.instructions (λ n c at. of_instruction _ _ _ _ n c at)

  of_found : (is_method is_imm : List ℕ → Bool) (id : ℕ) (f : Option InstructionFormat) → slice_get b.declared.set.formats id ≡ f
      → AreThere b (format_found is_method is_imm (Format id) f)
  of_found is_method is_imm id None at = none
  of_found is_method is_imm id (Some f) at = of_format_names (Format id) (λ part. (f, at)) is_method is_imm f

  of_one_format : (is_method is_imm : List ℕ → Bool) (id : ℕ) → AreThere b (format_refused is_method is_imm b.declared.set.formats id)
  unfolding format_refused
  of_one_format is_method is_imm id = of_found is_method is_imm id (slice_get b.declared.set.formats id) refl

  of_formats : AreThere b (formats_refused b)
  unfolding formats_refused
  of_formats = joined _ b.formats (λ id. of_one_format _ _ id)

  -- ---- of a group

  module _ (g : ℕ) (x : Layout) (here : slice_get b.groups g ≡ Some x) where
    in_group : (part : Part) (why : Option Why) → IsPartOf x part → AreThere b (refused (Group g) part why)
    in_group part why h = one (Group g) part why (x, here, h)

    of_value : (n : ℕ) (s : PlacedSetting) (values : List (List ℕ)) → slice_get x.settings n ≡ Some s → s.specific ≡ Enum values
        → (v : ℕ) (value : List ℕ) → slice_get values v ≡ Some value → AreThere b (value_refused (Group g) n (v, value))
    unfolding value_refused
    of_value n s values at has v value there = in_group (part.Value n v) _ (s, at, values, has, value, there)

    of_values : (n : ℕ) (s : PlacedSetting) (values : List (List ℕ)) → slice_get x.settings n ≡ Some s → s.specific ≡ Enum values
        → AreThere b (values_refused (Group g) n values)
    unfolding values_refused
    of_values n s values at has = placed (value_refused (Group g) n) values (of_value n s values at has)

    of_enum : (n : ℕ) (s : PlacedSetting) (values : List (List ℕ)) → slice_get x.settings n ≡ Some s → s.specific ≡ Enum values
        → AreThere b (enum_refused (Group g) n s.name values)
    unfolding enum_refused
    of_enum n s values at has = both _ _ (in_group (part.SettingType n) _ (s, at)) (of_values n s values at has)

    of_specific : (n : ℕ) (s : PlacedSetting) (specific : SpecificSetting) → slice_get x.settings n ≡ Some s → s.specific ≡ specific
        → AreThere b (specific_refused (Group g) n s.name specific)
    of_specific n s (ABool bit) at has = none
    of_specific n s (Enum values) at has = of_enum n s values at has
    of_specific n s (Num default) at has = none

    of_setting : (n : ℕ) (s : PlacedSetting) → slice_get x.settings n ≡ Some s → AreThere b (setting_refused (Group g) (n, s))
    unfolding setting_refused
    of_setting n s at = both _ _ (in_group (part.Setting n) _ (s, at)) (of_specific n s s.specific at refl)

    of_settings : AreThere b (settings_refused (Group g) x.settings)
    unfolding settings_refused
    of_settings = placed (setting_refused (Group g)) x.settings of_setting

    of_group : AreThere b (group_refused (g, x))
    unfolding group_refused
    of_group = both _ _ (in_group part.Name _ tt) of_settings

  of_groups : AreThere b (groups_refused b.groups)
  unfolding groups_refused
  of_groups = placed group_refused b.groups of_group

  pub all_there : All (IsNamedThere b) (refused_names b)
  unfolding refused_names
  all_there = (both _ _ of_instructions (both _ _ of_formats of_groups)).all
