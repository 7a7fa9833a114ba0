-- Names that stand together, and those of the builder's methods.
--     is_among names name      it is one of these
--     format_names fs ids, instruction_methods cs, imm_methods cs     the names of the methods of formats and of instructions
use Rattle.std.specs.Prelude.{ℕ, Bool, ◌||◌, List, [], ◌∷◌, ◌++◌, slice_get, Option, None, Some, if◌then◌else◌, codes}
use Rattle.std.specs.List.{list_any, flat_map}
use Rattle.meta_operands.specs.Texts.{same_text}
use Rattle.meta_rust_names.specs.Forms.{has_form, meets}
use Rattle.meta_operands.specs.declared.format.InstructionFormat.{InstructionFormat}
use Rattle.meta_inst.specs.Built.{BuiltInstruction}
use Rattle.meta_inst.specs.Content.{snake_name_of}

-- ---- names that stand together

abbrev pub is_among : List (List ℕ) → List ℕ → Bool
is_among names name = list_any (λ (other : List ℕ). same_text other name) names

-- whether a text is a form of one of the names
abbrev pub is_form : List (List ℕ) → List ℕ → Bool
is_form names text = list_any (λ (name : List ℕ). has_form name text) names

-- whether one of the names is met
abbrev pub meets_some : (List ℕ → Bool) → List (List ℕ) → Bool
meets_some known names = list_any (meets known) names

-- ---- methods of the builder

-- those of `InstBuilderBase`, whether or not a text calls them
unfoldable pub is_base_method : List ℕ → Bool
is_base_method name =
    same_text name (codes "build")
    || (same_text name (codes "build_imm_const")
    || (same_text name (codes "data_flow_graph")
    || same_text name (codes "data_flow_graph_mut")))

-- the constructors of the formats in use have their names
abbrev pub name_of_format : Option InstructionFormat → List (List ℕ)
name_of_format None = []
name_of_format (Some f) = f.name ∷ []

abbrev pub format_names : List InstructionFormat → List ℕ → List (List ℕ)
format_names formats ids = flat_map (λ id. name_of_format (slice_get formats id)) ids

-- the methods that build the instructions have theirs
abbrev pub method_name : BuiltInstruction → List ℕ
method_name c = snake_name_of c.name

abbrev pub instruction_methods : List BuiltInstruction → List (List ℕ)
instruction_methods cs = flat_map (λ c. method_name c ∷ []) cs

-- those that take an immediate for the last value have a word after it
abbrev pub three_names : List ℕ → List (List ℕ)
three_names name = (name ++ codes "_imm_s") ∷ (name ++ codes "_imm_u") ∷ (name ++ codes "_imm") ∷ []

abbrev pub imm_methods_of : BuiltInstruction → List (List ℕ)
imm_methods_of c = if c.marks.inst_builder_imm_method then three_names (method_name c) else []

abbrev pub imm_methods : List BuiltInstruction → List (List ℕ)
imm_methods cs = flat_map imm_methods_of cs
