-- The fields of a format, as members of its data and as parameters of its constructor.
--     field_why f known field      why a field can't have its name
--     fields_refused f place fields       the fields that can't
use Rattle.std.specs.Prelude.{ℕ, ◌==◌, Bool, false, ◌||◌, ◌&&◌, not, List, [], ◌∷◌, ◌++◌, take}
use Rattle.std.specs.Prelude.{Option, None, Some, is_some, if◌then◌else◌, codes}
use Rattle.std.specs.List.{flat_map, enumerate_from, list_any}
use Rattle.meta_types.specs.declared.fault.Place.{Place}
use Rattle.meta_operands.specs.declared.field.FormatField.{FormatField}
use Rattle.meta_operands.specs.declared.format.InstructionFormat.{InstructionFormat}
use Rattle.meta_rust_insts.specs.Held.{values_of, blocks_of, has_raw_block, values_member, blocks_member, raw_block_member}
use Rattle.meta_rust_insts.specs.MapMethod.{mapper_method}
use Rattle.meta_rust_names.specs.declared.refused.Why.{Why}
use Rattle.meta_rust_names.specs.declared.refused.Why.TheVariants.{InScope, OfFormat, EarlierField}
use Rattle.meta_rust_names.specs.declared.refused.Part.TheVariants.{Field, FieldType}
use Rattle.meta_rust_names.specs.declared.refused.RefusedName.{RefusedName}
use Rattle.meta_rust_names.specs.Refused.{or_why, refused}
use Rattle.meta_rust_names.specs.Words.{word_why}
use Rattle.meta_rust_names.specs.Comments.{comment_why, type_why}
use Rattle.meta_rust_names.specs.Forms.{is_named, is_numbered, meets}
use Rattle.meta_rust_names.specs.Methods.{is_form}
use Rattle.meta_rust_names.specs.Variants.{variant_why}

-- ---- names that the text has itself

-- the constants of the tables, in scope beside the data
unfoldable pub is_table_constant : List ℕ → Bool
is_table_constant name =
    is_named (codes "OPCODE_FORMAT") name
    || (is_named (codes "OPCODE_HASH_TABLE") name
    || (is_named (codes "TYPE_SETS") name
    || (is_named (codes "OPERAND_CONSTRAINTS") name
    || is_named (codes "OPCODE_CONSTRAINTS") name)))

-- the member of the opcode, a parameter of the constructor, and one of the method that hashes
unfoldable pub is_always_taken : List ℕ → Bool
is_always_taken name =
    is_named (codes "opcode") name || (is_named (codes "ctrl_typevar") name || is_named (codes "state") name)

-- whether the method that clones asks the pool: of a list of values, or of blocks with arguments
abbrev pub asks_pool : InstructionFormat → Bool
asks_pool f = f.has_value_list || not (f.num_block_operands == 0)

-- whether the method that maps asks the mapper: of values, blocks, or of a field
abbrev pub is_mapped_field : FormatField → Bool
is_mapped_field field = is_some (mapper_method field.kind)

abbrev pub holds_operands : InstructionFormat → Bool
holds_operands f =
    f.has_value_list
    || (not (f.num_value_operands == 0) || (not (f.num_block_operands == 0) || not (f.num_raw_block_operands == 0)))

abbrev pub asks_mapper : InstructionFormat → Bool
asks_mapper f = holds_operands f || list_any is_mapped_field f.imm_fields

-- the variables of these methods that a field of the name would hide
unfoldable pub is_method_variable : InstructionFormat → List ℕ → Bool
is_method_variable f name =
    (asks_pool f && is_named (codes "pool") name) || (asks_mapper f && is_named (codes "mapper") name)

-- the name is that of a member, where there is such a member
abbrev pub is_member : Option (List ℕ) → List ℕ → Bool
is_member None name = false
is_member (Some member) name = is_named member name

-- the members that hold values and blocks
unfoldable pub is_member_of : InstructionFormat → List ℕ → Bool
is_member_of f name =
    is_member (values_member (values_of f)) name
    || (is_member (blocks_member (blocks_of f)) name || is_member (raw_block_member (has_raw_block f)) name)

-- the parameters of the constructor for values, where they are no list, and for blocks
unfoldable pub is_parameter_of : InstructionFormat → List ℕ → Bool
is_parameter_of f name =
    (not f.has_value_list && is_numbered (codes "arg") f.num_value_operands name)
    || (is_numbered (codes "block") f.num_block_operands name || is_numbered (codes "block") f.num_raw_block_operands name)

-- what the format has itself
unfoldable pub is_of_format : InstructionFormat → List ℕ → Bool
is_of_format f name =
    is_always_taken name || (is_method_variable f name || (is_member_of f name || is_parameter_of f name))

-- ---- why a field can't have its name

-- something beside it has the name
unfoldable pub taken_why : InstructionFormat → (List ℕ → Bool) → List ℕ → Option Why
taken_why f known name =
    if is_table_constant name then Some InScope
    else (if is_of_format f name then Some OfFormat
    else (if meets known name then Some EarlierField
    else None))

unfoldable pub field_name_why : InstructionFormat → (List ℕ → Bool) → FormatField → Option Why
field_name_why f known field =
    or_why (word_why field.member) (or_why (variant_why field.kind field.member) (taken_why f known field.member))

-- why its type isn't one: the type stands in a comment too
unfoldable pub field_type_why : List ℕ → Option Why
field_type_why rust_type = or_why (type_why rust_type) (comment_why rust_type)

-- ---- the fields

-- those before place k
abbrev pub earlier_fields : List FormatField → ℕ → List (List ℕ)
earlier_fields fields k = flat_map (λ (field : FormatField). field.member ∷ []) (take k fields)

unfoldable pub field_refused : InstructionFormat → Place → (List ℕ → Bool) → ℕ × FormatField → List RefusedName
field_refused f place known at =
    refused place (Field at.0) (field_name_why f known at.1)
    ++ refused place (FieldType at.0) (field_type_why at.1.kind.rust_type)

abbrev pub field_at : InstructionFormat → Place → List FormatField → ℕ × FormatField → List RefusedName
field_at f place fields at = field_refused f place (is_form (earlier_fields fields at.0)) at

unfoldable pub fields_refused : InstructionFormat → Place → List FormatField → List RefusedName
fields_refused f place fields = flat_map (field_at f place fields) (enumerate_from 0 fields)
