-- The constructor of a format: the method of the builder that makes and inserts an instruction of the format.
--     constructor_text f      its lines
use Rattle.std.specs.Prelude.{ℕ, ◌==◌, Bool, List, [], ◌∷◌, ◌++◌, codes, if◌then◌else◌}
use Rattle.std.specs.List.{flat_map, list_any}
use Rattle.meta_operands.specs.Texts.{same_text}
use Rattle.meta_operands.specs.FormatText.{format_text}
use Rattle.meta_operands.specs.declared.field.FormatField.{FormatField}
use Rattle.meta_operands.specs.declared.format.InstructionFormat.{InstructionFormat}
use Rattle.meta_text.specs.Lines.{at, lines_onto, text_of}
use Rattle.meta_rust_text.specs.Arguments.{constructor_arguments, numbered_names}

-- ---- the members of the data

-- the line of a member, which has the value of the argument of its name, or, as `arg: arg0`, one of its own
unfoldable pub member_text : List ℕ → List ℕ
member_text member = text_of (at 3 (member ∷ codes "," ∷ []) ∷ [])

-- the line of a member that is an array of these names: `args: [arg0, arg1],`
unfoldable pub array_member_text : List ℕ → List ℕ → List ℕ
array_member_text member names = text_of (at 3 (member ∷ codes ": [" ∷ names ∷ codes "]," ∷ []) ∷ [])

-- the member of each field
unfoldable pub field_members : List FormatField → List ℕ
field_members fields = flat_map (λ (f : FormatField). member_text f.member) fields

-- the member for the values: their list if the format has one, else the only value or an array, and no text if there is no value
unfoldable pub value_member : Bool → ℕ → List ℕ
value_member has_value_list count =
    if has_value_list then member_text (codes "args")
    else (if count == 0 then []
    else (if count == 1 then member_text (codes "arg: arg0")
    else array_member_text (codes "args") (numbered_names (codes "arg") count)))

-- the member for the blocks with arguments: the only one, which has no comma after it, or an array, and no text if there is no such block
unfoldable pub block_member : ℕ → List ℕ
block_member count =
    if count == 0 then []
    else (if count == 1 then text_of (at 3 (codes "destination: block0" ∷ []) ∷ [])
    else array_member_text (codes "blocks") (numbered_names (codes "block") count))

-- The member for the block without arguments, and no text if there is no such block. A format in use has at most one: one that has more is
-- refused as `BadFormat`, and nothing would be written for several.
unfoldable pub raw_block_member : ℕ → List ℕ
raw_block_member count = if count == 1 then member_text (codes "block: block0") else []

-- the members after the opcode: fields, values, blocks with arguments, and a block without
unfoldable pub members_text : InstructionFormat → List ℕ
members_text f =
    field_members f.imm_fields
    ++ (value_member f.has_value_list f.num_value_operands
    ++ (block_member f.num_block_operands
    ++ raw_block_member f.num_raw_block_operands))

-- ---- the method

-- whether a field holds a number of 64 bits, of which the bits past the control's width are to be masked
abbrev pub needs_masking : List FormatField → Bool
needs_masking fields = list_any (λ (f : FormatField). same_text f.kind.rust_type (codes "ir::immediates::Imm64")) fields

-- the mark of data that is changed, after `let`
abbrev pub mut_mark : Bool → List ℕ
mut_mark masked = if masked then codes " mut" else []

-- the masking, if it is needed
abbrev pub masking_text : Bool → List ℕ
masking_text masked = if masked then text_of (at 2 (codes "data.mask_immediates(ctrl_typevar);" ∷ []) ∷ []) else []

-- The constructor of the format that has this name and is displayed so, with these arguments after the first three, this mark of the data,
-- these members after the opcode, and this masking. It tests that the opcode is of the format.
unfoldable pub constructor_with : List ℕ → List ℕ → List ℕ → List ℕ → List ℕ → List ℕ → List ℕ
constructor_with name displayed arguments mark members masking =
    lines_onto (
    at 1 (codes "/// " ∷ displayed ∷ [])
    ∷ at 1 (codes "#[allow(non_snake_case, reason = \"generated code\")]" ∷ [])
    ∷ at 1 (
    codes "fn "
    ∷ name ∷ codes "(self, opcode: Opcode, ctrl_typevar: Type" ∷ arguments ∷ codes ") -> (Inst, &'f mut ir::DataFlowGraph) {" ∷ []
    )
    ∷ at 2 (codes "let" ∷ mark ∷ codes " data = ir::InstructionData::" ∷ name ∷ codes " {" ∷ [])
    ∷ at 3 (codes "opcode," ∷ []) ∷ [])
    (members ++ lines_onto (
    at 2 (codes "}" ∷ [])
    ∷ at 2 (codes ";" ∷ []) ∷ [])
    (masking ++ text_of (
    at 2 (codes "debug_assert_eq!(opcode.format(), InstructionFormat::from(&data), \"Wrong InstructionFormat for Opcode: {opcode}\");" ∷ [])
    ∷ at 2 (codes "self.build(data, ctrl_typevar)" ∷ [])
    ∷ at 1 (codes "}" ∷ []) ∷ [])))

-- The constructor of a format. After `self`, the opcode and the control's type, it takes what the members hold. It makes the data of the
-- instruction, masks its immediates if one is of 64 bits, and inserts the instruction.
unfoldable pub constructor_text : InstructionFormat → List ℕ
constructor_text f =
    constructor_with f.name (format_text f) (constructor_arguments f) (mut_mark (needs_masking f.imm_fields)) (members_text f)
    (masking_text (needs_masking f.imm_fields))
