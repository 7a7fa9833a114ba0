-- The arguments of the builder's methods.
--     argument_text name ty         an argument after another one
--     constructor_arguments f       the arguments of the constructor of a format after the first three
--     numbered_names stem n         `STEM0, STEM1` and so on, n of them
use Rattle.std.specs.Prelude.{ℕ, Bool, true, false, List, ◌++◌, codes}
use Rattle.std.specs.Fmt.{decimal}
use Rattle.std.specs.List.{flat_map, join_by, range_with_len}
use Rattle.meta_operands.specs.declared.field.FormatField.{FormatField}
use Rattle.meta_operands.specs.declared.format.InstructionFormat.{InstructionFormat}

-- an argument of this name and type, after a comma and a space: `, x: Value`
unfoldable pub argument_text : List ℕ → List ℕ → List ℕ
argument_text name ty = codes ", " ++ (name ++ (codes ": " ++ ty))

-- an argument of this type, whose name is the stem and a number: `, arg0: Value`
unfoldable pub numbered_argument : List ℕ → List ℕ → ℕ → List ℕ
numbered_argument stem ty number = codes ", " ++ (stem ++ (decimal number ++ (codes ": " ++ ty)))

-- this count of arguments of this type, numbered from 0
unfoldable pub numbered_arguments : List ℕ → List ℕ → ℕ → List ℕ
numbered_arguments stem ty count = flat_map (numbered_argument stem ty) (range_with_len 0 count)

-- an argument for each field of a format: its member, and the Rust type of what it holds
unfoldable pub field_arguments : List FormatField → List ℕ
field_arguments fields = flat_map (λ (f : FormatField). argument_text f.member f.kind.rust_type) fields

-- the arguments for the values: one list of all if the format has one, and else an argument for each value
unfoldable pub value_arguments : Bool → ℕ → List ℕ
value_arguments true count = argument_text (codes "args") (codes "ir::ValueList")
value_arguments false count = numbered_arguments (codes "arg") (codes "Value") count

-- the arguments of the constructor of a format after the first three, which each constructor has: blocks without arguments, the fields,
-- blocks with arguments, and values
unfoldable pub constructor_arguments : InstructionFormat → List ℕ
constructor_arguments f =
    numbered_arguments (codes "block") (codes "ir::Block") f.num_raw_block_operands
    ++ (field_arguments f.imm_fields
    ++ (numbered_arguments (codes "block") (codes "ir::BlockCall") f.num_block_operands
    ++ value_arguments f.has_value_list f.num_value_operands))

-- this count of names, each the stem and a number, from 0, separated by a comma and a space: `arg0, arg1`
unfoldable pub numbered_names : List ℕ → ℕ → List ℕ
numbered_names stem count = join_by (λ number. stem ++ decimal number) (codes ", ") (range_with_len 0 count)
