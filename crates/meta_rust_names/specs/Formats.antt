-- The names of the formats in use.
--     format_refused b id       those of the format with this number that are refused
use Rattle.std.specs.Prelude.{ℕ, Bool, List, [], ◌++◌, slice_get, Option, None, Some, if◌then◌else◌, codes}
use Rattle.std.specs.List.{flat_map}
use Rattle.meta_types.specs.declared.fault.Place.{Place}
use Rattle.meta_types.specs.declared.fault.Place.TheVariants.{Format}
use Rattle.meta_operands.specs.Texts.{same_text}
use Rattle.meta_operands.specs.declared.format.InstructionFormat.{InstructionFormat}
use Rattle.meta_build.specs.BuiltDeclarations.{BuiltDeclarations}
use Rattle.meta_rust_names.specs.declared.refused.Why.{Why}
use Rattle.meta_rust_names.specs.declared.refused.Why.TheVariants.{Keyword, FixedMethod, InstructionMethod, ImmMethod}
use Rattle.meta_rust_names.specs.declared.refused.Part.TheVariants.{Name}
use Rattle.meta_rust_names.specs.declared.refused.RefusedName.{RefusedName}
use Rattle.meta_rust_names.specs.Refused.{refused}
use Rattle.meta_rust_names.specs.Words.{is_keyword}
use Rattle.meta_rust_names.specs.Methods.{is_among, is_base_method, instruction_methods, imm_methods}
use Rattle.meta_rust_names.specs.Fields.{fields_refused}

-- A format is a variant of the data and of `InstructionFormat`, and a method of the builder, beside those of the instructions. Each
-- constructor calls `InstructionFormat::from`, which as a variant would be no function.
unfoldable pub format_name_why : (List ℕ → Bool) → (List ℕ → Bool) → List ℕ → Option Why
format_name_why is_method is_imm name =
    if is_keyword name then Some Keyword
    else (if is_base_method name then Some FixedMethod
    else (if same_text name (codes "from") then Some FixedMethod
    else (if is_method name then Some InstructionMethod
    else (if is_imm name then Some ImmMethod
    else None))))

-- its name, and its fields
unfoldable pub of_format : (List ℕ → Bool) → (List ℕ → Bool) → InstructionFormat → Place → List RefusedName
of_format is_method is_imm f place = refused place Name (format_name_why is_method is_imm f.name) ++ fields_refused f place f.imm_fields

abbrev pub format_found : (List ℕ → Bool) → (List ℕ → Bool) → Place → Option InstructionFormat → List RefusedName
format_found is_method is_imm place None = []
format_found is_method is_imm place (Some f) = of_format is_method is_imm f place

unfoldable pub format_refused : (List ℕ → Bool) → (List ℕ → Bool) → List InstructionFormat → ℕ → List RefusedName
format_refused is_method is_imm formats id = format_found is_method is_imm (Format id) (slice_get formats id)

-- the formats in use, by their names: no text has another
unfoldable pub formats_refused : BuiltDeclarations → List RefusedName
formats_refused b =
    flat_map (format_refused (is_among (instruction_methods b.instructions)) (is_among (imm_methods b.instructions)) b.declared.set.formats)
    b.formats
