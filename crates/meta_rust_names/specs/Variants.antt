-- The variants of the enum that an immediate is of. What is bound to one of its type can't be named so: it would read as the variant.
--     variant_why kind name      why a field or an input of the kind can't have the name
use Rattle.std.specs.Prelude.{ℕ, Bool, false, ◌||◌, List, Option, None, Some, if◌then◌else◌}
use Rattle.std.specs.List.{list_any}
use Rattle.meta_operands.specs.EnumEntries.{EnumEntries}
use Rattle.meta_operands.specs.Kind.{enum_values_in}
use Rattle.meta_operands.specs.declared.kind.OperandKind.{OperandKind}
use Rattle.meta_rust_names.specs.declared.refused.Why.{Why}
use Rattle.meta_rust_names.specs.declared.refused.Why.TheVariants.{OwnVariant}
use Rattle.meta_rust_names.specs.Forms.{is_named}

-- whether two names are one identifier, raw or not
abbrev pub is_same_identifier : List ℕ → List ℕ → Bool
is_same_identifier a b = is_named a b || is_named b a

-- whether a value stands for the variant of the name
abbrev pub stands_for : List ℕ → List ℕ × List ℕ → Bool
stands_for name value = is_same_identifier value.1 name

-- whether one of the values does
abbrev pub is_variant : Option EnumEntries → List ℕ → Bool
is_variant None name = false
is_variant (Some values) name = list_any (stands_for name) values

unfoldable pub variant_why : OperandKind → List ℕ → Option Why
variant_why kind name = if is_variant (enum_values_in kind.fields) name then Some OwnVariant else None
