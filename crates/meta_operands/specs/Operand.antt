-- Operands.
use Rattle.std.specs.Prelude.{ℕ, Bool, List, [], Option, None, Some, slice_get, unwrap_or}
use Rattle.std.specs.List.{filter_map}
use Rattle.meta_typevar.specs.declared.content.TypeVarContent.{TypeVarContent}
use Rattle.meta_operands.specs.Kind.{variable_in, holds_varargs, holds_immediate, holds_immediate_or_entityref, doc_of_kind}
use Rattle.meta_operands.specs.declared.operand.Operand.{Operand}

-- the type variable of an operand, where it is a value
abbrev pub variable_of : Operand → Option ℕ
variable_of o = variable_in o.kind.fields

-- the type variables of the value operands among these, in order: varargs, immediates and entity references have none
abbrev pub variables_of : List Operand → List ℕ
variables_of operands = filter_map variable_of operands

-- whether it is a variable number of arguments
abbrev pub is_varargs_operand : Operand → Bool
is_varargs_operand o = holds_varargs o.kind.fields

-- whether it is an immediate
abbrev pub is_immediate_operand : Operand → Bool
is_immediate_operand o = holds_immediate o.kind.fields

-- whether it is an immediate or an entity reference, blocks among them
abbrev pub is_immediate_or_entityref_operand : Operand → Bool
is_immediate_or_entityref_operand o = holds_immediate_or_entityref o.kind.fields

-- the documentation that was given to the operand itself
abbrev pub own_doc : Operand → Option (List ℕ)
own_doc o = o.doc

-- the documentation of what stands at a place of the registry
abbrev pub doc_at : Option TypeVarContent → List ℕ
doc_at None = []
doc_at (Some content) = content.doc

-- the documentation of the variable, where there is one, and else this other one
abbrev pub variable_doc_or : List TypeVarContent → Option ℕ → List ℕ → List ℕ
variable_doc_or vars None other = other
variable_doc_or vars (Some tv) other = doc_at (slice_get vars tv)

-- the documentation of an operand: its own, else its variable's, else its kind's, which may be empty
abbrev pub doc_of : List TypeVarContent → Operand → List ℕ
doc_of vars o = unwrap_or (own_doc o) (variable_doc_or vars (variable_of o) (unwrap_or (doc_of_kind o.kind) []))
