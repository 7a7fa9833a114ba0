-- The templates, filled, are the lines of the definitions.
use Rattle.std.proofs.Common.{◌≡◌, ℕ, List, [], ◌∷◌, refl, map}
use Rattle.std.specs.List.{flat_map}
use Rattle.meta_text.specs.Filled.{filled}
use Rattle.meta_operands.specs.declared.operand.Operand.{Operand}
use Rattle.meta_rust_text.specs.declared.method_arguments.TheConstants.{BLOCK as BLOCK_ARGUMENTS, BLOCK_HOLES as BLOCK_ARGUMENTS_HOLES}
use Rattle.meta_rust_text.specs.declared.method_docs.TheConstants.{CONTROL, CONTROL_HOLES, BLOCK, BLOCK_HOLES}
use Rattle.meta_rust_text.specs.declared.body.TheConstants.{MEM_FLAGS, BLOCK_CALL, ONE_VALUE, MORE_VALUES, NAME_HOLES}
use Rattle.meta_rust_text.specs.declared.body.TheConstants.{VALUE_LIST, VALUE_LIST_HOLES}
use Rattle.meta_rust_text.specs.declared.inst_builder.TheConstants.{METHOD, METHOD_HOLES}
use Rattle.meta_rust_text.specs.MethodArguments.{block_arguments}
use Rattle.meta_rust_text.specs.MethodDocs.{control_line, block_docs}
use Rattle.meta_rust_text.specs.MethodBody.{mem_flags_text, block_call_text, one_value_line, more_values_line, added_text}
use Rattle.meta_rust_text.specs.MethodBody.{value_list_text}
use Rattle.meta_rust_text.specs.InstBuilder.{method_with}

-- ---- arguments

pub block_arguments_same : (name : List ℕ)
    → filled BLOCK_ARGUMENTS.now (map (λ h. h.now) BLOCK_ARGUMENTS_HOLES) (name ∷ []) ≡ block_arguments name
unfolding filled block_arguments
block_arguments_same name = refl

-- ---- a documentation

pub control_line_same : (name doc : List ℕ)
    → filled CONTROL.now (map (λ h. h.now) CONTROL_HOLES) (name ∷ doc ∷ []) ≡ control_line name doc
unfolding filled control_line
control_line_same name doc = refl

pub block_docs_same : (name : List ℕ) → filled BLOCK.now (map (λ h. h.now) BLOCK_HOLES) (name ∷ []) ≡ block_docs name
unfolding filled block_docs
block_docs_same name = refl

-- ---- a body

pub mem_flags_same : (name : List ℕ) → filled MEM_FLAGS.now (map (λ h. h.now) NAME_HOLES) (name ∷ []) ≡ mem_flags_text name
unfolding filled mem_flags_text
mem_flags_same name = refl

pub block_call_same : (name : List ℕ) → filled BLOCK_CALL.now (map (λ h. h.now) NAME_HOLES) (name ∷ []) ≡ block_call_text name
unfolding filled block_call_text
block_call_same name = refl

pub one_value_same : (name : List ℕ) → filled ONE_VALUE.now (map (λ h. h.now) NAME_HOLES) (name ∷ []) ≡ one_value_line name
unfolding filled one_value_line
one_value_same name = refl

pub more_values_same : (name : List ℕ) → filled MORE_VALUES.now (map (λ h. h.now) NAME_HOLES) (name ∷ []) ≡ more_values_line name
unfolding filled more_values_line
more_values_same name = refl

pub ruleset added_steps = (one_value_same, more_values_same)

pub value_list_same : (inputs : List Operand)
    → filled VALUE_LIST.now (map (λ h. h.now) VALUE_LIST_HOLES) (flat_map added_text inputs ∷ []) ≡ value_list_text inputs
unfolding filled value_list_text
value_list_same inputs = refl

-- ---- a method

pub method_same : (name parameters arguments result body : List ℕ)
    → filled METHOD.now (map (λ h. h.now) METHOD_HOLES) (name ∷ parameters ∷ arguments ∷ result ∷ body ∷ [])
    ≡ method_with name parameters arguments result body
unfolding filled method_with
method_same name parameters arguments result body = refl
