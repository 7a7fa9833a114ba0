-- The names of the instructions 1 to 72, in order.
use Rattle.std.specs.Prelude.{ℕ, List, [], ◌∷◌, codes}
use Rattle.std.specs.List.{flat_map}

abbrev pub control_flow_names : List (List ℕ)
control_flow_names = codes "jump" ∷ codes "brif" ∷ codes "br_table" ∷ codes "debugtrap" ∷ codes "trap" ∷ codes "trapz"
    ∷ codes "trapnz" ∷ codes "return" ∷ []

abbrev pub calls_names : List (List ℕ)
calls_names = codes "call" ∷ codes "call_indirect" ∷ codes "return_call" ∷ codes "return_call_indirect"
    ∷ codes "func_addr" ∷ codes "try_call" ∷ codes "try_call_indirect" ∷ []

abbrev pub lanes_names : List (List ℕ)
lanes_names = codes "splat" ∷ codes "swizzle" ∷ codes "x86_pshufb" ∷ codes "insertlane" ∷ codes "extractlane" ∷ []

abbrev pub vector_integers_names : List (List ℕ)
vector_integers_names = codes "smin" ∷ codes "umin" ∷ codes "smax" ∷ codes "umax" ∷ codes "avg_round"
    ∷ codes "uadd_sat" ∷ codes "sadd_sat" ∷ codes "usub_sat" ∷ codes "ssub_sat" ∷ []

abbrev pub memory_names : List (List ℕ)
memory_names = codes "load" ∷ codes "store" ∷ codes "uload8" ∷ codes "sload8" ∷ codes "istore8" ∷ codes "uload16"
    ∷ codes "sload16" ∷ codes "istore16" ∷ codes "uload32" ∷ codes "sload32" ∷ codes "istore32" ∷ codes "stack_switch" ∷ []

abbrev pub vector_loads_names : List (List ℕ)
vector_loads_names = codes "uload8x8" ∷ codes "sload8x8" ∷ codes "uload16x4" ∷ codes "sload16x4" ∷ codes "uload32x2"
    ∷ codes "sload32x2" ∷ []

abbrev pub addresses_names : List (List ℕ)
addresses_names = codes "stack_addr" ∷ codes "dynamic_stack_addr" ∷ codes "symbol_value" ∷ codes "tls_value"
    ∷ codes "get_pinned_reg" ∷ codes "set_pinned_reg" ∷ codes "get_frame_pointer" ∷ codes "get_stack_pointer"
    ∷ codes "get_return_address" ∷ codes "get_exception_handler_address" ∷ []

abbrev pub constants_names : List (List ℕ)
constants_names = codes "iconst" ∷ codes "f16const" ∷ codes "f32const" ∷ codes "f64const" ∷ codes "f128const"
    ∷ codes "vconst" ∷ codes "shuffle" ∷ codes "nop" ∷ []

abbrev pub selection_names : List (List ℕ)
selection_names = codes "select" ∷ codes "select_spectre_guard" ∷ codes "bitselect" ∷ codes "blendv"
    ∷ codes "vany_true" ∷ codes "vall_true" ∷ codes "vhigh_bits" ∷ []

-- all of them
unfoldable pub core_names : List (List ℕ)
core_names = flat_map (λ names. names) (control_flow_names ∷ calls_names ∷ lanes_names ∷ vector_integers_names
    ∷ memory_names ∷ vector_loads_names ∷ addresses_names ∷ constants_names ∷ selection_names ∷ [])
