-- The formats of the instructions 1 to 72, in order.
use Rattle.std.specs.Prelude.{List, [], ◌∷◌}
use Rattle.std.specs.List.{flat_map}
use Rattle.meta_shared.specs.declared.format.Format.{Format}
use Rattle.meta_shared.specs.declared.format.Format.TheVariants.{Binary, BinaryImm8, BranchTable, Brif, Call, CallIndirect, CondTrap}
use Rattle.meta_shared.specs.declared.format.Format.TheVariants.{DynamicStackAddr, ExceptionHandlerAddress, FuncAddr, Jump, Load}
use Rattle.meta_shared.specs.declared.format.Format.TheVariants.{MultiAry, NullAry, Shuffle, StackAddr, Store, Ternary, TernaryImm8}
use Rattle.meta_shared.specs.declared.format.Format.TheVariants.{Trap, TryCall, TryCallIndirect, Unary, UnaryConst, UnaryGlobalValue}
use Rattle.meta_shared.specs.declared.format.Format.TheVariants.{UnaryIeee16, UnaryIeee32, UnaryIeee64, UnaryImm}

abbrev pub control_flow_formats : List Format
control_flow_formats = Jump ∷ Brif ∷ BranchTable ∷ NullAry ∷ Trap ∷ CondTrap ∷ CondTrap ∷ MultiAry ∷ []

abbrev pub calls_formats : List Format
calls_formats = Call ∷ CallIndirect ∷ Call ∷ CallIndirect ∷ FuncAddr ∷ TryCall ∷ TryCallIndirect ∷ []

abbrev pub lanes_formats : List Format
lanes_formats = Unary ∷ Binary ∷ Binary ∷ TernaryImm8 ∷ BinaryImm8 ∷ []

abbrev pub vector_integers_formats : List Format
vector_integers_formats = Binary ∷ Binary ∷ Binary ∷ Binary ∷ Binary ∷ Binary ∷ Binary ∷ Binary ∷ Binary ∷ []

abbrev pub memory_formats : List Format
memory_formats = Load ∷ Store ∷ Load ∷ Load ∷ Store ∷ Load ∷ Load ∷ Store ∷ Load ∷ Load ∷ Store ∷ Ternary ∷ []

abbrev pub vector_loads_formats : List Format
vector_loads_formats = Load ∷ Load ∷ Load ∷ Load ∷ Load ∷ Load ∷ []

abbrev pub addresses_formats : List Format
addresses_formats = StackAddr ∷ DynamicStackAddr ∷ UnaryGlobalValue ∷ UnaryGlobalValue ∷ NullAry ∷ Unary ∷ NullAry ∷ NullAry ∷ NullAry
    ∷ ExceptionHandlerAddress ∷ []

abbrev pub constants_formats : List Format
constants_formats = UnaryImm ∷ UnaryIeee16 ∷ UnaryIeee32 ∷ UnaryIeee64 ∷ UnaryConst ∷ UnaryConst ∷ Shuffle ∷ NullAry ∷ []

abbrev pub selection_formats : List Format
selection_formats = Ternary ∷ Ternary ∷ Ternary ∷ Ternary ∷ Unary ∷ Unary ∷ Unary ∷ []

-- all of them
unfoldable pub core_formats : List Format
core_formats = flat_map (λ formats. formats) (control_flow_formats ∷ calls_formats ∷ lanes_formats ∷ vector_integers_formats
    ∷ memory_formats ∷ vector_loads_formats ∷ addresses_formats ∷ constants_formats ∷ selection_formats ∷ [])
