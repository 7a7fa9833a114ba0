-- The formats of the instructions 73 to 163, in order.
use Rattle.std.specs.Prelude.{List, [], ◌∷◌}
use Rattle.std.specs.List.{flat_map}
use Rattle.meta_shared.specs.declared.format.Format.{Format}
use Rattle.meta_shared.specs.declared.format.Format.TheVariants.{AtomicCas, AtomicRmw, Binary, BinaryImm8, FloatCompare, IntAddTrap}
use Rattle.meta_shared.specs.declared.format.Format.TheVariants.{IntCompare, LoadNoOffset, NullAry, StoreNoOffset, Ternary, Unary}

abbrev pub arithmetic_formats : List Format
arithmetic_formats = IntCompare ∷ Binary ∷ Binary ∷ Unary ∷ Unary ∷ Binary ∷ Binary ∷ Binary ∷ Binary ∷ Binary ∷ []

abbrev pub division_formats : List Format
division_formats = Binary ∷ Binary ∷ Binary ∷ Binary ∷ []

abbrev pub overflow_formats : List Format
overflow_formats = Ternary ∷ Ternary ∷ Binary ∷ Binary ∷ Binary ∷ Binary ∷ Binary ∷ Binary ∷ IntAddTrap ∷ Ternary ∷ Ternary ∷ []

abbrev pub bitwise_formats : List Format
bitwise_formats = Binary ∷ Binary ∷ Binary ∷ Unary ∷ Binary ∷ Binary ∷ Binary ∷ Binary ∷ Binary ∷ []

abbrev pub bit_counts_formats : List Format
bit_counts_formats = Unary ∷ Unary ∷ Unary ∷ Unary ∷ Unary ∷ Unary ∷ []

abbrev pub floats_formats : List Format
floats_formats = FloatCompare ∷ Binary ∷ Binary ∷ Binary ∷ Binary ∷ Unary ∷ Ternary ∷ Unary ∷ Unary ∷ Binary ∷ Binary ∷ Binary ∷ []

abbrev pub rounding_formats : List Format
rounding_formats = Unary ∷ Unary ∷ Unary ∷ Unary ∷ []

abbrev pub casts_formats : List Format
casts_formats = LoadNoOffset ∷ Unary ∷ Unary ∷ Unary ∷ []

abbrev pub lane_widths_formats : List Format
lane_widths_formats = Binary ∷ Binary ∷ Binary ∷ Unary ∷ Unary ∷ Unary ∷ Unary ∷ Binary ∷ Binary ∷ []

abbrev pub extension_formats : List Format
extension_formats = Unary ∷ Unary ∷ Unary ∷ Unary ∷ Unary ∷ Unary ∷ []

abbrev pub number_casts_formats : List Format
number_casts_formats = Unary ∷ Unary ∷ Unary ∷ Unary ∷ Unary ∷ Unary ∷ Unary ∷ []

abbrev pub last_rows_formats : List Format
last_rows_formats = Unary ∷ Binary ∷ AtomicRmw ∷ AtomicCas ∷ LoadNoOffset ∷ StoreNoOffset ∷ NullAry ∷ BinaryImm8 ∷ NullAry ∷ []

-- all of them
unfoldable pub ops_formats : List Format
ops_formats = flat_map (λ formats. formats) (arithmetic_formats ∷ division_formats ∷ overflow_formats ∷ bitwise_formats
    ∷ bit_counts_formats ∷ floats_formats ∷ rounding_formats ∷ casts_formats ∷ lane_widths_formats ∷ extension_formats
    ∷ number_casts_formats ∷ last_rows_formats ∷ [])
