-- The names of the instructions 73 to 163, in order.
use Rattle.std.specs.Prelude.{ℕ, List, [], ◌∷◌, codes}
use Rattle.std.specs.List.{flat_map}

abbrev pub arithmetic_names : List (List ℕ)
arithmetic_names = codes "icmp" ∷ codes "iadd" ∷ codes "isub" ∷ codes "ineg" ∷ codes "iabs" ∷ codes "imul" ∷ codes "umulhi"
    ∷ codes "smulhi" ∷ codes "sqmul_round_sat" ∷ codes "x86_pmulhrsw" ∷ []

abbrev pub division_names : List (List ℕ)
division_names = codes "udiv" ∷ codes "sdiv" ∷ codes "urem" ∷ codes "srem" ∷ []

abbrev pub overflow_names : List (List ℕ)
overflow_names = codes "sadd_overflow_cin" ∷ codes "uadd_overflow_cin" ∷ codes "uadd_overflow" ∷ codes "sadd_overflow"
    ∷ codes "usub_overflow" ∷ codes "ssub_overflow" ∷ codes "umul_overflow" ∷ codes "smul_overflow" ∷ codes "uadd_overflow_trap"
    ∷ codes "ssub_overflow_bin" ∷ codes "usub_overflow_bin" ∷ []

abbrev pub bitwise_names : List (List ℕ)
bitwise_names = codes "band" ∷ codes "bor" ∷ codes "bxor" ∷ codes "bnot" ∷ codes "rotl" ∷ codes "rotr" ∷ codes "ishl" ∷ codes "ushr"
    ∷ codes "sshr" ∷ []

abbrev pub bit_counts_names : List (List ℕ)
bit_counts_names = codes "bitrev" ∷ codes "clz" ∷ codes "cls" ∷ codes "ctz" ∷ codes "bswap" ∷ codes "popcnt" ∷ []

abbrev pub floats_names : List (List ℕ)
floats_names = codes "fcmp" ∷ codes "fadd" ∷ codes "fsub" ∷ codes "fmul" ∷ codes "fdiv" ∷ codes "sqrt" ∷ codes "fma" ∷ codes "fneg"
    ∷ codes "fabs" ∷ codes "fcopysign" ∷ codes "fmin" ∷ codes "fmax" ∷ []

abbrev pub rounding_names : List (List ℕ)
rounding_names = codes "ceil" ∷ codes "floor" ∷ codes "trunc" ∷ codes "nearest" ∷ []

abbrev pub casts_names : List (List ℕ)
casts_names = codes "bitcast" ∷ codes "scalar_to_vector" ∷ codes "bmask" ∷ codes "ireduce" ∷ []

abbrev pub lane_widths_names : List (List ℕ)
lane_widths_names = codes "snarrow" ∷ codes "unarrow" ∷ codes "uunarrow" ∷ codes "swiden_low" ∷ codes "swiden_high" ∷ codes "uwiden_low"
    ∷ codes "uwiden_high" ∷ codes "iadd_pairwise" ∷ codes "x86_pmaddubsw" ∷ []

abbrev pub extension_names : List (List ℕ)
extension_names = codes "uextend" ∷ codes "sextend" ∷ codes "fpromote" ∷ codes "fdemote" ∷ codes "fvdemote" ∷ codes "fvpromote_low" ∷ []

abbrev pub number_casts_names : List (List ℕ)
number_casts_names = codes "fcvt_to_uint" ∷ codes "fcvt_to_sint" ∷ codes "fcvt_to_uint_sat" ∷ codes "fcvt_to_sint_sat"
    ∷ codes "x86_cvtt2dq" ∷ codes "fcvt_from_uint" ∷ codes "fcvt_from_sint" ∷ []

abbrev pub last_rows_names : List (List ℕ)
last_rows_names = codes "isplit" ∷ codes "iconcat" ∷ codes "atomic_rmw" ∷ codes "atomic_cas" ∷ codes "atomic_load" ∷ codes "atomic_store"
    ∷ codes "fence" ∷ codes "extract_vector" ∷ codes "sequence_point" ∷ []

-- all of them
unfoldable pub ops_names : List (List ℕ)
ops_names = flat_map (λ names. names) (arithmetic_names ∷ division_names ∷ overflow_names ∷ bitwise_names ∷ bit_counts_names ∷ floats_names
    ∷ rounding_names ∷ casts_names ∷ lane_widths_names ∷ extension_names ∷ number_casts_names ∷ last_rows_names ∷ [])
