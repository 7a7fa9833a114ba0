-- How many lanes the vectors of the sizes have.
use Rattle.std.proofs.Common.{ℕ, ◌/◌, ◌<◌, zero, suc, inl, inr, true, refl, get_or, Contains, arith}
use Rattle.meta_types.specs.TypeParts.{lane_counts}
use Rattle.meta_types.specs.Lane.{lane_parts}
use Rattle.meta_types.specs.declared.lane.LaneType.{LaneType}
use Rattle.meta_types.specs.declared.lane.LaneType.TheVariants.{Int as IntLane, Float as FloatLane}
use Rattle.meta_types.specs.declared.lane.Int.TheVariants.{I8, I16, I32, I64, I128}
use Rattle.meta_types.specs.declared.lane.Float.TheVariants.{F16, F32, F64, F128}
use Rattle.meta_types.proofs.Among.{Among, among, contains}
use Rattle.meta_rust_text.specs.TypesText.{vector_sizes}

-- by the width of a lane
at_8 : (bits : ℕ) → Among vector_sizes bits → 8 < bits → Among (lane_counts true) (bits / 8)
at_8 bits (inl e) h = rw e (inl refl)
at_8 bits (inr (inl e)) h = rw e (inr (inl refl))
at_8 bits (inr (inr (inl e))) h = rw e (inr (inr (inl refl)))
at_8 bits (inr (inr (inr (inl e)))) h = rw e (inr (inr (inr (inl refl))))
at_8 bits (inr (inr (inr (inr (inl e))))) h = rw e (inr (inr (inr (inr (inl refl)))))
at_8 bits (inr (inr (inr (inr (inr (inl e)))))) h = rw e (inr (inr (inr (inr (inr (inl refl))))))
at_8 bits (inr (inr (inr (inr (inr (inr (no_size))))))) h = absurd no_size

at_16 : (bits : ℕ) → Among vector_sizes bits → 16 < bits → Among (lane_counts true) (bits / 16)
at_16 bits (inl e) h = let bad : ⊥ = omega (arith, e, h) in absurd bad
at_16 bits (inr (inl e)) h = rw e (inl refl)
at_16 bits (inr (inr (inl e))) h = rw e (inr (inl refl))
at_16 bits (inr (inr (inr (inl e)))) h = rw e (inr (inr (inl refl)))
at_16 bits (inr (inr (inr (inr (inl e))))) h = rw e (inr (inr (inr (inl refl))))
at_16 bits (inr (inr (inr (inr (inr (inl e)))))) h = rw e (inr (inr (inr (inr (inl refl)))))
at_16 bits (inr (inr (inr (inr (inr (inr (no_size))))))) h = absurd no_size

at_32 : (bits : ℕ) → Among vector_sizes bits → 32 < bits → Among (lane_counts true) (bits / 32)
at_32 bits (inl e) h = let bad : ⊥ = omega (arith, e, h) in absurd bad
at_32 bits (inr (inl e)) h = let bad : ⊥ = omega (arith, e, h) in absurd bad
at_32 bits (inr (inr (inl e))) h = rw e (inl refl)
at_32 bits (inr (inr (inr (inl e)))) h = rw e (inr (inl refl))
at_32 bits (inr (inr (inr (inr (inl e))))) h = rw e (inr (inr (inl refl)))
at_32 bits (inr (inr (inr (inr (inr (inl e)))))) h = rw e (inr (inr (inr (inl refl))))
at_32 bits (inr (inr (inr (inr (inr (inr (no_size))))))) h = absurd no_size

at_64 : (bits : ℕ) → Among vector_sizes bits → 64 < bits → Among (lane_counts true) (bits / 64)
at_64 bits (inl e) h = let bad : ⊥ = omega (arith, e, h) in absurd bad
at_64 bits (inr (inl e)) h = let bad : ⊥ = omega (arith, e, h) in absurd bad
at_64 bits (inr (inr (inl e))) h = let bad : ⊥ = omega (arith, e, h) in absurd bad
at_64 bits (inr (inr (inr (inl e)))) h = rw e (inl refl)
at_64 bits (inr (inr (inr (inr (inl e))))) h = rw e (inr (inl refl))
at_64 bits (inr (inr (inr (inr (inr (inl e)))))) h = rw e (inr (inr (inl refl)))
at_64 bits (inr (inr (inr (inr (inr (inr (no_size))))))) h = absurd no_size

at_128 : (bits : ℕ) → Among vector_sizes bits → 128 < bits → Among (lane_counts true) (bits / 128)
at_128 bits (inl e) h = let bad : ⊥ = omega (arith, e, h) in absurd bad
at_128 bits (inr (inl e)) h = let bad : ⊥ = omega (arith, e, h) in absurd bad
at_128 bits (inr (inr (inl e))) h = let bad : ⊥ = omega (arith, e, h) in absurd bad
at_128 bits (inr (inr (inr (inl e)))) h = let bad : ⊥ = omega (arith, e, h) in absurd bad
at_128 bits (inr (inr (inr (inr (inl e))))) h = rw e (inl refl)
at_128 bits (inr (inr (inr (inr (inr (inl e)))))) h = rw e (inr (inl refl))
at_128 bits (inr (inr (inr (inr (inr (inr (no_size))))))) h = absurd no_size

-- a vector of one of the sizes may have as many lanes of a smaller lane type as it holds
pub fits : (lane : LaneType) (bits : ℕ) → Contains vector_sizes bits → (lane_parts lane).width < bits
    → Contains (lane_counts true) (bits / (lane_parts lane).width)
fits (IntLane I8) bits size h = contains (lane_counts true) (bits / 8) (at_8 bits (among vector_sizes bits size) h)
fits (IntLane I16) bits size h = contains (lane_counts true) (bits / 16) (at_16 bits (among vector_sizes bits size) h)
fits (IntLane I32) bits size h = contains (lane_counts true) (bits / 32) (at_32 bits (among vector_sizes bits size) h)
fits (IntLane I64) bits size h = contains (lane_counts true) (bits / 64) (at_64 bits (among vector_sizes bits size) h)
fits (IntLane I128) bits size h = contains (lane_counts true) (bits / 128) (at_128 bits (among vector_sizes bits size) h)
fits (FloatLane F16) bits size h = contains (lane_counts true) (bits / 16) (at_16 bits (among vector_sizes bits size) h)
fits (FloatLane F32) bits size h = contains (lane_counts true) (bits / 32) (at_32 bits (among vector_sizes bits size) h)
fits (FloatLane F64) bits size h = contains (lane_counts true) (bits / 64) (at_64 bits (among vector_sizes bits size) h)
fits (FloatLane F128) bits size h = contains (lane_counts true) (bits / 128) (at_128 bits (among vector_sizes bits size) h)

-- no lane type is empty
pub wide : (lane : LaneType) → 0 < (lane_parts lane).width
wide (IntLane I8) = omega arith
wide (IntLane I16) = omega arith
wide (IntLane I32) = omega arith
wide (IntLane I64) = omega arith
wide (IntLane I128) = omega arith
wide (FloatLane F16) = omega arith
wide (FloatLane F32) = omega arith
wide (FloatLane F64) = omega arith
wide (FloatLane F128) = omega arith

-- each of the sizes is one
pub each_size : (i : ℕ) → i < 6 → Contains vector_sizes (get_or vector_sizes i 0)
each_size zero h = (0, omega arith, refl)
each_size (suc zero) h = (1, omega arith, refl)
each_size (suc (suc zero)) h = (2, omega arith, refl)
each_size (suc (suc (suc zero))) h = (3, omega arith, refl)
each_size (suc (suc (suc (suc zero)))) h = (4, omega arith, refl)
each_size (suc (suc (suc (suc (suc zero))))) h = (5, omega arith, refl)
each_size (suc (suc (suc (suc (suc (suc i)))))) h = let bad : ⊥ = omega arith in absurd bad
