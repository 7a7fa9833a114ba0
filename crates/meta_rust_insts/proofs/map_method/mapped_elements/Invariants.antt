use Rattle.std.proofs.Common.{◌≡◌, string_bytes}
use Rattle.meta_rust_insts.specs.MapMethod.{mapped_below}
use Rattle.meta_rust_insts.proofs.map_method.mapped_elements.Given as goal

-- the values at the places so far are written
abbrev pub invariant-loop-place : goal.invariant-loop-place
invariant-loop-place l = string_bytes l.text ≡ mapped_below l.place
