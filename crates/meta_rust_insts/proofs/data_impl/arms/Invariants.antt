use Rattle.std.proofs.Common.{◌≡◌, ◌++◌, map, drop, string_bytes, flat_map}
use Rattle.meta_rust_insts.specs.Arms.{method_arm}
use Rattle.meta_rust_insts.proofs.data_impl.arms.Given as goal

-- what is written, and then what is left to write
abbrev pub invariant-loop-format : goal.invariant-loop-format
invariant-loop-format l =
    string_bytes l.text ++ flat_map (method_arm l.method) (map (λ f. f.now) (drop l.format-index l.formats))
    ≡ flat_map (method_arm l.method) (map (λ f. f.now) l.formats)
