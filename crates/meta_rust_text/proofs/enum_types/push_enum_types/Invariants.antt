use Rattle.std.proofs.Common.{◌≡◌, ◌++◌, drop, string_bytes}
use Rattle.std.specs.List.{flat_map}
use Rattle.meta_rust_text.specs.EnumText.{enum_of}
use Rattle.meta_rust_text.proofs.enum_types.push_enum_types.Given as goal

-- what is written, and then what is left to write
abbrev pub invariant-loop-setting : goal.invariant-loop-setting
invariant-loop-setting l =
    string_bytes l.out ++ flat_map (λ s. enum_of l.group s.name s.specific) (drop l.setting-index l.settings)
    ≡ string_bytes l.initial.out ++ flat_map (λ s. enum_of l.group s.name s.specific) l.settings
