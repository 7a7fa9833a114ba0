use Rattle.std.proofs.Common.{◌≡◌, ◌∷◌, [], ◌++◌, map, drop, string_bytes}
use Rattle.std.specs.List.{flat_map}
use Rattle.meta_rust_text.proofs.SettingTemplates.{value_filled}
use Rattle.meta_rust_text.proofs.enum_types.for_each_value.Given as goal

-- what is written, and then what is left to write
abbrev pub invariant-loop-value : goal.invariant-loop-value
invariant-loop-value l =
    string_bytes l.text ++ flat_map (value_filled l.lines) (drop l.value-index l.values) ≡ flat_map (value_filled l.lines) l.values
