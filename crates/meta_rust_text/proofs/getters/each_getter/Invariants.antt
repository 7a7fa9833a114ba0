use Rattle.std.proofs.Common.{◌≡◌, ◌++◌, drop, string_bytes}
use Rattle.std.specs.List.{flat_map}
use Rattle.meta_rust_text.specs.GetterText.{getter_text}
use Rattle.meta_rust_text.proofs.getters.each_getter.Given as goal

-- what is written, and then what is left to write
abbrev pub invariant-loop-setting : goal.invariant-loop-setting
invariant-loop-setting l =
    string_bytes l.getters ++ flat_map getter_text (drop l.setting-index l.settings) ≡ flat_map getter_text l.settings
