use Rattle.std.proofs.Common.{◌≡◌, ◌++◌, drop, string_bytes}
use Rattle.std.specs.List.{flat_map}
use Rattle.meta_rust_text.specs.declared.parent_group.ParentGroup.TheVariants.{Shared}
use Rattle.meta_rust_text.specs.SettingsText.{group_flags_text}
use Rattle.meta_rust_text.proofs.group_texts.settings_text.Given as goal

-- what is written, and then what is left to write
abbrev pub invariant-loop-group : goal.invariant-loop-group
invariant-loop-group l =
    string_bytes l.text ++ flat_map (group_flags_text Shared) (drop l.group-index l.others)
    ≡ string_bytes l.initial.text ++ flat_map (group_flags_text Shared) l.others
