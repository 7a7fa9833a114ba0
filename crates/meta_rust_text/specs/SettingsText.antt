-- The text of groups of settings, as they are built.
--     group_flags_text parent g     the text of a group with this parent
--     settings_text groups    the text of groups, of which the first has no parent
use Rattle.std.specs.Prelude.{ℕ, List, [], ◌∷◌, ◌++◌}
use Rattle.std.specs.List.{flat_map}
use Rattle.meta_settings.specs.Layout.{Layout}
use Rattle.meta_rust_text.specs.declared.parent_group.ParentGroup.{ParentGroup}
use Rattle.meta_rust_text.specs.declared.parent_group.ParentGroup.TheVariants.{None, Shared}
use Rattle.meta_rust_text.specs.FlagsText.{arguments_of, flags_text, flags_used_text}
use Rattle.meta_rust_text.specs.EnumText.{enum_types_text}
use Rattle.meta_rust_text.specs.GetterText.{getters_text}

-- the text of a group: the flags with their constructor and iterator; the enums; the getters; and how flags are built, shown and
-- hashed
unfoldable pub group_flags_text : ParentGroup → Layout → List ℕ
group_flags_text parent g =
    flags_text g.name (arguments_of parent) g.settings_size ++ (enum_types_text g ++ (getters_text g ++ flags_used_text g.name))

-- the texts of the groups, in order: the first has no parent, and the others have the one that all targets share
abbrev pub settings_text : List Layout → List ℕ
settings_text [] = []
settings_text (g ∷ gs) = group_flags_text None g ++ flat_map (group_flags_text Shared) gs
