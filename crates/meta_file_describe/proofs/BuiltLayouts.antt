-- What is built of groups: the presets of each turn on booleans of the group alone.
use Rattle.std.proofs.Common.{◌≡◌, ◌∙◌, ℕ, List, sym, ap, subst}
use Rattle.std.specs.Prelude.{slice_get, Some}
use Rattle.meta_lists.proofs.Mapped.{get_mapped}
use Rattle.meta_settings.specs.GroupDeclaration.{GroupDeclaration}
use Rattle.meta_settings.specs.GroupFaults.{IsValidGroup}
use Rattle.meta_settings.specs.LaidOut.{built_of}
use Rattle.meta_settings.specs.Layout.{Layout}
use Rattle.meta_setting_tables.specs.BuiltLayout.{IsBuiltLayout}
use Rattle.meta_build.specs.BuiltDeclarations.{BuiltDeclarations, AreBuilt}
use Rattle.meta_file_describe.specs.SettingItems.{HasItsBooleans}

pub built_layouts : (b : BuiltDeclarations) (groups : List Layout) → AreBuilt b
    → ((d : GroupDeclaration) → IsValidGroup d → IsBuiltLayout (built_of d)) → groups ≡ b.groups → (k : ℕ) (g : Layout)
    → slice_get groups k ≡ Some g → HasItsBooleans g
built_layouts b groups h law are k g at =
    let (d, at_d, is) = get_mapped built_of b.declared.groups k g (ap (λ (gs : List Layout). slice_get gs k) (sym h.groups ∙ sym are) ∙ at) in
    subst HasItsBooleans is (law d (h.valid.groups k d at_d)).presets
