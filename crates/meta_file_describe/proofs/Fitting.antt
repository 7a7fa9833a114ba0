-- The items of groups of settings fit, where those of the settings do.
use Rattle.std.proofs.Common.{List, [], ◌∷◌, ◌++◌, map}
use Rattle.meta_file_reader.specs.Fits.{Fits, Every}
use Rattle.meta_settings.specs.Layout.{BuiltPreset, Layout}
use Rattle.meta_file_describe.specs.SettingItems.{item_of_setting, item_of_preset, items_of_group}

-- each of two lists is good, so each of both is
pub both_good : {A : Type 0} (Good : A → Type 0) (a b : List A) → Every Good a → Every Good b → Every Good (a ++ b)
both_good Good [] b h g = g
both_good Good (x ∷ xs) b h g = (h.0, both_good Good xs b h.1 g)

presets_fit : (g : Layout) (ps : List BuiltPreset) → Every Fits (map (item_of_preset g) ps)
presets_fit g [] = tt
presets_fit g (p ∷ ps) = (tt, presets_fit g ps)

-- where the settings of a group fit, its items do
pub group_fits : (g : Layout) → Every Fits (map item_of_setting g.settings) → Every Fits (items_of_group g)
group_fits g settings = (tt, both_good Fits (map item_of_setting g.settings) _ settings (presets_fit g g.presets))
