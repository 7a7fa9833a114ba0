-- The settings that rows describe.
use Rattle.std.proofs.Common.{◌≡◌, ◌∙◌, ◌<◌, ◌+◌, ℕ, List, [], ◌∷◌, ◌++◌, map, take, drop, length, get_or, codes, sym, ap, ap₂}
use Rattle.std.proofs.lemmas.List.{append_assoc, map-append, map_more}
use Rattle.meta_settings.specs.GroupDeclaration.{SettingDeclaration, GroupDeclaration}
use Rattle.meta_settings.specs.Declaring.{with_setting}
use Rattle.meta_shared.specs.declared.settings.SettingRow.{SettingRow}
use Rattle.meta_shared.specs.Settings.{setting_names, setting_name, setting_of, with_settings, HasSharedSettings, IsSharedGroup}

-- the settings of one row more
pub settings_more : (rows : List SettingRow) (k : ℕ) (d : SettingRow) (old now new : GroupDeclaration)
    → k < length rows → now ≡ with_settings old (map setting_of (take k rows))
    → new ≡ with_setting now (setting_of (get_or rows k d)) → new ≡ with_settings old (map setting_of (take (k + 1) rows))
settings_more rows k d old now new within held added =
    added
    ∙ ap (λ (g : GroupDeclaration). with_setting g (setting_of (get_or rows k d))) held
    ∙ ap (λ (settings : List SettingDeclaration). record old { settings = settings })
    (append_assoc old.settings (map setting_of (take k rows)) (setting_of (get_or rows k d) ∷ [])
    ∙ ap (λ xs. old.settings ++ xs) (sym (map_more setting_of rows k d within)))

-- the settings of the first rows, and of those after them
pub has_all : (none some all : GroupDeclaration) (first last : List SettingRow)
    → some ≡ with_settings none (map setting_of first) → all ≡ with_settings some (map setting_of last)
    → map setting_name first ≡ take 13 setting_names → map setting_name last ≡ drop 13 setting_names → HasSharedSettings none all
has_all none some all first last front whole first_named last_named = record {
  rows = first ++ last;
  are_rows = record { are_named = map-append setting_name first last ∙ ap₂ (λ xs ys. xs ++ ys) first_named last_named };
  is =
      whole
      ∙ ap (λ (g : GroupDeclaration). with_settings g (map setting_of last)) front
      ∙ ap (λ (settings : List SettingDeclaration). record none { settings = settings })
      (append_assoc none.settings (map setting_of first) (map setting_of last)
      ∙ ap (λ xs. none.settings ++ xs) (sym (map-append setting_of first last)));
}

-- and there is no other
pub shared : (none all : GroupDeclaration) (name : List ℕ)
    → none ≡ record { name = name; settings = []; presets = [] } → name ≡ codes "shared" → HasSharedSettings none all → IsSharedGroup all
shared none all name empty named has =
    let is : all ≡ record { name = name; settings = map setting_of has.rows; presets = [] } = has.is
    ∙ ap (λ (g : GroupDeclaration). with_settings g (map setting_of has.rows)) empty in
    record {
      rows = has.rows;
      are_named = has.are_rows.are_named;
      name = ap (λ (g : GroupDeclaration). g.name) is ∙ named;
      settings = ap (λ (g : GroupDeclaration). g.settings) is;
      presets = ap (λ (g : GroupDeclaration). g.presets) is;
    }
