use Rattle.std.proofs.Common.{◌≡◌, ◌∙◌, ◌+◌, List, length, map, take, sym, ap, arith}
use Rattle.std.proofs.lemmas.List.{length-map}
use Rattle.meta_settings.specs.GroupDeclaration.{GroupDeclaration, entry_count}
use Rattle.meta_shared.specs.Settings.{setting_name, setting_names, setting_of, with_settings}
use Rattle.meta_shared.specs.declared.settings.SettingRow.{SettingRow}
use Rattle.meta_shared.proofs.SettingRows.{shared, has_all}
use Rattle.meta_shared.proofs.settings.define.Goals as goal

-- how many rows have the first names, and how many the others
first_count : (rows : List SettingRow) → map setting_name rows ≡ take 13 setting_names → length rows ≡ 13
first_count rows named = sym (length-map rows setting_name) ∙ ap length named

pub add_settings-requires : goal.add_settings-requires
add_settings-requires c =
    let none : entry_count c.new-group.result ≡ 0 = ap entry_count c.new-group.ensures in
    omega (arith, none, first_count c.first_rows.result.now c.first_rows.ensures)

pub add_settings-requires-2 : goal.add_settings-requires-2
add_settings-requires-2 c =
    let rows = c.first_rows.result.now in
    let last : length c.last_rows.result.now ≡ 14 = sym (length-map c.last_rows.result.now setting_name) ∙ ap length c.last_rows.ensures in
    let some : entry_count c.add_settings.new.group ≡ length (map setting_of rows) + 0 =
    ap entry_count c.in_ok-add_settings.ensures
    ∙ ap (λ (g : GroupDeclaration). entry_count (with_settings g (map setting_of rows))) c.new-group.ensures in
    omega (arith, first_count rows c.first_rows.ensures, last, length-map rows setting_of, some)

pub returns : goal.returns
returns c = shared _ _ _ c.new-group.ensures c.in_ok-new.ensures
    (has_all _ _ _ _ _ c.in_ok-add_settings.ensures c.in_ok-add_settings-2.ensures c.first_rows.ensures c.last_rows.ensures)
