-- How much of each kind there is.
use Rattle.std.proofs.Common.{◌≡◌, ℕ, ◌+◌, suc, Bool, true, false, not, cond, List, [], ◌∷◌, ◌++◌, length, length-append, map, refl}
use Rattle.std.proofs.Common.{sym, ap}
use Rattle.std.proofs.Common.{◌∙◌, arith}
use Rattle.meta_settings.specs.GroupDeclaration.{SettingDeclaration, PresetDeclaration, GroupDeclaration, is_bool}
use Rattle.meta_settings.specs.GroupDeclaration.{booleans_among, others_among, start_of, entry_count}
use Rattle.meta_settings.specs.Layout.{BuiltPreset}
use Rattle.meta_settings.specs.LaidOut.{in_bytes, in_bits, built_of}
use Rattle.meta_settings.specs.TurnedOn.{presets_after, built_preset}
use Rattle.meta_settings.proofs.Placing.{length-in_bytes, length-in_bits}
use Rattle.meta_setting_tables.specs.FoundSetting.{laid_entry_count}
use Rattle.meta_build.specs.AllDeclared.{Declared}
use Rattle.meta_gen.specs.WholeTables.{WholeTables, AreWholeTablesOf}
use Rattle.meta_program.specs.Counts.{entries_in, laid_entries_in, line_of_counts, IsCheckLine}

-- each setting is a boolean or another
one_more : (b : Bool) (s : SettingDeclaration) (xs ys : List SettingDeclaration) (n : ℕ) → length xs + length ys ≡ n
    → length (cond (not b) (s ∷ xs) xs) + length (cond b (s ∷ ys) ys) ≡ suc n
one_more true s xs ys n h = omega (arith, h)
one_more false s xs ys n h = omega (arith, h)

of_two_sorts : (settings : List SettingDeclaration)
    → length (others_among settings) + length (booleans_among settings) ≡ length settings
of_two_sorts [] = refl
of_two_sorts (s ∷ ss) = one_more (is_bool s) s (others_among ss) (booleans_among ss) (length ss) (of_two_sorts ss)

count_of_presets : (earlier : List BuiltPreset) (presets : List PresetDeclaration)
    → length (presets_after earlier presets) ≡ length earlier + length presets
count_of_presets earlier [] = omega arith
count_of_presets earlier (p ∷ ps) =
    let one = length-append earlier (built_preset earlier p ∷ []) in
    let rest = count_of_presets (earlier ++ built_preset earlier p ∷ []) ps in
    omega arith

-- a group has as many entries as it is built with
entries_of_one : (g : GroupDeclaration) → laid_entry_count (built_of g) ≡ entry_count g
entries_of_one g =
    let bytes = length-in_bytes 0 (others_among g.settings) in
    let bits = length-in_bits (start_of g) 0 (booleans_among g.settings) in
    let both = length-append (in_bytes 0 (others_among g.settings)) (in_bits (start_of g) 0 (booleans_among g.settings)) in
    let sorts = of_two_sorts g.settings in
    let presets = count_of_presets [] g.presets in
    omega arith

pub entries_built : (groups : List GroupDeclaration) → laid_entries_in (map built_of groups) ≡ entries_in groups
entries_built [] = refl
entries_built (g ∷ gs) =
    let one = entries_of_one g in
    let rest = entries_built gs in
    omega arith

-- a line with these numbers
pub counted : (d : Declared) (t : WholeTables) (line : List ℕ) → AreWholeTablesOf d t → line ≡ line_of_counts d t → IsCheckLine d line
counted d t line are is = record { tables = t; are = are; is = is }

-- declarations determine their tables, and so the line
pub one_line : (d : Declared) → ((one other : WholeTables) → AreWholeTablesOf d one → AreWholeTablesOf d other → one ≡ other)
    → (line other : List ℕ) → IsCheckLine d line → IsCheckLine d other → line ≡ other
one_line d one_table line other h g = h.is ∙ ap (line_of_counts d) (one_table h.tables g.tables h.are g.are) ∙ sym g.is
