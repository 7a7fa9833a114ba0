-- The group of settings that all targets share.
--     setting_of row           the setting that a row describes
--     IsSharedGroup g          the group `shared`
use Rattle.std.specs.Prelude.{◌≡◌, ℕ, List, [], ◌∷◌, ◌++◌, map, codes}
use Rattle.std.specs.Borrow.{Bor}
use Rattle.meta_settings.specs.GroupDeclaration.{SettingDeclaration, GroupDeclaration}
use Rattle.meta_settings.specs.declared.proto.ProtoSpecificSetting.{ProtoSpecificSetting}
use Rattle.meta_settings.specs.declared.proto.ProtoSpecificSetting.TheVariants.{Bool as ABool, Enum as AnEnum, Num as ANum}
use Rattle.meta_shared.specs.declared.settings.Choice.{Choice}
use Rattle.meta_shared.specs.declared.settings.Choice.TheVariants.{Bool, Enum, Num}
use Rattle.meta_shared.specs.declared.settings.SettingRow.{SettingRow}

-- the names of the settings in the order of their declaration
abbrev pub setting_names : List (List ℕ)
setting_names =
    codes "regalloc_checker" ∷
    codes "regalloc_verbose_logs" ∷
    codes "regalloc_algorithm" ∷
    codes "opt_level" ∷
    codes "enable_alias_analysis" ∷
    codes "enable_verifier" ∷
    codes "is_pic" ∷
    codes "use_colocated_libcalls" ∷
    codes "enable_nan_canonicalization" ∷
    codes "enable_pinned_reg" ∷
    codes "tls_model" ∷
    codes "stack_switch_model" ∷
    codes "libcall_call_conv" ∷
    codes "enable_llvm_abi_extensions" ∷
    codes "enable_multi_ret_implicit_sret" ∷
    codes "unwind_info" ∷
    codes "preserve_frame_pointers" ∷
    codes "machine_code_cfg_info" ∷
    codes "enable_probestack" ∷
    codes "probestack_size_log2" ∷
    codes "probestack_strategy" ∷
    codes "enable_heap_access_spectre_mitigation" ∷
    codes "enable_table_access_spectre_mitigation" ∷
    codes "enable_incremental_compilation_cache_checks" ∷
    codes "bb_padding_log2_minus_one" ∷
    codes "log2_min_function_alignment" ∷
    codes "enable_compact_unwind_abi" ∷
    []

-- the texts of a table
abbrev pub texts_of : List (Bor (List ℕ)) → List (List ℕ)
texts_of texts = map (λ text. text.now) texts

-- what a setting is
abbrev pub specific_of : Choice → ProtoSpecificSetting
specific_of (Bool default) = ABool default
specific_of (Enum values) = AnEnum (texts_of values.now)
specific_of (Num default) = ANum default

-- the setting that a row describes
abbrev pub setting_of : SettingRow → SettingDeclaration
setting_of row = record { name = row.name.now; description = row.description.now; comment = []; specific = specific_of row.choice }

abbrev pub setting_name : SettingRow → List ℕ
setting_name row = row.name.now

-- the rows have the names of the settings
pub record AreSettingRows (rows : List SettingRow) : Type 0 where
  pub are_named : map setting_name rows ≡ setting_names

-- the group with these settings besides
abbrev pub with_settings : GroupDeclaration → List SettingDeclaration → GroupDeclaration
with_settings d settings = record d { settings = d.settings ++ settings }

-- the group has a setting of each name besides, in order, as a row describes it
pub record HasSharedSettings (before after : GroupDeclaration) : Type 0 where
  pub rows : List SettingRow
  pub are_rows : AreSettingRows rows
  pub is : after ≡ with_settings before (map setting_of rows)

-- the group of that name, with a setting of each name, in order, as a row describes it, and without presets
pub record IsSharedGroup (g : GroupDeclaration) : Type 0 where
  pub rows : List SettingRow
  pub are_named : map setting_name rows ≡ setting_names
  pub name : g.name ≡ codes "shared"
  pub settings : g.settings ≡ map setting_of rows
  pub presets : g.presets ≡ []
