-- The text of a group of settings in the table text, by the tables of the group.
--     group_text g      all parts, in order
use Rattle.std.specs.Prelude.{ℕ, ◌*◌, List, ◌++◌, length, Option}
use Rattle.std.specs.List.{filter, flat_map}
use Rattle.meta_setting_tables.specs.declared.descriptor.Descriptor.{Descriptor}
use Rattle.meta_setting_tables.specs.EntryValues.{masks_from, names_on}
use Rattle.meta_setting_tables.specs.GroupTables.{GroupContents}
use Rattle.meta_setting_tables.specs.WellFormed.{is_preset}
use Rattle.meta_table_text.specs.declared.table_list.TableList.TheVariants.{Enumerators, Descriptors, SettingSlots, Presets}
use Rattle.meta_table_text.specs.Lists.{list_text}
use Rattle.meta_table_text.specs.GroupItems.{head_text, enumerator_text, descriptor_text, slot_text, pair_text, texts_with_commas}
use Rattle.meta_table_text.specs.GroupItems.{comment_text, bytes_text, template_text}

-- the enumerators
unfoldable pub enumerators_text : List (List ℕ) → List ℕ
enumerators_text names = list_text Enumerators (length names) (flat_map enumerator_text names)

-- the descriptors of the entries
unfoldable pub descriptors_text : List Descriptor → List ℕ
descriptors_text descriptors = list_text Descriptors (length descriptors) (flat_map descriptor_text descriptors)

-- the slots of the names of the entries
unfoldable pub slots_text : List (Option ℕ) → List ℕ
slots_text slots = list_text SettingSlots (length slots) (flat_map slot_text slots)

-- ---- the presets

-- the descriptors of the presets
abbrev pub presets_in : List Descriptor → List Descriptor
presets_in descriptors = filter (λ d. is_preset d.detail) descriptors

-- the lines of a preset, if each preset has `size` of the masks: a pair for each of its own, and then the comment, with the names of the
-- entries that it turns on
unfoldable pub preset_text : List Descriptor → ℕ → List ℕ → Descriptor → List ℕ
preset_text entries size masks d =
    flat_map pair_text (masks_from size masks d.offset)
    ++ comment_text d.name (texts_with_commas (names_on entries (masks_from size masks d.offset)))

-- the presets among the descriptors, if each has `size` of the masks
unfoldable pub presets_text : List Descriptor → ℕ → List ℕ → List ℕ
presets_text descriptors size masks = list_text Presets (length (presets_in descriptors) * size)
    (flat_map (preset_text descriptors size masks) (presets_in descriptors))

-- ---- all parts

-- the text of the group: its name, its lists, and its template
unfoldable pub group_text : GroupContents → List ℕ
group_text g =
    head_text g.name
    ++ (enumerators_text g.enumerators
    ++ (descriptors_text g.descriptors
    ++ (slots_text g.slots
    ++ (presets_text g.descriptors (length g.defaults) g.preset_masks
    ++ template_text g.name (bytes_text g.defaults)))))
