-- The text of tables has no line that is the mark.
use Rattle.std.proofs.Common.{ℕ, ◌*◌, Bool, List, [], ◌∷◌, ◌++◌, All, length, filter, Option, codes, refl}
use Rattle.std.specs.List.{flat_map}
use Rattle.std.specs.Fmt.{decimal}
use Rattle.std.proofs.lemmas.List.Elements.{All-map, All-filter, All-weaker}
use Rattle.meta_lists.proofs.Everywhere.{everywhere, at_place}
use Rattle.meta_types.specs.Name.{IsName}
use Rattle.meta_settings.specs.GroupFaults.{IsPlainByte}
use Rattle.meta_setting_tables.specs.declared.descriptor.Descriptor.{Descriptor}
use Rattle.meta_setting_tables.specs.GroupTables.{GroupContents}
use Rattle.meta_setting_tables.specs.EntryValues.{is_on, masks_from, names_on}
use Rattle.meta_setting_tables.specs.WellFormed.{is_preset, IsWellFormedGroup}
use Rattle.meta_gen.specs.WholeTables.{WholeTables}
use Rattle.meta_gen.specs.WellFormed.{IsWellFormed}
use Rattle.meta_text.specs.Lines.{Line, at}
use Rattle.meta_table_text.specs.declared.version.Version.{Version}
use Rattle.meta_table_text.specs.declared.table_list.TableList.TheVariants.{Enumerators, Descriptors, SettingSlots, Presets}
use Rattle.meta_table_text.specs.GroupItems.{head_text, enumerator_text, detail_text, descriptor_text, descriptor_block, slot_number_text}
use Rattle.meta_table_text.specs.GroupItems.{slot_text, binary_text, pair_text, texts_with_commas, comment_text, bytes_text, template_text}
use Rattle.meta_table_text.specs.GroupText.{enumerators_text, descriptors_text, slots_text, presets_in, preset_text, presets_text}
use Rattle.meta_table_text.specs.GroupText.{group_text}
use Rattle.meta_table_text.specs.TableText.{opcodes_text, table_text}
use Rattle.meta_query.proofs.Unmarked.{IsUnmarked, unmarked_both}
use Rattle.meta_query.proofs.LineTexts.{lines_unmarked, all_unmarked, any_unmarked, list_unmarked}
use Rattle.meta_query.proofs.Endless.{IsEndless, number_endless, binary_endless, name_endless, description_endless, names_endless}
use Rattle.meta_query.proofs.Endless.{bytes_endless, detail_endless, slot_endless}
use Rattle.meta_query.proofs.OpcodeLines.{opcodes_unmarked}

-- ---- a group of settings

head_unmarked : (name : List ℕ) → IsEndless name → IsUnmarked (head_text name)
unfolding head_text
head_unmarked name free =
    lines_unmarked (at 0 (codes "// Settings group " ∷ name ∷ codes "." ∷ []) ∷ []) (((refl, (free, (refl, tt))), refl), tt)

enumerator_unmarked : (name : List ℕ) → IsName name → IsUnmarked (enumerator_text name)
unfolding enumerator_text
enumerator_unmarked name is =
    lines_unmarked (at 1 (codes "\"" ∷ name ∷ codes "\"," ∷ []) ∷ []) ((refl, (name_endless name is, (refl, tt))), tt)

-- the name of an entry and its description
record HasWords (d : Descriptor) : Type 0 where
  name : IsName d.name
  description : All IsPlainByte d.description

-- the lines of an entry
abbrev descriptor_lines : Descriptor → List Line
descriptor_lines d =
    at 1 (codes "detail::Descriptor {" ∷ [])
    ∷ (at 2 (codes "name: \"" ∷ d.name ∷ codes "\"," ∷ [])
    ∷ (at 2 (codes "description: \"" ∷ d.description ∷ codes "\"," ∷ [])
    ∷ (at 2 (codes "offset: " ∷ decimal d.offset ∷ codes "," ∷ [])
    ∷ (at 2 (codes "detail: " ∷ detail_text d.detail ∷ codes "," ∷ [])
    ∷ (at 1 (codes "}" ∷ [])
    ∷ at 1 (codes "," ∷ []) ∷ [])))))

descriptor_unmarked : (d : Descriptor) → HasWords d → IsUnmarked (descriptor_text d)
unfolding descriptor_block
descriptor_unmarked d has = lines_unmarked (descriptor_lines d) (
  (refl, tt),
  (
    (refl, (name_endless d.name has.name, (refl, tt))),
    (
      (refl, (description_endless d.description has.description, (refl, tt))),
      (
        (refl, (number_endless d.offset, (refl, tt))),
        ((refl, (detail_endless d.detail, (refl, tt))), ((refl, tt), ((refl, tt), tt))),
      ),
    ),
  ),
)

slot_unmarked : (slot : Option ℕ) → IsUnmarked (slot_text slot)
unfolding slot_text
slot_unmarked slot = lines_unmarked (at 1 (slot_number_text slot ∷ codes "," ∷ []) ∷ []) ((slot_endless slot, (refl, tt)), tt)

pair_unmarked : (mask : ℕ) → IsUnmarked (pair_text mask)
unfolding pair_text
pair_unmarked mask =
    lines_unmarked (at 1 (codes "(0b" ∷ binary_text mask ∷ codes ", 0b" ∷ binary_text mask ∷ codes ")," ∷ []) ∷ [])
    ((refl, (binary_endless mask, (refl, (binary_endless mask, (refl, tt))))), tt)

comment_unmarked : (name booleans : List ℕ) → IsEndless name → IsEndless booleans → IsUnmarked (comment_text name booleans)
unfolding comment_text
comment_unmarked name booleans free frees = lines_unmarked (at 1 (codes "// " ∷ name ∷ codes ": " ∷ booleans ∷ []) ∷ [])
    ((refl, (free, (refl, (frees, tt)))), tt)

-- the lines of the template
abbrev template_lines : List ℕ → List ℕ → List Line
template_lines name defaults =
    at 0 (codes "static TEMPLATE: detail::Template = detail::Template {" ∷ [])
    ∷ (at 1 (codes "name: \"" ∷ name ∷ codes "\"," ∷ [])
    ∷ (at 1 (codes "descriptors: &DESCRIPTORS," ∷ [])
    ∷ (at 1 (codes "enumerators: &ENUMERATORS," ∷ [])
    ∷ (at 1 (codes "hash_table: &HASH_TABLE," ∷ [])
    ∷ (at 1 (codes "defaults: &[" ∷ defaults ∷ codes "]," ∷ [])
    ∷ (at 1 (codes "presets: &PRESETS," ∷ [])
    ∷ (at 0 (codes "}" ∷ [])
    ∷ at 0 (codes ";" ∷ []) ∷ [])))))))

template_unmarked : (name defaults : List ℕ) → IsEndless name → IsEndless defaults → IsUnmarked (template_text name defaults)
unfolding template_text
template_unmarked name defaults free frees = lines_unmarked (template_lines name defaults) (
  ((refl, tt), refl),
  (
    (refl, (free, (refl, tt))),
    (
      (refl, tt),
      ((refl, tt), ((refl, tt), ((refl, (frees, (refl, tt))), ((refl, tt), (((refl, tt), refl), (((refl, tt), refl), tt)))))),
    ),
  ),
)

module _ (descriptors : List Descriptor) (all : All HasWords descriptors) where
  booleans_endless : (bytes : List ℕ) → IsEndless (texts_with_commas (names_on descriptors bytes))
  booleans_endless bytes =
      let on : Descriptor → Bool = λ d. is_on bytes d.offset d.detail in
      names_endless (names_on descriptors bytes) (All-map IsEndless (λ (d : Descriptor). d.name) (filter on descriptors)
      (All-filter on (λ (d : Descriptor). IsEndless d.name) descriptors
      (All-weaker HasWords (λ (d : Descriptor). IsEndless d.name) (λ d has. name_endless d.name has.name) descriptors all)))

  preset_unmarked : (size : ℕ) (masks : List ℕ) (d : Descriptor) → HasWords d → IsUnmarked (preset_text descriptors size masks d)
  unfolding preset_text
  preset_unmarked size masks d has =
      let own : List ℕ = masks_from size masks d.offset in
      unmarked_both (flat_map pair_text own) (comment_text d.name (texts_with_commas (names_on descriptors own)))
      (any_unmarked pair_text own pair_unmarked)
      (comment_unmarked d.name (texts_with_commas (names_on descriptors own)) (name_endless d.name has.name) (booleans_endless own))

  presets_unmarked : (size : ℕ) (masks : List ℕ) → IsUnmarked (presets_text descriptors size masks)
  unfolding presets_text
  presets_unmarked size masks =
      list_unmarked Presets (length (presets_in descriptors) * size)
      (flat_map (preset_text descriptors size masks) (presets_in descriptors))
      (all_unmarked (preset_text descriptors size masks) (presets_in descriptors)
      (All-weaker HasWords (λ d. IsUnmarked (preset_text descriptors size masks d)) (preset_unmarked size masks) (presets_in descriptors)
      (All-filter (λ d. is_preset d.detail) HasWords descriptors all)))

group_unmarked : (g : GroupContents) → IsWellFormedGroup g → IsUnmarked (group_text g)
unfolding group_text enumerators_text descriptors_text slots_text
group_unmarked g is =
    let ds = g.descriptors in
    let has : All HasWords ds = everywhere {P = HasWords} ds (λ k d there. record {
      name = at_place (λ (d : Descriptor). IsName d.name) ds k d is.names.entry_names there;
      description = at_place (λ (d : Descriptor). All IsPlainByte d.description) ds k d is.names.descriptions there;
    }) in
    let free = name_endless g.name is.names.group_name in
    let last = template_text g.name (bytes_text g.defaults) in
    let presets = presets_text ds (length g.defaults) g.preset_masks in
    unmarked_both (head_text g.name) (enumerators_text g.enumerators ++ (descriptors_text ds ++ (slots_text g.slots ++ (presets ++ last))))
    (head_unmarked g.name free)
    (unmarked_both (enumerators_text g.enumerators) (descriptors_text ds ++ (slots_text g.slots ++ (presets ++ last)))
    (list_unmarked Enumerators (length g.enumerators) (flat_map enumerator_text g.enumerators)
    (all_unmarked enumerator_text g.enumerators (All-weaker IsName (λ name. IsUnmarked (enumerator_text name)) enumerator_unmarked
    g.enumerators is.names.enumerator_names)))
    (unmarked_both (descriptors_text ds) (slots_text g.slots ++ (presets ++ last))
    (list_unmarked Descriptors (length ds) (flat_map descriptor_text ds)
    (all_unmarked descriptor_text ds (All-weaker HasWords (λ d. IsUnmarked (descriptor_text d)) descriptor_unmarked ds has)))
    (unmarked_both (slots_text g.slots) (presets ++ last)
    (list_unmarked SettingSlots (length g.slots) (flat_map slot_text g.slots) (any_unmarked slot_text g.slots slot_unmarked))
    (unmarked_both presets last (presets_unmarked ds has (length g.defaults) g.preset_masks)
    (template_unmarked g.name (bytes_text g.defaults) free (bytes_endless g.defaults))))))

-- ---- whole tables

pub table_text_unmarked : (v : Version) (t : WholeTables) → IsWellFormed t → IsUnmarked (table_text v t)
unfolding table_text
table_text_unmarked v t is =
    unmarked_both (opcodes_text v t.opcodes) (flat_map group_text t.groups)
    (opcodes_unmarked t.opcodes is.opcodes.parts.names is.opcodes.parts.formats v)
    (all_unmarked group_text t.groups
    (All-weaker IsWellFormedGroup (λ g. IsUnmarked (group_text g)) group_unmarked t.groups is.groups))
