-- The text of the tables of a group tells the tables.
use Rattle.std.proofs.Common.{◌≡◌, ℕ, ◌+◌, ◌*◌, ◌/◌, ◌%◌, ◌<◌, ◌≤◌, ◌^◌, false, List, [], ◌∷◌, ◌++◌, ⊎_elim, All, length, map, drop}
use Rattle.std.proofs.Common.{slice_index, Option, codes, refl, sym, ap, ◌∙◌, subst, append_assoc, arith}
use Rattle.std.specs.List.{flat_map, AllZip}
use Rattle.std.specs.Fmt.{digit_glyph}
use Rattle.std.proofs.Math.Nat.{mul-div_cancel_left}
use Rattle.std.proofs.lemmas.List.{length-map, length-append}
use Rattle.std.proofs.lemmas.List.Elements.{All-filter}
use Rattle.std.proofs.lemmas.List.Folds.{flat_map-map}
use Rattle.meta_types.specs.Name.{IsName}
use Rattle.meta_setting_tables.specs.declared.descriptor.Descriptor.{Descriptor}
use Rattle.meta_setting_tables.specs.GroupTables.{GroupContents}
use Rattle.meta_table_text.specs.declared.table_list.TableList.TheVariants.{Enumerators, Descriptors, SettingSlots, Presets}
use Rattle.meta_table_text.specs.Lists.{list_end}
use Rattle.meta_table_text.specs.GroupItems.{head_text, enumerator_text, descriptor_text, slot_text, binary_text, pair_text}
use Rattle.meta_table_text.specs.GroupItems.{texts_with_commas, comment_text, bytes_text, template_text}
use Rattle.meta_setting_tables.specs.EntryValues.{masks_from, names_on}
use Rattle.meta_setting_tables.specs.WellFormed.{is_preset}
use Rattle.meta_table_text.specs.GroupText.{enumerators_text, descriptors_text, slots_text, presets_in, preset_text, presets_text}
use Rattle.meta_table_text.specs.GroupText.{group_text}
use Rattle.meta_table_reader.proofs.Cancel.{cancel_front, cancel_item, cancel_line, cancel_lines, cancel_items}
use Rattle.meta_table_reader.proofs.ItemsRead.{all_first, all_after}
use Rattle.meta_table_reader.specs.ShownGroup.{IsShownDescriptor, IsByte, AreShownMasksOf, AreShownPresets, AreShownGroup}
use Rattle.meta_table_reader.proofs.Heads.{list_told}
use Rattle.meta_table_reader.proofs.NameBytes.{name_lacks_dot}
use Rattle.meta_table_reader.proofs.EntryBlocks.{glyph_told, hex_told}
use Rattle.meta_table_reader.proofs.DescriptorBlocks.{enumerator_told, descriptor_told}
use Rattle.meta_table_reader.proofs.GroupLines.{slots_are_lines, comment_is_line, preset_parts}
use Rattle.meta_table_reader.proofs.Presets.{size_cases}
use Rattle.meta_table_reader.proofs.ShownBytes.{comma_after, without_comma, bytes_lack}
use Rattle.meta_table_reader.proofs.TemplateLines.{template_lines, template_lines_are, before_defaults, after_defaults, template_opened}

-- ---- lists of names, of entries and of slots

enumerators_told : (xs ys : List (List ℕ)) (r s : List ℕ) → length xs < 2 ^ 16 → length ys < 2 ^ 16 → All IsName xs → All IsName ys
    → enumerators_text xs ++ r ≡ enumerators_text ys ++ s → (xs ≡ ys) × (r ≡ s)
unfolding enumerators_text
enumerators_told xs ys r s few few_too one other e =
    let (count, a) = list_told Enumerators (length xs) (length ys) (flat_map enumerator_text xs) (flat_map enumerator_text ys) r s
    (omega (arith, few)) (omega (arith, few_too)) e in
    let (same, left) = cancel_items IsName enumerator_text enumerator_told xs ys (list_end ++ r) (list_end ++ s) one other count a in
    (same, cancel_front list_end r s left)

descriptors_told : (xs ys : List Descriptor) (r s : List ℕ) → length xs < 2 ^ 16 → length ys < 2 ^ 16 → All IsShownDescriptor xs
    → All IsShownDescriptor ys → descriptors_text xs ++ r ≡ descriptors_text ys ++ s → (xs ≡ ys) × (r ≡ s)
unfolding descriptors_text
descriptors_told xs ys r s few few_too one other e =
    let (count, a) = list_told Descriptors (length xs) (length ys) (flat_map descriptor_text xs) (flat_map descriptor_text ys) r s
    (omega (arith, few)) (omega (arith, few_too)) e in
    let (same, left) = cancel_items IsShownDescriptor descriptor_text descriptor_told xs ys (list_end ++ r)
    (list_end ++ s) one other count a in
    (same, cancel_front list_end r s left)

slots_passed : (xs ys : List (Option ℕ)) (r s : List ℕ) → length xs < 2 ^ 64 → length ys < 2 ^ 64 → slots_text xs ++ r ≡ slots_text ys ++ s
    → r ≡ s
unfolding slots_text
slots_passed xs ys r s few few_too e =
    let (count, a) = list_told SettingSlots (length xs) (length ys) (flat_map slot_text xs) (flat_map slot_text ys) r s few few_too e in
    let lines = ap (λ w. w ++ (list_end ++ r)) (flat_map-map (λ line. line) slot_text xs) ∙ a
    ∙ ap (λ w. w ++ (list_end ++ s)) (sym (flat_map-map (λ line. line) slot_text ys)) in
    cancel_front list_end r s (cancel_lines (map slot_text xs) (map slot_text ys) (list_end ++ r) (list_end ++ s) (slots_are_lines xs)
    (slots_are_lines ys) (length-map xs slot_text ∙ count ∙ sym (length-map ys slot_text)) lines)

-- ---- presets

-- a byte is the sum of its bits
bits : (n : ℕ) → n < 256 → 16 * (8 * (n / 128 % 2) + 4 * (n / 64 % 2) + 2 * (n / 32 % 2) + n / 16 % 2)
    + (8 * (n / 8 % 2) + 4 * (n / 4 % 2) + 2 * (n / 2 % 2) + n / 1 % 2) ≡ n
bits n small = omega (arith, small)

bit_told : (m n : ℕ) → digit_glyph false (m % 2) ≡ digit_glyph false (n % 2) → m % 2 ≡ n % 2
bit_told m n e = glyph_told (m % 2) (n % 2) (omega arith) (omega arith) e

pairs_same : (m n : ℕ) (r s : List ℕ) → IsByte m → IsByte n → pair_text m ++ r ≡ pair_text n ++ s → m ≡ n
unfolding pair_text binary_text
pairs_same m n r s small_m small_n e =
    let a = bit_told (m / 128) (n / 128) (ap (λ t. slice_index t 7) e) in
    let b = bit_told (m / 64) (n / 64) (ap (λ t. slice_index t 8) e) in
    let c = bit_told (m / 32) (n / 32) (ap (λ t. slice_index t 9) e) in
    let d = bit_told (m / 16) (n / 16) (ap (λ t. slice_index t 10) e) in
    let f = bit_told (m / 8) (n / 8) (ap (λ t. slice_index t 11) e) in
    let g = bit_told (m / 4) (n / 4) (ap (λ t. slice_index t 12) e) in
    let h = bit_told (m / 2) (n / 2) (ap (λ t. slice_index t 13) e) in
    let j = bit_told (m / 1) (n / 1) (ap (λ t. slice_index t 14) e) in
    sym (bits m small_m) ∙ (λ i. 16 * (8 * a i + 4 * b i + 2 * c i + d i) + (8 * f i + 4 * g i + 2 * h i + j i)) ∙ bits n small_n

pair_told : (m n : ℕ) (r s : List ℕ) → IsByte m → IsByte n → pair_text m ++ r ≡ pair_text n ++ s → (m ≡ n) × (r ≡ s)
pair_told m n r s small_m small_n e = let same = pairs_same m n r s small_m small_n e
    in (same, cancel_front (pair_text n) r s (ap (λ k. pair_text k ++ r) (sym same) ∙ e))

-- all presets, with the same count of masks each
masks_told : (booleans ds : List Descriptor) (size : ℕ) (ms ns r s : List ℕ) → All IsShownDescriptor booleans → All IsShownDescriptor ds
    → All (AreShownMasksOf size ms) ds → All (AreShownMasksOf size ns) ds
    → flat_map (preset_text booleans size ms) ds ++ r ≡ flat_map (preset_text booleans size ns) ds ++ s
    → (flat_map (λ (d : Descriptor). masks_from size ms d.offset) ds ≡ flat_map (λ (d : Descriptor). masks_from size ns d.offset) ds)
    × (r ≡ s)
masks_told booleans [] size ms ns r s all shown one other e = (refl, e)
masks_told booleans (d ∷ ds) size ms ns r s all shown one other e =
    let text = preset_text booleans size ms in
    let text_too = preset_text booleans size ns in
    let mine = masks_from size ms d.offset in
    let its = masks_from size ns d.offset in
    let is = all_first IsShownDescriptor d ds shown in
    let have = all_first (AreShownMasksOf size ms) d ds one in
    let have_too = all_first (AreShownMasksOf size ns) d ds other in
    let after = flat_map text ds ++ r in
    let after_too = flat_map text_too ds ++ s in
    let comment = comment_text d.name (texts_with_commas (names_on booleans mine)) in
    let comment_too = comment_text d.name (texts_with_commas (names_on booleans its)) in
    let parted = sym (append_assoc (text d) (flat_map text ds) r ∙ preset_parts booleans size ms d after) ∙ e
    ∙ append_assoc (text_too d) (flat_map text_too ds) s ∙ preset_parts booleans size ns d after_too in
    let (here, a) = cancel_items IsByte pair_text pair_told mine its (comment ++ after)
    (comment_too ++ after_too) have.bytes have_too.bytes (have.count ∙ sym have_too.count) parted in
    let b = cancel_line comment comment_too after after_too (comment_is_line booleans mine d all is)
    (comment_is_line booleans its d all is) a in
    let (more, left) = masks_told booleans ds size ms ns r s all (all_after IsShownDescriptor d ds shown)
    (all_after (AreShownMasksOf size ms) d ds one) (all_after (AreShownMasksOf size ns) d ds other) b in
    ((λ i. here i ++ more i), left)

presets_told : (ds : List Descriptor) (size other_size : ℕ) (ms ns r s : List ℕ) → All IsShownDescriptor ds → AreShownPresets ds size ms
    → AreShownPresets ds other_size ns
    → presets_text ds size ms ++ r ≡ presets_text ds other_size ns ++ s → (ms ≡ ns) × (r ≡ s)
unfolding presets_text
presets_told ds size other_size ms ns r s shown one other e =
    let ps = presets_in ds in
    let (count, a) = list_told Presets (length ps * size) (length ps * other_size) (flat_map (preset_text ds size ms) ps)
    (flat_map (preset_text ds other_size ns) ps) r s one.few other.few e in
    let shown_ps = All-filter (λ (d : Descriptor). is_preset d.detail) IsShownDescriptor ds shown in
    let cases = size_cases ps size other_size (λ some. sym (mul-div_cancel_left other_size some) ∙ ap (λ n. n / length ps) (sym count)
    ∙ mul-div_cancel_left size some) in
    ⊎_elim
    (λ same.
    let each = subst (λ n. All (AreShownMasksOf n ns) ps) same other.each in
    let (masks, left) = masks_told ds ps size ms ns (list_end ++ r) (list_end ++ s) shown shown_ps one.each each (a
    ∙ ap (λ n. flat_map (preset_text ds n ns) ps ++ (list_end ++ s)) same) in (
      sym one.joined ∙ masks ∙ ap (λ n. flat_map (λ (d : Descriptor). masks_from n ns d.offset) ps) (sym same)
          ∙ other.joined,
      cancel_front list_end r s left,
    ))
    (λ none.
    let masks = sym one.joined ∙ ap (flat_map (λ (d : Descriptor). masks_from size ms d.offset)) none
    ∙ sym (ap (flat_map (λ (d : Descriptor). masks_from other_size ns d.offset)) none) ∙ other.joined in
    let left = sym (ap (λ es. flat_map (preset_text ds size ms) es ++ (list_end ++ r)) none) ∙ a
    ∙ ap (λ es. flat_map (preset_text ds other_size ns) es ++ (list_end ++ s)) none in
    (masks, cancel_front list_end r s left))
    cases

-- ---- default bytes

bytes_told : (bs cs : List ℕ) → All IsByte bs → All IsByte cs → bytes_text bs ≡ bytes_text cs → bs ≡ cs
bytes_told [] [] one other e = refl
bytes_told [] (c ∷ cs) one other e = absurd (cc)
bytes_told (b ∷ bs) [] one other e = absurd (cc)
bytes_told (b ∷ bs) (c ∷ cs) one other e =
    let (here, left) = hex_told b c (comma_after bs) (comma_after cs) (all_first IsByte b bs one) (all_first IsByte c cs other)
    (cancel_front (codes "0x") _ _ e) in
    let more = bytes_told bs cs (all_after IsByte b bs one) (all_after IsByte c cs other) (sym (without_comma bs) ∙ ap (drop 2) left
    ∙ without_comma cs) in
    (λ i. here i ∷ more i)

defaults_told : (m n bs cs r s : List ℕ) → IsName m → IsName n → All IsByte bs → All IsByte cs
    → template_text m (bytes_text bs) ++ r ≡ template_text n (bytes_text cs) ++ s → (bs ≡ cs) × (r ≡ s)
defaults_told m n bs cs r s is_m is_n one other e =
    let a = cancel_lines (template_lines m) (template_lines n) (before_defaults ++ (bytes_text bs ++ (after_defaults ++ r)))
    (before_defaults ++ (bytes_text cs ++ (after_defaults ++ s))) (template_lines_are m is_m) (template_lines_are n is_n) refl
    (sym (template_opened m (bytes_text bs) r) ∙ e ∙ template_opened n (bytes_text cs) s) in
    let (same, left) = cancel_item 93 (bytes_text bs) (bytes_text cs) (after_defaults ++ r) (after_defaults ++ s) (bytes_lack bs one)
    (bytes_lack cs other) refl refl (cancel_front before_defaults _ _ a) in
    (bytes_told bs cs one other same, cancel_front after_defaults r s left)

-- ---- groups

-- the same parts, but for the slots
pub record SameGroup (g h : GroupContents) : Type 0 where
  pub name : g.name ≡ h.name
  pub descriptors : g.descriptors ≡ h.descriptors
  pub enumerators : g.enumerators ≡ h.enumerators
  pub defaults : g.defaults ≡ h.defaults
  pub preset_masks : g.preset_masks ≡ h.preset_masks

regroup : (a b c d e f g : List ℕ) → (a ++ (b ++ (c ++ (d ++ (e ++ f))))) ++ g ≡ a ++ (b ++ (c ++ (d ++ (e ++ (f ++ g)))))
regroup a b c d e f g = simp append_assoc

-- the text of a group, and then the rest
abbrev pub at_template : GroupContents → List ℕ → List ℕ
at_template g rest = template_text g.name (bytes_text g.defaults) ++ rest

abbrev pub at_presets : GroupContents → List ℕ → List ℕ
at_presets g rest = presets_text g.descriptors (length g.defaults) g.preset_masks ++ at_template g rest

abbrev pub at_slots : GroupContents → List ℕ → List ℕ
at_slots g rest = slots_text g.slots ++ at_presets g rest

abbrev pub at_descriptors : GroupContents → List ℕ → List ℕ
at_descriptors g rest = descriptors_text g.descriptors ++ at_slots g rest

abbrev pub at_enumerators : GroupContents → List ℕ → List ℕ
at_enumerators g rest = enumerators_text g.enumerators ++ at_descriptors g rest

abbrev pub before_group : List ℕ
before_group = codes "// Settings group "

pub group_opened : (g : GroupContents) (rest : List ℕ) → group_text g ++ rest
    ≡ before_group ++ (g.name ++ (codes ".\n" ++ at_enumerators g rest))
unfolding group_text head_text
group_opened g rest =
    regroup (head_text g.name) (enumerators_text g.enumerators) (descriptors_text g.descriptors) (slots_text g.slots)
    (presets_text g.descriptors (length g.defaults) g.preset_masks) (template_text g.name (bytes_text g.defaults)) rest
    ∙ ap (λ (w : List ℕ). before_group ++ w) (append_assoc g.name (codes ".\n") (at_enumerators g rest))

pub group_told : (g h : GroupContents) (r s : List ℕ) → AreShownGroup g → AreShownGroup h → group_text g ++ r ≡ group_text h ++ s
    → SameGroup g h × (r ≡ s)
group_told g h r s one other e =
    let (name, a) = cancel_item 46 g.name h.name (codes ".\n" ++ at_enumerators g r) (codes ".\n" ++ at_enumerators h s)
    (name_lacks_dot g.name one.name) (name_lacks_dot h.name other.name) refl refl
    (cancel_front before_group _ _ (sym (group_opened g r) ∙ e ∙ group_opened h s)) in
    let (enumerators, b) = enumerators_told g.enumerators h.enumerators (at_descriptors g r)
    (at_descriptors h s) one.few_enumerators other.few_enumerators one.enumerators other.enumerators (cancel_front (codes ".\n") _ _ a)
    in
    let (descriptors, c) = descriptors_told g.descriptors h.descriptors (at_slots g r)
    (at_slots h s) one.few_entries other.few_entries one.descriptors other.descriptors b in
    let d = slots_passed g.slots h.slots (at_presets g r) (at_presets h s) one.few_slots other.few_slots c in
    let there = subst (λ ds. AreShownPresets ds (length h.defaults) h.preset_masks) (sym descriptors) other.presets in
    let (masks, f) = presets_told g.descriptors (length g.defaults) (length h.defaults) g.preset_masks h.preset_masks (at_template g r)
    (at_template h s) one.descriptors one.presets there (d
    ∙ ap (λ ds. presets_text ds (length h.defaults) h.preset_masks ++ at_template h s) (sym descriptors)) in
    let (defaults, left) = defaults_told g.name h.name g.defaults h.defaults r s one.name other.name one.defaults other.defaults f in
    (record { name = name; descriptors = descriptors; enumerators = enumerators; defaults = defaults; preset_masks = masks }, left)

pub group_some : (g : GroupContents) → 1 ≤ length (group_text g)
unfolding group_text head_text
group_some g = omega arith

no_group : (g : GroupContents) (rest : List ℕ) → [] ≡ group_text g ++ rest → ⊥
no_group g rest e = let some = group_some g in let both = length-append (group_text g) rest in let none = ap length e
    in omega (arith, some, both, none)

pub groups_told : (gs hs : List GroupContents) → All AreShownGroup gs → All AreShownGroup hs
    → flat_map group_text gs ≡ flat_map group_text hs → AllZip SameGroup gs hs
groups_told [] [] one other e = tt
groups_told [] (h ∷ hs) one other e = absurd (no_group h (flat_map group_text hs) e)
groups_told (g ∷ gs) [] one other e = absurd (no_group g (flat_map group_text gs) (sym e))
groups_told (g ∷ gs) (h ∷ hs) one other e =
    let (here, left) = group_told g h (flat_map group_text gs) (flat_map group_text hs) (all_first AreShownGroup g gs one)
    (all_first AreShownGroup h hs other) e in
    (here, groups_told gs hs (all_after AreShownGroup g gs one) (all_after AreShownGroup h hs other) left)
