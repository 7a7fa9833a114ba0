-- Lines in the text of a group of settings.
use Rattle.std.proofs.Common.{◌≡◌, ℕ, Bool, true, IsTrue, List, [], ◌∷◌, ◌++◌, All, map, filter, get_or, Option, None, Some, codes}
use Rattle.std.proofs.Common.{append_assoc, refl}
use Rattle.std.specs.List.{flat_map}
use Rattle.std.specs.Fmt.{decimal}
use Rattle.std.proofs.lemmas.List.Elements.{All-map, All-filter, All-weaker}
use Rattle.meta_setting_tables.specs.declared.descriptor.Descriptor.{Descriptor}
use Rattle.meta_table_text.specs.GroupItems.{slot_text, pair_text, texts_with_commas, comment_text}
use Rattle.meta_setting_tables.specs.EntryValues.{is_on, names_on, masks_from}
use Rattle.meta_table_text.specs.GroupText.{preset_text}
use Rattle.meta_table_reader.specs.Spans.{is_line}
use Rattle.meta_table_reader.proofs.Lacking.{both_lack, line_after, any_number_lacks}
use Rattle.meta_table_reader.proofs.ItemsRead.{all_first, all_after}
use Rattle.meta_table_reader.specs.ShownGroup.{IsShownDescriptor}
use Rattle.meta_table_reader.proofs.SetLines.{HasNoEnd}
use Rattle.meta_table_reader.proofs.NameBytes.{name_lacks_end}

-- ---- slots

slot_is_line : (slot : Option ℕ) → is_line (slot_text slot) ≡ true
unfolding slot_text
slot_is_line None = refl
slot_is_line (Some number) = line_after (decimal number) (codes "," ++ 10 ∷ []) (any_number_lacks 10 refl number) refl

pub slots_are_lines : (slots : List (Option ℕ)) → All (λ line. IsTrue (is_line line)) (map slot_text slots)
slots_are_lines slots = All-map (λ line. IsTrue (is_line line)) slot_text slots (λ k d within. slot_is_line (get_or slots k d))

-- ---- the comment of a preset

after_comma_lack : (names : List (List ℕ)) → All HasNoEnd names → HasNoEnd (flat_map (λ name. codes ", " ++ name) names)
after_comma_lack [] all = refl
after_comma_lack (name ∷ names) all =
    both_lack 10 (codes ", " ++ name) (flat_map (λ name. codes ", " ++ name) names) (all_first HasNoEnd name names all)
    (after_comma_lack names (all_after HasNoEnd name names all))

names_lack : (names : List (List ℕ)) → All HasNoEnd names → HasNoEnd (texts_with_commas names)
names_lack [] all = refl
names_lack (name ∷ names) all = both_lack 10 name (flat_map (λ name. codes ", " ++ name) names) (all_first HasNoEnd name names all)
    (after_comma_lack names (all_after HasNoEnd name names all))

pub comment_is_line : (booleans : List Descriptor) (masks : List ℕ) (d : Descriptor) → All IsShownDescriptor booleans → IsShownDescriptor d
    → is_line (comment_text d.name (texts_with_commas (names_on booleans masks))) ≡ true
unfolding comment_text
comment_is_line booleans masks d all shown =
    let on : Descriptor → Bool = λ b. is_on masks b.offset b.detail in
    let free = All-weaker IsShownDescriptor (λ (b : Descriptor). HasNoEnd b.name) (λ b is. name_lacks_end b.name is.name) booleans all in
    let names = names_lack (names_on booleans masks) (All-map HasNoEnd (λ (b : Descriptor). b.name) (filter on booleans)
    (All-filter on (λ (b : Descriptor). HasNoEnd b.name) booleans free)) in
    line_after d.name (codes ": " ++ (texts_with_commas (names_on booleans masks) ++ 10 ∷ [])) (name_lacks_end d.name shown.name)
    (line_after (texts_with_commas (names_on booleans masks)) (10 ∷ []) names refl)

-- the lines of a preset, and then the rest
pub preset_parts : (booleans : List Descriptor) (size : ℕ) (ms : List ℕ) (d : Descriptor) (rest : List ℕ)
    → preset_text booleans size ms d ++ rest ≡ flat_map pair_text (masks_from size ms d.offset)
    ++ (comment_text d.name (texts_with_commas (names_on booleans (masks_from size ms d.offset))) ++ rest)
unfolding preset_text
preset_parts booleans size ms d rest =
    append_assoc (flat_map pair_text (masks_from size ms d.offset))
    (comment_text d.name (texts_with_commas (names_on booleans (masks_from size ms d.offset)))) rest
