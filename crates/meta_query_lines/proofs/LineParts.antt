-- The making of the line of a setting from the tables.
use Rattle.std.proofs.Common.{◌≡◌, ℕ, ◌==◌, false, List, [], ◌∷◌, ◌++◌, append-nil, length, map, slice_get, get_or, Option, None, Some, Bor}
use Rattle.std.proofs.Common.{refl, sym, ap, ◌∙◌, subst, unwrap_or}
use Rattle.std.specs.List.{join_by, join_with_byte, flat_map}
use Rattle.std.specs.Option.{option_map}
use Rattle.std.specs.Int.{bit_at}
use Rattle.std.proofs.lemmas.Option.{slice_get-map, same_Some}
use Rattle.meta_setting_tables.specs.declared.descriptor.Detail.TheVariants.{Bool as BoolDetail, Enum as EnumDetail, Num as NumDetail}
use Rattle.meta_setting_tables.specs.declared.descriptor.Detail.TheVariants.{Preset}
use Rattle.meta_setting_tables.specs.declared.descriptor.Descriptor.{Descriptor}
use Rattle.meta_setting_tables.specs.EntryValues.{values_in, masks_from, names_on}
use Rattle.meta_setting_tables.specs.FoundSetting.{FindsEntry}
use Rattle.meta_setting_tables.specs.GroupTables.{GroupContents, names_in, default_in}
use Rattle.meta_gen.specs.WholeTables.{WholeTables}
use Rattle.meta_query_lines.specs.SettingLine.{BoolFacts, NumFacts, EnumFacts, PresetFacts, line_of_facts, list_of_names, facts_in, line_in}
use Rattle.meta_query_lines.specs.Answer.{IsLineInTables, SettingReply}
use Rattle.meta_gen.specs.declared.reply.Reply.TheVariants.{Unknown}

-- ---- lists of names

-- texts with a comma before each but the first are texts parted by commas
commas : (name : Bor (List ℕ)) (names : List (Bor (List ℕ)))
    → name.now ++ flat_map (λ (n : Bor (List ℕ)). 44 ∷ n.now) names ≡ join_with_byte 44 (map (λ (n : Bor (List ℕ)). n.now) (name ∷ names))
commas name [] = append-nil name.now
commas name (next ∷ names) = ap (λ t. name.now ++ 44 ∷ t) (commas next names)

-- so some names are listed
pub names_listed : (names : List (Bor (List ℕ))) (text : List ℕ) → false ≡ (length names == 0)
    → text ≡ join_by (λ (n : Bor (List ℕ)). n.now) (44 ∷ []) names → text ≡ list_of_names (map (λ (n : Bor (List ℕ)). n.now) names)
names_listed [] text some e = absurd (cc)
names_listed (name ∷ names) text some e = e ∙ commas name names

-- ---- the lines of the kinds of entries

module _ (g : GroupContents) (d : Descriptor) where
  module _ (r : Option ℕ) (default : ℕ) (answered : r ≡ default_in (get_or g.defaults d.offset 0) d.detail)
      (is : default ≡ unwrap_or r 0) where
    pub bool_line : (bit : ℕ) → d.detail ≡ BoolDetail bit → line_of_facts d.name (BoolFacts d.offset bit (default == 1)) ≡ line_in g d
    bool_line bit detail =
        let own : default ≡ bit_at (get_or g.defaults d.offset 0) bit = is
        ∙ ap (λ o. unwrap_or o 0) (answered ∙ ap (default_in (get_or g.defaults d.offset 0)) detail) in
        ap (λ n. line_of_facts d.name (BoolFacts d.offset bit (n == 1))) own
        ∙ ap (λ e. line_of_facts d.name (facts_in g d.offset e)) (sym detail)

    pub num_line : d.detail ≡ NumDetail → line_of_facts d.name (NumFacts d.offset default) ≡ line_in g d
    num_line detail =
        let own : default ≡ get_or g.defaults d.offset 0 = is
        ∙ ap (λ o. unwrap_or o 0) (answered ∙ ap (default_in (get_or g.defaults d.offset 0)) detail) in
        ap (λ n. line_of_facts d.name (NumFacts d.offset n)) own ∙ ap (λ e. line_of_facts d.name (facts_in g d.offset e)) (sym detail)

  pub enum_line : (last place : ℕ) (values : List (List ℕ)) → d.detail ≡ EnumDetail last place
      → values ≡ values_in g.enumerators d.detail → line_of_facts d.name (EnumFacts d.offset values) ≡ line_in g d
  enum_line last place values detail is =
      ap (λ vs. line_of_facts d.name (EnumFacts d.offset vs)) (is ∙ ap (values_in g.enumerators) detail)
      ∙ ap (λ e. line_of_facts d.name (facts_in g d.offset e)) (sym detail)

  pub preset_line_in : (names : List (List ℕ)) → d.detail ≡ Preset
      → names ≡ names_on g.descriptors (masks_from (length g.defaults) g.preset_masks d.offset)
      → line_of_facts d.name (PresetFacts names) ≡ line_in g d
  preset_line_in names detail is = ap (λ n. line_of_facts d.name (PresetFacts n)) is
      ∙ ap (λ e. line_of_facts d.name (facts_in g d.offset e)) (sym detail)

-- ---- the entry that has the name

module _ (tables : WholeTables) (name : List ℕ) (g : GroupContents) (at : slice_get tables.groups 0 ≡ Some g) where
  module _ (number : ℕ) (finds : FindsEntry (names_in g.descriptors) name (Some number)) where
    -- its line, which was added, is that in the tables
    pub line_added : (d : Descriptor) (old new : List ℕ) → slice_get g.descriptors number ≡ Some d
        → new ≡ old ++ line_in g d → (line : List ℕ) × IsLineInTables tables name line × (new ≡ old ++ line)
    line_added d old new there is =
        (line_in g d, record { group = g; group_is = at; entry = number; named = finds; descriptor = d; there = there; line_is = refl }, is)

    -- it has a descriptor
    pub has_descriptor : slice_get g.descriptors number ≡ None → ⊥
    has_descriptor none =
        let named = finds.holds in
        let missing : None ≡ slice_get (names_in g.descriptors) number =
        ap (option_map (λ (d : Descriptor). d.name)) (sym none) ∙ sym (slice_get-map (λ (d : Descriptor). d.name) g.descriptors number) in
        absurd (cc)

  -- where nothing is found, no entry of the first group has the name
  pub unknown : FindsEntry (names_in g.descriptors) name None → SettingReply tables name Unknown
  unknown none = λ h h_at e named. none e
      (subst (λ (x : GroupContents). slice_get (names_in x.descriptors) e ≡ Some name) (same_Some h g (sym h_at ∙ at)) named)

-- if there is no group, no entry has the name
pub unknown_without : (tables : WholeTables) (name : List ℕ) → slice_get tables.groups 0 ≡ None → SettingReply tables name Unknown
unknown_without tables name none = λ h h_at. let bad : None ≡ Some h = sym none ∙ h_at in absurd (cc)
