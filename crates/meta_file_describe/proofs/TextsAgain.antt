-- The texts of items that are made of groups are UTF-8.
use Rattle.std.proofs.Common.{◌≡◌, ℕ, ◌+◌, ◌<◌, Bool, true, List, [], ◌∷◌, ◌++◌, All, Some, length, map, slice_get}
use Rattle.std.proofs.Common.{refl, sym, ap, ◌∙◌, subst}
use Rattle.std.specs.Prelude.{◌&&◌}
use Rattle.std.specs.Str.{IsUtf8, is_utf8}
use Rattle.std.proofs.lemmas.List.Elements.{All-cons, All-nil, All-head, All-tail}
use Rattle.std.proofs.lemmas.List.Folds.{list_all-append}
use Rattle.std.proofs.lemmas.Str.{is_utf8-from_IsUtf8}
use Rattle.meta_lists.proofs.Everywhere.{at_place}
use Rattle.meta_lists.proofs.Places.{get_there, get_drop}
use Rattle.meta_types.specs.Name.{IsName}
use Rattle.meta_file_syntax.specs.Named.{name_bytes}
use Rattle.meta_settings.specs.declared.setting.SpecificSetting.{SpecificSetting}
use Rattle.meta_settings.specs.declared.setting.SpecificSetting.TheVariants as specific
use Rattle.meta_settings.specs.GroupFaults.{IsPlainByte}
use Rattle.meta_settings.specs.Layout.{PlacedSetting, BuiltPreset, Layout, booleans_in}
use Rattle.meta_settings.specs.PresetLayout.{boolean_name, names_turned_on}
use Rattle.meta_file_types.specs.Texts.{are_texts}
use Rattle.meta_file_declare.specs.Texts.{text_of, names_in, item_texts}
use Rattle.meta_file_describe.specs.Wording.{name_for, doc_lines}
use Rattle.meta_file_describe.specs.SettingItems.{comment_for, item_as, item_of_preset}
use Rattle.meta_file_describe.proofs.Sayable.{values_in, IsSayableSetting, IsSayablePreset, IsSayable}
use Rattle.meta_file_describe.proofs.Wording.{name_said}
use Rattle.meta_file_describe.proofs.PlainTexts.{names_said, plain_lines, name_utf8, plain_utf8}
use Rattle.meta_file_describe.proofs.NamesMeant.{name_is}
use Rattle.meta_file_describe.proofs.GroupsAgain.{comment_again}

-- ---- texts

text_more : (t : List ℕ) (ts : List (List ℕ)) → IsUtf8 t → are_texts ts ≡ true → are_texts (t ∷ ts) ≡ true
text_more t ts u h = ap (λ (b : Bool). b && are_texts ts) (is_utf8-from_IsUtf8 t u) ∙ h

texts_joined : (xs ys : List (List ℕ)) → are_texts xs ≡ true → are_texts ys ≡ true → are_texts (xs ++ ys) ≡ true
texts_joined xs ys h k = list_all-append is_utf8 xs ys ∙ ap (λ (b : Bool). b && are_texts ys) h ∙ k

-- a name
name_is_text : (w : List ℕ) → IsName w → IsUtf8 (name_bytes (name_for w))
name_is_text w h = subst IsUtf8 (sym (name_said w)) (name_utf8 w h)

pub name_alone : (w : List ℕ) → IsName w → are_texts (name_bytes (name_for w) ∷ []) ≡ true
name_alone w h = text_more (name_bytes (name_for w)) [] (name_is_text w h) refl

-- names
names_are_texts : (ws : List (List ℕ)) → All IsName ws → are_texts ws ≡ true
names_are_texts [] h = refl
names_are_texts (w ∷ ws) h =
    text_more w ws (name_utf8 w (All-head IsName w ws h)) (names_are_texts ws (All-tail IsName w ws h))

names_texts : (ws : List (List ℕ)) → All IsName ws → are_texts (names_in (map name_for ws)) ≡ true
names_texts ws h = ap are_texts (names_said ws) ∙ names_are_texts ws h

-- documentation
doc_texts : (t : List ℕ) → All IsPlainByte t → are_texts (doc_lines t) ≡ true
doc_texts [] h = refl
doc_texts (c ∷ cs) h = ap are_texts (plain_lines (c ∷ cs) h) ∙ text_more (c ∷ cs) [] (plain_utf8 (c ∷ cs) h) refl

-- ---- those of a setting

-- its name and its comment, and others after them
texts_after : (s : PlacedSetting) → IsSayableSetting s → (ts : List (List ℕ)) → are_texts ts ≡ true
    → are_texts (name_bytes (name_for s.name) ∷ (text_of (comment_for s.comment) ∷ ts)) ≡ true
texts_after s h ts k =
    text_more (name_bytes (name_for s.name)) (text_of (comment_for s.comment) ∷ ts) (name_is_text s.name h.name)
    (text_more (text_of (comment_for s.comment)) ts (subst IsUtf8 (sym (comment_again s.comment)) h.comment) k)

pub setting_texts : (s : PlacedSetting) (k : SpecificSetting) → IsSayableSetting s → All IsName (values_in k)
    → are_texts (item_texts (item_as s k)) ≡ true
setting_texts s (specific.Bool b) h v = texts_after s h (doc_lines s.description) (doc_texts s.description h.description)
setting_texts s (specific.Enum values) h v =
    let docs = doc_lines s.description in
    let names = names_in (map name_for values) in
    texts_after s h (docs ++ names) (texts_joined docs names (doc_texts s.description h.description) (names_texts values v))
setting_texts s (specific.Num default) h v = texts_after s h (doc_lines s.description) (doc_texts s.description h.description)

-- ---- those of a preset

module _ (g : Layout) (good : IsSayable g) where
  -- a boolean has a name
  boolean_named : (b : ℕ) → b < length (booleans_in g) → IsName (boolean_name (booleans_in g) b)
  boolean_named b l =
      let it = get_there (booleans_in g) b l in
      let n = g.bool_start_byte_offset in
      let at : slice_get g.settings (n + b) ≡ Some it.0 = sym (get_drop g.settings n b) ∙ it.1 in
      let sayable = at_place IsSayableSetting g.settings (n + b) it.0 good.settings at in
      subst IsName (sym (name_is (booleans_in g) good.apart b it.0 it.1)) sayable.name

  booleans_named : (bs : List ℕ) → All (λ b. b < length (booleans_in g)) bs → All IsName (map (boolean_name (booleans_in g)) bs)
  booleans_named [] h = All-nil IsName
  booleans_named (b ∷ bs) h =
      All-cons IsName (boolean_name (booleans_in g) b) (map (boolean_name (booleans_in g)) bs)
      (boolean_named b (All-head (λ n. n < length (booleans_in g)) b bs h))
      (booleans_named bs (All-tail (λ n. n < length (booleans_in g)) b bs h))

  pub preset_texts : (p : BuiltPreset) → IsSayablePreset (length (booleans_in g)) p → are_texts (item_texts (item_of_preset g p)) ≡ true
  preset_texts p h =
      let docs = doc_lines p.description in
      let args = names_in (map name_for (names_turned_on g p)) in
      let args_are = names_texts (names_turned_on g p) (booleans_named p.booleans h.there) in
      text_more (name_bytes (name_for p.name)) (docs ++ args) (name_is_text p.name h.name)
      (texts_joined docs args (doc_texts p.description h.description) args_are)
