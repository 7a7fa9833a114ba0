-- Texts of an item, where all are UTF-8.
use Rattle.std.proofs.Common.{◌≡◌, ◌∙◌, ℕ, List, [], ◌∷◌, ◌++◌, true, sym, ap, subst}
use Rattle.std.specs.Str.{is_utf8}
use Rattle.std.proofs.lemmas.Bool.{and_parts}
use Rattle.std.proofs.lemmas.List.Folds.{list_all-append}
use Rattle.std.proofs.lemmas.List.Concat.{flat_map-cons}
use Rattle.meta_file_syntax.specs.declared.kinds.EnumValue.{EnumValue}
use Rattle.meta_file_syntax.specs.declared.kinds.Sort.{Sort}
use Rattle.meta_file_syntax.specs.declared.kinds.Sort.TheVariants as sorts
use Rattle.meta_file_syntax.specs.declared.types.TypeItem.{TypeItem}
use Rattle.meta_file_syntax.specs.declared.kinds.KindItem.{KindItem}
use Rattle.meta_file_syntax.specs.Named.{name_bytes}
use Rattle.meta_file_types.specs.Texts.{are_texts, shown_or, field_or, value_texts, sort_texts, type_texts, kind_texts}

-- the first text, and the others
pub first_text : (t : List ℕ) (more : List (List ℕ)) → are_texts (t ∷ more) ≡ true → (is_utf8 t ≡ true) × (are_texts more ≡ true)
first_text t more h = and_parts (is_utf8 t) (are_texts more) h

-- the texts of both lists
pub both_texts : (xs ys : List (List ℕ)) → are_texts (xs ++ ys) ≡ true → (are_texts xs ≡ true) × (are_texts ys ≡ true)
both_texts xs ys h = and_parts (are_texts xs) (are_texts ys) (sym (list_all-append is_utf8 xs ys) ∙ h)

-- ---- a type

shown_texts : (i : TypeItem) → are_texts (type_texts i) ≡ true → are_texts (shown_or i.word i.shown ∷ i.docs) ≡ true
shown_texts i h = (first_text i.word (shown_or i.word i.shown ∷ i.docs) h).1

pub type_shown : (i : TypeItem) → are_texts (type_texts i) ≡ true → is_utf8 (shown_or i.word i.shown) ≡ true
type_shown i h = (first_text (shown_or i.word i.shown) i.docs (shown_texts i h)).0

pub type_docs : (i : TypeItem) → are_texts (type_texts i) ≡ true → are_texts i.docs ≡ true
type_docs i h = (first_text (shown_or i.word i.shown) i.docs (shown_texts i h)).1

-- ---- a kind

after_word : (i : KindItem) → are_texts (kind_texts i) ≡ true
    → are_texts (i.rust ∷ (field_or i.word i.field ∷ (i.docs ++ sort_texts i.sort))) ≡ true
after_word i h = (first_text i.word (i.rust ∷ (field_or i.word i.field ∷ (i.docs ++ sort_texts i.sort))) h).1

pub kind_rust : (i : KindItem) → are_texts (kind_texts i) ≡ true → is_utf8 i.rust ≡ true
kind_rust i h = (first_text i.rust (field_or i.word i.field ∷ (i.docs ++ sort_texts i.sort)) (after_word i h)).0

after_rust : (i : KindItem) → are_texts (kind_texts i) ≡ true
    → are_texts (field_or i.word i.field ∷ (i.docs ++ sort_texts i.sort)) ≡ true
after_rust i h = (first_text i.rust (field_or i.word i.field ∷ (i.docs ++ sort_texts i.sort)) (after_word i h)).1

pub kind_field : (i : KindItem) → are_texts (kind_texts i) ≡ true → is_utf8 (field_or i.word i.field) ≡ true
kind_field i h = (first_text (field_or i.word i.field) (i.docs ++ sort_texts i.sort) (after_rust i h)).0

after_field : (i : KindItem) → are_texts (kind_texts i) ≡ true → are_texts (i.docs ++ sort_texts i.sort) ≡ true
after_field i h = (first_text (field_or i.word i.field) (i.docs ++ sort_texts i.sort) (after_rust i h)).1

pub kind_docs : (i : KindItem) → are_texts (kind_texts i) ≡ true → are_texts i.docs ≡ true
kind_docs i h = (both_texts i.docs (sort_texts i.sort) (after_field i h)).0

pub kind_sort : (i : KindItem) → are_texts (kind_texts i) ≡ true → are_texts (sort_texts i.sort) ≡ true
kind_sort i h = (both_texts i.docs (sort_texts i.sort) (after_field i h)).1

-- ---- the values of an enum

pub sort_values : (sort : Sort) (values : List EnumValue) → sort ≡ sorts.ImmEnum values → are_texts (sort_texts sort) ≡ true
    → are_texts (value_texts values) ≡ true
sort_values sort values e h = ap (λ (s : Sort). are_texts (sort_texts s)) (sym e) ∙ h

value_parts : (v : EnumValue) (more : List EnumValue) → are_texts (value_texts (v ∷ more)) ≡ true
    → (are_texts (name_bytes v.name ∷ name_bytes v.rust ∷ []) ≡ true) × (are_texts (value_texts more) ≡ true)
value_parts v more h =
    both_texts (name_bytes v.name ∷ name_bytes v.rust ∷ []) (value_texts more)
    (ap are_texts (sym (flat_map-cons (λ (w : EnumValue). name_bytes w.name ∷ name_bytes w.rust ∷ []) v more)) ∙ h)

pub value_name : (v : EnumValue) (more : List EnumValue) → are_texts (value_texts (v ∷ more)) ≡ true → is_utf8 (name_bytes v.name) ≡ true
value_name v more h = (first_text (name_bytes v.name) (name_bytes v.rust ∷ []) (value_parts v more h).0).0

pub value_rust : (v : EnumValue) (more : List EnumValue) → are_texts (value_texts (v ∷ more)) ≡ true → is_utf8 (name_bytes v.rust) ≡ true
value_rust v more h =
    (first_text (name_bytes v.rust) [] (first_text (name_bytes v.name) (name_bytes v.rust ∷ []) (value_parts v more h).0).1).0

pub values_after : (v : EnumValue) (more : List EnumValue) → are_texts (value_texts (v ∷ more)) ≡ true
    → are_texts (value_texts more) ≡ true
values_after v more h = (value_parts v more h).1
