-- The texts of entries and of enumerators of groups, field by field.
use Rattle.std.proofs.Common.{◌≡◌, ℕ, ◌<◌, ◌^◌, List, ◌++◌, slice_index, codes, append_assoc, refl, sym, ap, ◌∙◌, subst, arith}
use Rattle.std.specs.Fmt.{decimal}
use Rattle.meta_types.specs.Name.{IsName}
use Rattle.meta_setting_tables.specs.declared.descriptor.Detail.{Detail}
use Rattle.meta_setting_tables.specs.declared.descriptor.Detail.TheVariants.{Bool as ABool, Enum as AnEnum, Num as ANum, Preset}
use Rattle.meta_setting_tables.specs.declared.descriptor.Descriptor.{Descriptor}
use Rattle.meta_table_text.specs.GroupItems.{enumerator_text, detail_text, descriptor_block, descriptor_text}
use Rattle.meta_table_reader.proofs.Cancel.{cancel_front, cancel_item, cancel_number}
use Rattle.meta_table_reader.specs.ShownGroup.{IsShownEnum, IsShownDetail, IsShownDescriptor}
use Rattle.meta_table_reader.proofs.NameBytes.{name_lacks_quote, plain_lacks_quote}
use Rattle.meta_table_reader.proofs.Details.{first_letter, letter_is, is_bool, is_enum, is_num, is_preset}

-- ---- enumerators

pub enumerator_opened : (name rest : List ℕ) → enumerator_text name ++ rest ≡ codes "    \"" ++ (name ++ (codes "\",\n" ++ rest))
unfolding enumerator_text
enumerator_opened name rest = ap (λ (w : List ℕ). codes "    \"" ++ w) (append_assoc name (codes "\",\n") rest)

pub enumerator_told : (x y r s : List ℕ) → IsName x → IsName y → enumerator_text x ++ r ≡ enumerator_text y ++ s → (x ≡ y) × (r ≡ s)
enumerator_told x y r s is_x is_y e =
    let (same, left) = cancel_item 34 x y (codes "\",\n" ++ r) (codes "\",\n" ++ s) (name_lacks_quote x is_x)
    (name_lacks_quote y is_y) refl refl (cancel_front (codes "    \"") _ _ (sym (enumerator_opened x r) ∙ e ∙ enumerator_opened y s)) in
    (same, cancel_front (codes "\",\n") r s left)

-- ---- what an entry is

abbrev pub before_detail : List ℕ
before_detail = codes ",\n        detail: "

abbrev pub before_bit : List ℕ
before_bit = codes ",\n        detail: detail::Detail::Bool { bit: "

abbrev pub before_last : List ℕ
before_last = codes ",\n        detail: detail::Detail::Enum { last: "

abbrev pub before_enumerators : List ℕ
before_enumerators = codes ", enumerators: "

pub bool_opened : (bit : ℕ) (rest : List ℕ) → before_detail ++ (detail_text (ABool bit) ++ rest)
    ≡ before_bit ++ (decimal bit ++ (codes " }" ++ rest))
bool_opened bit rest = ap (λ (w : List ℕ). before_bit ++ w) (append_assoc (decimal bit) (codes " }") rest)

regroup : (a b c d e : List ℕ) → (a ++ (b ++ (c ++ d))) ++ e ≡ a ++ (b ++ (c ++ (d ++ e)))
regroup a b c d e = simp append_assoc

pub enum_opened : (last enumerators : ℕ) (rest : List ℕ)
    → before_detail ++ (detail_text (AnEnum last enumerators) ++ rest)
    ≡ before_last ++ (decimal last ++ (before_enumerators ++ (decimal enumerators ++ (codes " }" ++ rest))))
enum_opened last enumerators rest = ap (λ (w : List ℕ). before_last ++ w)
    (regroup (decimal last) before_enumerators (decimal enumerators) (codes " }") rest)

bool_told : (m n : ℕ) (r s : List ℕ) → m < 2 ^ 8 → n < 2 ^ 8
    → before_detail ++ (detail_text (ABool m) ++ r) ≡ before_detail ++ (detail_text (ABool n) ++ s) → (m ≡ n) × (r ≡ s)
bool_told m n r s one other e =
    let (same, left) = cancel_number 32 m n (codes " }" ++ r) (codes " }" ++ s) refl (omega (arith, one))
    (omega (arith, other)) refl refl (cancel_front before_bit _ _ (sym (bool_opened m r) ∙ e ∙ bool_opened n s)) in
    (same, cancel_front (codes " }") r s left)

enum_told : (l k m n : ℕ) (r s : List ℕ) → IsShownEnum l k → IsShownEnum m n
    → before_detail ++ (detail_text (AnEnum l k) ++ r) ≡ before_detail ++ (detail_text (AnEnum m n) ++ s) → (l ≡ m) × (k ≡ n) × (r ≡ s)
enum_told l k m n r s one other e =
    let last_one = one.last in let last_other = other.last in
    let place_one = one.enumerators in let place_other = other.enumerators in
    let (last, a) = cancel_number 44 l m (before_enumerators ++ (decimal k ++ (codes " }" ++ r)))
    (before_enumerators ++ (decimal n ++ (codes " }" ++ s))) refl (omega (arith, last_one))
    (omega (arith, last_other)) refl refl (cancel_front before_last _ _ (sym (enum_opened l k r) ∙ e ∙ enum_opened m n s)) in
    let (place, b) = cancel_number 32 k n (codes " }" ++ r) (codes " }" ++ s) refl (omega (arith, place_one))
    (omega (arith, place_other)) refl refl (cancel_front before_enumerators _ _ a) in
    (last, place, cancel_front (codes " }") r s b)

pub detail_told : (d e : Detail) (r s : List ℕ) → IsShownDetail d → IsShownDetail e
    → before_detail ++ (detail_text d ++ r) ≡ before_detail ++ (detail_text e ++ s) → (d ≡ e) × (r ≡ s)
detail_told (ABool m) d r s one other e =
    let (n, is) = is_bool d s (sym (ap (λ t. slice_index t 34) e) ∙ letter_is (ABool m) r) in
    let (same, left) = bool_told m n r s one (subst IsShownDetail is other) (e ∙ ap (λ d. before_detail ++ (detail_text d ++ s)) is) in
    (ap ABool same ∙ sym is, left)
detail_told (AnEnum l k) d r s one other e =
    let (m, n, is) = is_enum d s (sym (ap (λ t. slice_index t 34) e) ∙ letter_is (AnEnum l k) r) in
    let (last, place, left) = enum_told l k m n r s one (subst IsShownDetail is other)
    (e ∙ ap (λ d. before_detail ++ (detail_text d ++ s)) is) in
    ((λ i. AnEnum (last i) (place i)) ∙ sym is, left)
detail_told ANum d r s one other e =
    let is = is_num d s (sym (ap (λ t. slice_index t 34) e) ∙ letter_is ANum r) in
    (sym is, cancel_front (before_detail ++ detail_text ANum) r s (e ∙ ap (λ d. before_detail ++ (detail_text d ++ s)) is))
detail_told Preset d r s one other e =
    let here : first_letter d s ≡ 80 = sym (ap (λ t. slice_index t 34) e) ∙ letter_is Preset r in
    let is = is_preset d s (λ x. omega (arith, here, x)) (λ x. omega (arith, here, x)) (λ x. omega (arith, here, x)) in
    (sym is, cancel_front (before_detail ++ detail_text Preset) r s (e ∙ ap (λ d. before_detail ++ (detail_text d ++ s)) is))

-- ---- entries

abbrev pub before_name : List ℕ
before_name = codes "    detail::Descriptor {\n        name: \""

abbrev pub before_description : List ℕ
before_description = codes "\",\n        description: \""

abbrev pub before_offset : List ℕ
before_offset = codes "\",\n        offset: "

abbrev pub after_detail : List ℕ
after_detail = codes ",\n    }\n    ,\n"

abbrev pub at_detail : Descriptor → List ℕ → List ℕ
at_detail d rest = before_detail ++ (detail_text d.detail ++ (after_detail ++ rest))

abbrev pub at_offset : Descriptor → List ℕ → List ℕ
at_offset d rest = before_offset ++ (decimal d.offset ++ at_detail d rest)

abbrev pub at_description : Descriptor → List ℕ → List ℕ
at_description d rest = before_description ++ (d.description ++ at_offset d rest)

regroup_block : (a b c d e f g h i : List ℕ) → (a ++ (b ++ (c ++ (d ++ (e ++ (f ++ (g ++ h))))))) ++ i
    ≡ a ++ (b ++ (c ++ (d ++ (e ++ (f ++ (g ++ (h ++ i)))))))
regroup_block a b c d e f g h i = simp append_assoc

pub descriptor_opened : (d : Descriptor) (rest : List ℕ) → descriptor_text d ++ rest ≡ before_name ++ (d.name ++ at_description d rest)
unfolding descriptor_block
descriptor_opened d rest = ap (λ (w : List ℕ). before_name ++ w)
    (regroup_block d.name before_description d.description before_offset (decimal d.offset) before_detail
    (detail_text d.detail) after_detail rest)

pub descriptor_told : (x y : Descriptor) (r s : List ℕ) → IsShownDescriptor x → IsShownDescriptor y
    → descriptor_text x ++ r ≡ descriptor_text y ++ s → (x ≡ y) × (r ≡ s)
descriptor_told x y r s one other e =
    let offset_one = one.offset in let offset_other = other.offset in
    let (name, a) = cancel_item 34 x.name y.name (at_description x r) (at_description y s)
    (name_lacks_quote x.name one.name) (name_lacks_quote y.name other.name) refl refl
    (cancel_front before_name _ _ (sym (descriptor_opened x r) ∙ e ∙ descriptor_opened y s)) in
    let (description, b) = cancel_item 34 x.description y.description (at_offset x r) (at_offset y s)
    (plain_lacks_quote x.description one.description) (plain_lacks_quote y.description other.description) refl refl
    (cancel_front before_description _ _ a) in
    let (offset, c) = cancel_number 44 x.offset y.offset (at_detail x r) (at_detail y s) refl
    (omega (arith, offset_one)) (omega (arith, offset_other)) refl refl (cancel_front before_offset _ _ b) in
    let (detail, d) = detail_told x.detail y.detail (after_detail ++ r) (after_detail ++ s) one.detail other.detail c in
    (λ i. record { name = name i; description = description i; offset = offset i; detail = detail i }, cancel_front after_detail r s d)
