-- What an entry is, by the letter that it begins with.
use Rattle.std.proofs.Common.{◌≡◌, ◌≢◌, ℕ, List, ◌++◌, codes, slice_index, refl, sym, ◌∙◌, arith}
use Rattle.meta_setting_tables.specs.declared.descriptor.Detail.{Detail}
use Rattle.meta_setting_tables.specs.declared.descriptor.Detail.TheVariants.{Bool as ABool, Enum as AnEnum, Num as ANum, Preset}
use Rattle.meta_table_text.specs.GroupItems.{detail_text}

abbrev pub first_letter : Detail → List ℕ → ℕ
first_letter d rest = slice_index (codes ",\n        detail: " ++ (detail_text d ++ rest)) 34

abbrev pub letter_of : Detail → ℕ
letter_of (ABool bit) = 66
letter_of (AnEnum last enumerators) = 69
letter_of ANum = 78
letter_of Preset = 80

pub letter_is : (d : Detail) (rest : List ℕ) → first_letter d rest ≡ letter_of d
letter_is (ABool bit) rest = refl
letter_is (AnEnum last enumerators) rest = refl
letter_is ANum rest = refl
letter_is Preset rest = refl

bool_by : (d : Detail) → letter_of d ≡ 66 → (bit : ℕ) × (d ≡ ABool bit)
bool_by (ABool bit) e = (bit, refl)
bool_by (AnEnum last enumerators) e = absurd (omega (arith, e))
bool_by ANum e = absurd (omega (arith, e))
bool_by Preset e = absurd (omega (arith, e))

pub is_bool : (d : Detail) (rest : List ℕ) → first_letter d rest ≡ 66 → (bit : ℕ) × (d ≡ ABool bit)
is_bool d rest e = bool_by d (sym (letter_is d rest) ∙ e)

enum_by : (d : Detail) → letter_of d ≡ 69 → (last : ℕ) × (enumerators : ℕ) × (d ≡ AnEnum last enumerators)
enum_by (ABool bit) e = absurd (omega (arith, e))
enum_by (AnEnum last enumerators) e = (last, enumerators, refl)
enum_by ANum e = absurd (omega (arith, e))
enum_by Preset e = absurd (omega (arith, e))

pub is_enum : (d : Detail) (rest : List ℕ) → first_letter d rest ≡ 69 → (last : ℕ) × (enumerators : ℕ) × (d ≡ AnEnum last enumerators)
is_enum d rest e = enum_by d (sym (letter_is d rest) ∙ e)

num_by : (d : Detail) → letter_of d ≡ 78 → d ≡ ANum
num_by (ABool bit) e = absurd (omega (arith, e))
num_by (AnEnum last enumerators) e = absurd (omega (arith, e))
num_by ANum e = refl
num_by Preset e = absurd (omega (arith, e))

pub is_num : (d : Detail) (rest : List ℕ) → first_letter d rest ≡ 78 → d ≡ ANum
is_num d rest e = num_by d (sym (letter_is d rest) ∙ e)

preset_by : (d : Detail) → letter_of d ≢ 66 → letter_of d ≢ 69 → letter_of d ≢ 78 → d ≡ Preset
preset_by (ABool bit) b e n = absurd (b refl)
preset_by (AnEnum last enumerators) b e n = absurd (e refl)
preset_by ANum b e n = absurd (n refl)
preset_by Preset b e n = refl

pub is_preset : (d : Detail) (rest : List ℕ) → first_letter d rest ≢ 66 → first_letter d rest ≢ 69 → first_letter d rest ≢ 78 → d ≡ Preset
is_preset d rest b e n = preset_by d (λ x. b (letter_is d rest ∙ x)) (λ x. e (letter_is d rest ∙ x)) (λ x. n (letter_is d rest ∙ x))
