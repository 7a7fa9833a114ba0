-- The items of the text of a group of settings: each is some lines, with their levels.
--     enumerator_text name, descriptor_text d, slot_text slot, pair_text mask, comment_text name shown      elements of the lists
--     head_text name, template_text name shown            the first comment and the last block
use Rattle.std.specs.Prelude.{ℕ, ◌/◌, ◌%◌, false, List, [], ◌∷◌, ◌++◌, map, Option, Some, None, codes}
use Rattle.std.specs.List.{join_by}
use Rattle.std.specs.Fmt.{decimal, digit_glyph}
use Rattle.meta_text.specs.Lines.{at, text_of}
use Rattle.meta_setting_tables.specs.declared.descriptor.Detail.{Detail}
use Rattle.meta_setting_tables.specs.declared.descriptor.Detail.TheVariants.{Bool as ABool, Enum as AnEnum, Num as ANum, Preset}
use Rattle.meta_setting_tables.specs.declared.descriptor.Descriptor.{Descriptor}

-- ---- numbers

-- a byte as `0x` and two small hexadecimal digits
abbrev pub hex_text : ℕ → List ℕ
hex_text byte = codes "0x" ++ (digit_glyph false (byte / 16) ∷ digit_glyph false (byte % 16) ∷ [])

-- a byte in eight binary digits, the highest first
unfoldable pub binary_text : ℕ → List ℕ
binary_text byte = map (λ place. digit_glyph false (byte / place % 2)) (128 ∷ 64 ∷ 32 ∷ 16 ∷ 8 ∷ 4 ∷ 2 ∷ 1 ∷ [])

-- ---- the first line

-- the comment that a group begins with
unfoldable pub head_text : List ℕ → List ℕ
head_text name = text_of (at 0 (codes "// Settings group " ∷ name ∷ codes "." ∷ []) ∷ [])

-- ---- elements

-- an enumerator
unfoldable pub enumerator_text : List ℕ → List ℕ
enumerator_text name = text_of (at 1 (codes "\"" ∷ name ∷ codes "\"," ∷ []) ∷ [])

-- what an entry is
abbrev pub detail_text : Detail → List ℕ
detail_text (ABool bit) = codes "detail::Detail::Bool { bit: " ++ (decimal bit ++ codes " }")
detail_text (AnEnum last enumerators) = codes "detail::Detail::Enum { last: "
    ++ (decimal last ++ (codes ", enumerators: " ++ (decimal enumerators ++ codes " }")))
detail_text ANum = codes "detail::Detail::Num"
detail_text Preset = codes "detail::Detail::Preset"

-- the descriptor of an entry of this name, description, offset and detail
unfoldable pub descriptor_block : List ℕ → List ℕ → ℕ → Detail → List ℕ
descriptor_block name description offset detail = text_of (
    at 1 (codes "detail::Descriptor {" ∷ [])
    ∷ (at 2 (codes "name: \"" ∷ name ∷ codes "\"," ∷ [])
    ∷ (at 2 (codes "description: \"" ∷ description ∷ codes "\"," ∷ [])
    ∷ (at 2 (codes "offset: " ∷ decimal offset ∷ codes "," ∷ [])
    ∷ (at 2 (codes "detail: " ∷ detail_text detail ∷ codes "," ∷ [])
    ∷ (at 1 (codes "}" ∷ [])
    ∷ at 1 (codes "," ∷ []) ∷ []))))))

-- the descriptor of an entry
abbrev pub descriptor_text : Descriptor → List ℕ
descriptor_text d = descriptor_block d.name d.description d.offset d.detail

-- what is in a slot: the number of an entry, or `0xffff` in a vacant one
abbrev pub slot_number_text : Option ℕ → List ℕ
slot_number_text (Some number) = decimal number
slot_number_text None = codes "0xffff"

-- a slot
unfoldable pub slot_text : Option ℕ → List ℕ
slot_text slot = text_of (at 1 (slot_number_text slot ∷ codes "," ∷ []) ∷ [])

-- the mask and the value of a preset in a setting byte, which are equal
unfoldable pub pair_text : ℕ → List ℕ
pair_text mask = text_of (at 1 (codes "(0b" ∷ binary_text mask ∷ codes ", 0b" ∷ binary_text mask ∷ codes ")," ∷ []) ∷ [])

-- names, parted by a comma and a space
abbrev pub texts_with_commas : List (List ℕ) → List ℕ
texts_with_commas names = join_by (λ name. name) (codes ", ") names

-- the comment of a preset of this name that turns on booleans, whose names are shown so
unfoldable pub comment_text : List ℕ → List ℕ → List ℕ
comment_text name booleans = text_of (at 1 (codes "// " ∷ name ∷ codes ": " ∷ booleans ∷ []) ∷ [])

-- ---- the template

-- bytes, parted by a comma and a space
abbrev pub bytes_text : List ℕ → List ℕ
bytes_text bytes = join_by hex_text (codes ", ") bytes

-- the template of a group of this name, whose default bytes are shown so
unfoldable pub template_text : List ℕ → List ℕ → List ℕ
template_text name defaults = text_of (
    at 0 (codes "static TEMPLATE: detail::Template = detail::Template {" ∷ [])
    ∷ (at 1 (codes "name: \"" ∷ name ∷ codes "\"," ∷ [])
    ∷ (at 1 (codes "descriptors: &DESCRIPTORS," ∷ [])
    ∷ (at 1 (codes "enumerators: &ENUMERATORS," ∷ [])
    ∷ (at 1 (codes "hash_table: &HASH_TABLE," ∷ [])
    ∷ (at 1 (codes "defaults: &[" ∷ defaults ∷ codes "]," ∷ [])
    ∷ (at 1 (codes "presets: &PRESETS," ∷ [])
    ∷ (at 0 (codes "}" ∷ [])
    ∷ at 0 (codes ";" ∷ []) ∷ []))))))))
