-- What formats mean after the words that the items above declare.
--     MeantFormat                 a format: its name, what it stores, and which value it designates
--     FormatEntry                 a format that an item declares, by its word
--     format_named formats w      which format the word names
--     format_of words formats i   the format that an item declares, or the first thing that is wrong with the item
use Rattle.std.specs.Prelude.{ℕ, ◌+◌, Bool, true, false, List, [], ◌∷◌, Option, Some, None, Result, Ok, Err, take, count_by}
use Rattle.std.specs.Prelude.{if◌then◌else◌}
use Rattle.std.specs.List.{list_any}
use Rattle.meta_operands.specs.Format.{designated_by}
use Rattle.meta_file_syntax.specs.declared.formats.Slot.{Slot}
use Rattle.meta_file_syntax.specs.declared.formats.Slot.TheVariants as slots
use Rattle.meta_file_syntax.specs.declared.formats.FormatItem.{FormatItem}
use Rattle.meta_file_types.specs.declared.refused.Reason.{Reason}
use Rattle.meta_file_types.specs.Plain.{same_word, given_kind}
use Rattle.meta_file_types.specs.Texts.{shown_or}
use Rattle.meta_file_types.specs.Meant.{MeantKind}
use Rattle.meta_file_types.specs.Words.{Entry}
use Rattle.meta_file_types.specs.Operands.{kind_named}
use Rattle.meta_file_types.specs.declared.refused.Reason.TheVariants.{FormatDeclared, TwoDesignated}
use Rattle.meta_file_types.specs.declared.given.GivenKind.{GivenKind}
use Rattle.meta_file_types.specs.declared.given.GivenKind.TheVariants as given
use Rattle.meta_file_declare.specs.declared.insts.FormatWord.{FormatWord}
use Rattle.meta_file_types.specs.Telling.{◌>>=◌, unless}
use Rattle.meta_file_declare.specs.Telling.{each_from}
use Rattle.meta_file_declare.specs.InstTexts.{format_texts}
use Rattle.meta_file_types.specs.Said.{wrong_texts}

-- ---- slots

-- what a format stores: a value, any number of values, a block with arguments or without, or what a kind says in a field of its own
pub data MeantSlot : Type 0 where
  Value : MeantSlot
  Varargs : MeantSlot
  Block : MeantSlot
  RawBlock : MeantSlot
  Field : (kind : MeantKind) → MeantSlot

abbrev pub is_value : MeantSlot → Bool
is_value Value = true
is_value Varargs = false
is_value Block = false
is_value RawBlock = false
is_value (Field kind) = false

abbrev pub is_varargs : MeantSlot → Bool
is_varargs Value = false
is_varargs Varargs = true
is_varargs Block = false
is_varargs RawBlock = false
is_varargs (Field kind) = false

abbrev pub is_block : MeantSlot → Bool
is_block Value = false
is_block Varargs = false
is_block Block = true
is_block RawBlock = false
is_block (Field kind) = false

abbrev pub is_raw_block : MeantSlot → Bool
is_raw_block Value = false
is_raw_block Varargs = false
is_raw_block Block = false
is_raw_block RawBlock = true
is_raw_block (Field kind) = false

abbrev pub kind_in_field : MeantSlot → Option MeantKind
kind_in_field Value = None
kind_in_field Varargs = None
kind_in_field Block = None
kind_in_field RawBlock = None
kind_in_field (Field kind) = Some kind

-- what a slot says: one of these, or else a kind, if one is meant
abbrev pub slot_by : Option GivenKind → Result MeantKind Reason → Result MeantSlot Reason
slot_by (Some given.Block) kind = Ok Block
slot_by (Some given.RawBlock) kind = Ok RawBlock
slot_by (Some given.Varargs) kind = Ok Varargs
slot_by None (Ok kind) = Ok (Field kind)
slot_by None (Err reason) = Err reason

-- what the word of a slot says
abbrev pub slot_named : List Entry → List ℕ → Result MeantSlot Reason
slot_named words w = slot_by (given_kind w) (kind_named words w)

-- whether a slot is marked as the designated value
abbrev pub is_marked : Slot → Bool
is_marked slots.Value = false
is_marked slots.Designated = true
is_marked (slots.Kind w) = false

-- what the slot at a place among these says; only one value is designated
abbrev pub slot_at : List Entry → List Slot → ℕ → Slot → Result MeantSlot Reason
slot_at words all k slots.Value = Ok Value
slot_at words all k slots.Designated = if list_any is_marked (take k all) then Err (TwoDesignated k) else Ok Value
slot_at words all k (slots.Kind w) = slot_named words w

abbrev pub slots_of : List Entry → List Slot → Result (List MeantSlot) Reason
slots_of words all = each_from (slot_at words all) 0 all

-- the place, among the values, of the one that is marked, where n values stand before these slots
abbrev pub marked_from : ℕ → List Slot → Option ℕ
marked_from n [] = None
marked_from n (slots.Value ∷ more) = marked_from (n + 1) more
marked_from n (slots.Designated ∷ more) = Some n
marked_from n (slots.Kind w ∷ more) = marked_from n more

-- ---- formats

-- a format: the name that is shown, what it stores, in order, and the place, among its values, of the designated one, if it has values
pub record MeantFormat : Type 0 where
  pub name : List ℕ
  pub slots : List MeantSlot
  pub designated : Option ℕ

-- a format that an item declares: its word, the place of the item, from 0, and what it is
pub record FormatEntry : Type 0 where
  pub word : List ℕ
  pub place : ℕ
  pub format : MeantFormat

-- which format a word names: the place of its item, and its number, which counts the `format` items from 0. The first of these has the
-- number n
abbrev pub format_from : ℕ → List FormatEntry → List ℕ → Option FormatWord
format_from n [] w = None
format_from n (e ∷ es) w = if same_word e.word w then Some (record { place = e.place; id = n }) else format_from (n + 1) es w

abbrev pub format_named : List FormatEntry → List ℕ → Option FormatWord
format_named formats w = format_from 0 formats w

-- the word of a format is that of no format above
abbrev pub declared_above : List ℕ → Option FormatWord → Option Reason
declared_above w None = None
declared_above w (Some f) = Some (FormatDeclared w f.place)

-- the format with these slots: the value that is marked is designated, or else the first
abbrev pub format_with : FormatItem → List MeantSlot → MeantFormat
format_with i slots = record {
  name = shown_or i.word i.shown;
  slots = slots;
  designated = designated_by (marked_from 0 i.slots) (count_by is_value slots);
}

-- the format that an item declares, or the first thing that is wrong with the item: a text, the word, a slot
unfoldable pub format_of : List Entry → List FormatEntry → FormatItem → Result MeantFormat Reason
format_of words formats i =
    unless (wrong_texts (format_texts i)) (unless (declared_above i.word (format_named formats i.word)) (slots_of words i.slots >>= λ slots.
    Ok (format_with i slots)))
