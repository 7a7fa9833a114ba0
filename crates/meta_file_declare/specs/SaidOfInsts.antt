-- What items declare of types and kinds, and of formats and instructions.
--     said items               what the items declare and mention of types and kinds, the formats with their words, and the instructions
--     after a place i          what is declared where the item i stands at a place after what the items above it declare
--     wrong_with a i           what is wrong with an item after what the items above it declare, if anything is
use Rattle.std.specs.Prelude.{ℕ, ◌+◌, List, [], ◌∷◌, ◌++◌, Option, None, Result, Ok, Err}
use Rattle.meta_file_syntax.specs.declared.insts.InstItem.{InstItem}
use Rattle.meta_file_syntax.specs.declared.items.Item.{Item}
use Rattle.meta_file_syntax.specs.declared.items.Item.TheVariants as item
use Rattle.meta_file_types.specs.Said as types
use Rattle.meta_file_types.specs.declared.refused.Reason.{Reason}
use Rattle.meta_file_types.specs.Telling.{reason_in}
use Rattle.meta_file_declare.specs.Formats.{FormatEntry, MeantFormat, format_of}
use Rattle.meta_file_declare.specs.Insts.{MeantInst, inst_of}
use Rattle.meta_file_declare.specs.Mentioned.{after_inst}

-- formats and instructions, each in order
pub record SaidInsts : Type 0 where
  pub formats : List FormatEntry
  pub insts : List MeantInst

-- what items declare: types and kinds, with what is mentioned, and formats and instructions
pub record Above : Type 0 where
  pub types : types.Said
  pub insts : SaidInsts

-- ---- what an item adds

abbrev pub with_format : SaidInsts → List ℕ → ℕ → Result MeantFormat Reason → SaidInsts
with_format s w place (Err reason) = s
with_format s w place (Ok f) = record { formats = s.formats ++ (record { word = w; place = place; format = f }) ∷ []; insts = s.insts }

abbrev pub with_inst : SaidInsts → Result MeantInst Reason → SaidInsts
with_inst s (Err reason) = s
with_inst s (Ok i) = record { formats = s.formats; insts = s.insts ++ i ∷ [] }

-- what an instruction mentions of types, where nothing is wrong with it
abbrev pub mentioning : types.Said → InstItem → Result MeantInst Reason → types.Said
mentioning t i (Err reason) = t
mentioning t i (Ok m) = after_inst t i

-- with the types and the kinds that an item declares, which stands at a place
abbrev pub with_types : Above → ℕ → Item → Above
with_types a place i = record { types = types.after a.types place i; insts = a.insts }

-- with the format or the instruction that an item is, and what it mentions
abbrev pub with_insts : Above → ℕ → Item → Above
with_insts a place (item.Type i) = a
with_insts a place (item.Alias i) = a
with_insts a place (item.Kind i) = a
with_insts a place (item.Format i) =
    record { types = a.types; insts = with_format a.insts i.word place (format_of a.types.words a.insts.formats i) }
with_insts a place (item.Inst i) = record {
  types = mentioning a.types i (inst_of a.types.words a.insts.formats i);
  insts = with_inst a.insts (inst_of a.types.words a.insts.formats i);
}
with_insts a place (item.Group i) = a
with_insts a place (item.Bool i) = a
with_insts a place (item.Num i) = a
with_insts a place (item.Enum i) = a
with_insts a place (item.Preset i) = a

-- what is declared where an item more stands at a place
abbrev pub after : Above → ℕ → Item → Above
after a place i = with_insts (with_types a place i) place i

-- what is wrong with a format or an instruction, if anything is
abbrev pub wrong_with : Above → Item → Option Reason
wrong_with a (item.Type i) = None
wrong_with a (item.Alias i) = None
wrong_with a (item.Kind i) = None
wrong_with a (item.Format i) = reason_in (format_of a.types.words a.insts.formats i)
wrong_with a (item.Inst i) = reason_in (inst_of a.types.words a.insts.formats i)
wrong_with a (item.Group i) = None
wrong_with a (item.Bool i) = None
wrong_with a (item.Num i) = None
wrong_with a (item.Enum i) = None
wrong_with a (item.Preset i) = None

-- ---- all items

abbrev pub nothing_said : Above
nothing_said = record { types = types.nothing_said; insts = record { formats = []; insts = [] } }

-- what is declared after these items, the first of which stands at a place
abbrev pub said_from : Above → ℕ → List Item → Above
said_from a place [] = a
said_from a place (i ∷ is) = said_from (after a place i) (place + 1) is

-- what items declare. An item with which something is wrong declares nothing
abbrev pub said : List Item → Above
said items = said_from nothing_said 0 items
