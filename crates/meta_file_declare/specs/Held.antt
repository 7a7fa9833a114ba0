-- What is kept of the formats and the instructions of the items so far.
--     Holds r t s            what is kept is what the items declare, by the numbers of the registry
use Rattle.std.specs.Prelude.{◌≡◌, ℕ, List, Option, map}
use Rattle.std.specs.BTreeMap.{get_by}
use Rattle.std.specs.List.{AllZip}
use Rattle.std.specs.Cmp.Lexicographic.{slice_cmp}
use Rattle.std.specs.Ordering.{nat_cmp}
use Rattle.meta_operands.specs.declared.format.InstructionFormat.{InstructionFormat}
use Rattle.meta_inst.specs.Builder.{Builder}
use Rattle.meta_file_types.specs.Registered.{Registered}
use Rattle.meta_file_declare.specs.declared.insts.FormatWord.{FormatWord}
use Rattle.meta_file_declare.specs.declared.insts.FormatWords.{FormatWords}
use Rattle.meta_file_declare.specs.declared.insts.Insts.{Insts}
use Rattle.meta_file_declare.specs.Formats.{MeantFormat, FormatEntry, format_named}
use Rattle.meta_file_declare.specs.SaidOfInsts.{SaidInsts}
use Rattle.meta_file_declare.specs.Registered.{IsFormatIn, IsBuilderIn}

-- which format a word names, by what is kept
abbrev pub word_at : FormatWords → List ℕ → Option FormatWord
word_at words w = get_by (λ k. slice_cmp nat_cmp w k.items) words.map

-- the formats and the instructions that are kept, in order
abbrev pub formats_in : Insts → List InstructionFormat
formats_in t = t.formats

abbrev pub insts_in : Insts → List Builder
insts_in t = t.insts

-- formats without their words
abbrev pub meant_formats : List FormatEntry → List MeantFormat
meant_formats formats = map (λ e. e.format) formats

-- each format and each instruction is the one that is meant, in order, and a word names a format exactly where an item declares one by it
pub record Holds (r : Registered) (t : Insts) (s : SaidInsts) : Type 0 where
  pub words : (w : List ℕ) → word_at t.words w ≡ format_named s.formats w
  pub formats : AllZip (IsFormatIn r) (meant_formats s.formats) (formats_in t)
  pub insts : AllZip (IsBuilderIn r) s.insts (insts_in t)
