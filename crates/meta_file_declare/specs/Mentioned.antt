-- What instructions mention of types: their operands and their second types, in the order in which they stand.
--     after_operands s operands    what is declared and mentioned after operands
--     after_marks s marks          after marks
--     after_inst s i               after an instruction: its inputs, its outputs, its marks
use Rattle.std.specs.Prelude.{List, [], ◌∷◌}
use Rattle.meta_file_syntax.specs.declared.insts.Operand.{Operand}
use Rattle.meta_file_syntax.specs.declared.insts.Mark.{Mark}
use Rattle.meta_file_syntax.specs.declared.insts.Mark.TheVariants as marks
use Rattle.meta_file_syntax.specs.declared.insts.InstItem.{InstItem}
use Rattle.meta_file_types.specs.Symbols.{Symbol}
use Rattle.meta_file_types.specs.Words.{Entry, type_of}
use Rattle.meta_file_types.specs.Said.{Said, with_meant}
use Rattle.meta_file_types.specs.Operands.{operand_of, with_sense}
use Rattle.meta_file_declare.specs.Insts.{marks_in}

-- ---- operands

-- the type variables that are mentioned after these operands
abbrev pub with_operands : List Entry → List Symbol → List Operand → List Symbol
with_operands words symbols [] = symbols
with_operands words symbols (o ∷ more) = with_operands words (with_sense symbols (operand_of words o.what)) more

abbrev pub after_operands : Said → List Operand → Said
after_operands s operands = record { words = s.words; roots = s.roots; symbols = with_operands s.words s.symbols operands }

-- ---- marks

-- after a mark: the second control, if it names one
abbrev pub with_second : List Entry → List Symbol → Mark → List Symbol
with_second words symbols (marks.Is property) = symbols
with_second words symbols (marks.Second t) = with_meant symbols (type_of words t)

abbrev pub with_seconds : List Entry → List Symbol → List Mark → List Symbol
with_seconds words symbols [] = symbols
with_seconds words symbols (mark ∷ more) = with_seconds words (with_second words symbols mark) more

abbrev pub after_mark : Said → Mark → Said
after_mark s mark = record { words = s.words; roots = s.roots; symbols = with_second s.words s.symbols mark }

abbrev pub after_marks : Said → List Mark → Said
after_marks s all = record { words = s.words; roots = s.roots; symbols = with_seconds s.words s.symbols all }

-- ---- instructions

abbrev pub after_inst : Said → InstItem → Said
after_inst s i = after_marks (after_operands (after_operands s i.inputs) i.outputs) (marks_in i.marks)
