-- What operands and marks mention, one by one.
use Rattle.std.proofs.Common.{◌≡◌, ◌∙◌, ◌≤◌, ◌+◌, ℕ, List, [], ◌∷◌, ◌++◌, length, take, sym, ap, refl}
use Rattle.std.specs.Prelude.{slice_get, Some}
use Rattle.std.proofs.lemmas.List.{take_all}
use Rattle.meta_lists.proofs.Places.{take_next}
use Rattle.meta_file_syntax.specs.declared.insts.Operand.{Operand}
use Rattle.meta_file_syntax.specs.declared.insts.Mark.{Mark}
use Rattle.meta_file_syntax.specs.declared.insts.InstItem.{InstItem}
use Rattle.meta_file_types.specs.Symbols.{Symbol}
use Rattle.meta_file_types.specs.Words.{Entry}
use Rattle.meta_file_types.specs.Said.{Said}
use Rattle.meta_file_types.specs.Operands.{operand_of, with_sense, after_operand}
use Rattle.meta_file_declare.specs.declared.operands.Side.{Side}
use Rattle.meta_file_declare.specs.declared.operands.Side.TheVariants.{Inputs, Outputs}
use Rattle.meta_file_declare.specs.Mentioned.{with_operands, after_operands, with_second, with_seconds, after_mark, after_marks}

abbrev said_with : Said → List Symbol → Said
said_with s symbols = record { words = s.words; roots = s.roots; symbols = symbols }

-- ---- operands

operands_last : (words : List Entry) (symbols : List Symbol) (os : List Operand) (o : Operand)
    → with_sense (with_operands words symbols os) (operand_of words o.what) ≡ with_operands words symbols (os ++ o ∷ [])
operands_last words symbols [] o = refl
operands_last words symbols (x ∷ os) o = operands_last words (with_sense symbols (operand_of words x.what)) os o

pub operands_more : (s : Said) (os : List Operand) (k : ℕ) (o : Operand) → slice_get os k ≡ Some o
    → after_operand (after_operands s (take k os)) o.what ≡ after_operands s (take (k + 1) os)
operands_more s os k o at =
    ap (said_with s) (operands_last s.words s.symbols (take k os) o) ∙ ap (after_operands s) (sym (take_next os k o at))

pub operands_all : (s : Said) (os : List Operand) (k : ℕ) → length os ≤ k → after_operands s (take k os) ≡ after_operands s os
operands_all s os k past = ap (after_operands s) (take_all k os past)

-- ---- marks

marks_last : (words : List Entry) (symbols : List Symbol) (ms : List Mark) (m : Mark)
    → with_second words (with_seconds words symbols ms) m ≡ with_seconds words symbols (ms ++ m ∷ [])
marks_last words symbols [] m = refl
marks_last words symbols (x ∷ ms) m = marks_last words (with_second words symbols x) ms m

pub marks_more : (s : Said) (ms : List Mark) (k : ℕ) (m : Mark) → slice_get ms k ≡ Some m
    → after_mark (after_marks s (take k ms)) m ≡ after_marks s (take (k + 1) ms)
marks_more s ms k m at =
    ap (said_with s) (marks_last s.words s.symbols (take k ms) m) ∙ ap (after_marks s) (sym (take_next ms k m at))

pub marks_all : (s : Said) (ms : List Mark) (k : ℕ) → length ms ≤ k → after_marks s (take k ms) ≡ after_marks s ms
marks_all s ms k past = ap (after_marks s) (take_all k ms past)

-- ---- instructions

-- what stands before the operands of a side, and before the marks
abbrev pub before_side : Said → Side → InstItem → Said
before_side s Inputs i = s
before_side s Outputs i = after_operands s i.inputs

abbrev pub before_marks : Said → InstItem → Said
before_marks s i = after_operands (after_operands s i.inputs) i.outputs
