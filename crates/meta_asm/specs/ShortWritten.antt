-- What the code writes of a statement.
--     manner_in m                     how the lines of an opcode are written, as the program holds it
--     AddsShort tables s before after     the short form of what is stated was added to a text
use Rattle.std.specs.Prelude.{◌≡◌, ℕ, zero, suc, List, [], ◌++◌, map, codes}
use Rattle.meta_inst.specs.Tables.{TableContents}
use Rattle.meta_gen.specs.Constraint.{number_constraint_of}
use Rattle.meta_verify.specs.Statement.{Statement}
use Rattle.meta_asm.specs.Short.{Manner, short_text}
use Rattle.meta_asm.specs.Manners.{is_open, IsMannerIn}
use Rattle.meta_asm.specs.Reading.{HasManner}
use Rattle.meta_asm.specs.declared.manner.Manner.{Manner as HeldManner}

-- what is left out, where the results have these constraints
abbrev pub manner_in : HeldManner → Manner
manner_in m = record { leaves_out = m.leaves_out; opened = map is_open (map number_constraint_of m.results.now) }

-- the text is the old text, and after it what is stated, with the types left out that its manner by the tables leaves out
pub record AddsShort (tables : TableContents) (s : Statement) (before after : List ℕ) : Type 0 where
  pub manner : Manner
  pub has_manner : HasManner (IsMannerIn tables) s manner
  pub is : after ≡ before ++ short_text manner s

-- what stands before the text at a place of a list: nothing before the first
abbrev pub before_place : ℕ → List ℕ
before_place zero = []
before_place (suc k) = codes ", "
