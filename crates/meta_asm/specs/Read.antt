-- What is read of the short form of an application, by tables.
--     IsReadBy tables env op entry m a      after lines that define env, a is right by this opcode, and m is its manner
use Rattle.std.specs.Prelude.{◌≡◌, ℕ, ◌<◌, List, length, Some}
use Rattle.meta_lists.specs.First.{IsFirst}
use Rattle.meta_types.specs.TypeParts.{TypeParts}
use Rattle.meta_inst.specs.Tables.{TableContents, OpcodeNumbers, at_opcode}
use Rattle.meta_gen.specs.Contents.{IsOpcodeNamed}
use Rattle.meta_gen.specs.Reply.{AllowsAsked}
use Rattle.meta_verify.specs.Statement.{Application, CanApply}
use Rattle.meta_verify.specs.Environment.{Environment, HaveTypes}
use Rattle.meta_verify.specs.Wrong.{question_of}
use Rattle.meta_asm.specs.Short.{Manner}
use Rattle.meta_asm.specs.PlainNames.{IsPlain}
use Rattle.meta_asm.specs.Manners.{manner_of}

-- the tables allow the types of the values and the results for the opcode of the name, whose entry gives the manner in which it is written
pub record IsReadBy (tables : TableContents) (env : Environment) (op : ℕ) (entry : OpcodeNumbers) (m : Manner)
    (a : Application) : Type 0 where
  pub can : CanApply a
  pub plain : IsPlain a.name
  pub some : 0 < length a.name
  pub types : List TypeParts
  pub have : HaveTypes env a.values types
  pub named : IsFirst (IsOpcodeNamed tables.names a.name) op
  pub allows : AllowsAsked tables op (question_of a types)
  pub is_entry : at_opcode tables.entries op ≡ Some entry
  pub manner : m ≡ manner_of tables entry
