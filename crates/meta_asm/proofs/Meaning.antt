-- The short forms by tables of declarations are those that the declarations mean.
use Rattle.std.proofs.Common.{◌↔◌, List, ℕ}
use Rattle.meta_inst.specs.InstructionSet.{InstructionSet}
use Rattle.meta_inst.specs.Tables.{TableContents}
use Rattle.meta_gen.specs.Reply.{AllowedReply, AcceptedReply}
use Rattle.meta_verify.specs.Statement.{Statement, OfParameter, OfApplication, CanBeStated}
use Rattle.meta_verify.specs.Environment.{Environment}
use Rattle.meta_verify.specs.Wrong.{IsFaultless}
use Rattle.meta_asm.specs.Short.{Manner}
use Rattle.meta_asm.specs.Manners.{IsMannerIn, IsMannerDeclared}
use Rattle.meta_asm.specs.Reading.{HasManner, IsShortIn, IsShortDeclared}
use Rattle.meta_asm.specs.Made.{AreMade}
use Rattle.meta_asm.proofs.MannersMean.{manner_means, manner_back}

module _ (d : InstructionSet) (tables : TableContents) (made : AreMade d tables) where
  manner_forth : (s : Statement) (m : Manner) → HasManner (IsMannerIn tables) s m → HasManner (IsMannerDeclared d) s m
  manner_forth (OfParameter r) m h = h
  manner_forth (OfApplication a) m h = manner_means d tables made a.name m h

  has_manner_back : (s : Statement) (m : Manner) → HasManner (IsMannerDeclared d) s m → HasManner (IsMannerIn tables) s m
  has_manner_back (OfParameter r) m h = h
  has_manner_back (OfApplication a) m h = manner_back d tables made a.name m h

  -- where tables and declarations have the same right statements
  pub short_means : (env : Environment) → ((s : Statement) → CanBeStated s
      → (IsFaultless (AllowedReply tables) env s ↔ IsFaultless (AcceptedReply d) env s))
      → (line text : List ℕ) → (IsShortIn tables env line text ↔ IsShortDeclared d env line text)
  short_means env right line text = (
    λ h. record {
      statement = h.statement;
      right = (h.right.0, (right h.statement h.right.0.can).0 h.right.1);
      manner = h.manner;
      has_manner = manner_forth h.statement h.manner h.has_manner;
      is = h.is;
    },
    λ h. record {
      statement = h.statement;
      right = (h.right.0, (right h.statement h.right.0.can).1 h.right.1);
      manner = h.manner;
      has_manner = has_manner_back h.statement h.manner h.has_manner;
      is = h.is;
    },
  )
