-- What the auditor writes for a text.
--     IsAuditLine d text out      the line for a text that is compared with declarations
use Rattle.std.specs.Prelude.{◌≡◌, ◌⊎◌, ℕ, List, [], ◌∷◌, ◌++◌, codes}
use Rattle.std.specs.Fmt.{decimal}
use Rattle.meta_build.specs.AllDeclared.{Declared}
use Rattle.meta_gen.specs.WholeTables.{WholeTables}
use Rattle.meta_table_reader.specs.Readable.{Reads, refused_line}
use Rattle.meta_audit.specs.Verdict.{IsAuditVerdict}
use Rattle.meta_audit.specs.declared.verdict.Verdict.{Verdict}
use Rattle.meta_audit.specs.declared.verdict.Verdict.TheVariants.{Yes, Opcodes, Opcode, Group}

-- a verdict as it is written: `yes`, `opcodes`, `opcode I` or `group G`
abbrev pub verdict_text : Verdict → List ℕ
verdict_text Yes = codes "yes"
verdict_text Opcodes = codes "opcodes"
verdict_text (Opcode n) = codes "opcode " ++ decimal n
verdict_text (Group g) = codes "group " ++ decimal g

-- the text reads as tables, as at most one value of them, and the line is the verdict on them
pub record IsVerdictLine (d : Declared) (text out : List ℕ) : Type 0 where
  pub tables : WholeTables
  pub reads : Reads text tables
  pub verdict : Verdict
  pub is_verdict : IsAuditVerdict d tables verdict
  pub is : out ≡ verdict_text verdict ++ 10 ∷ []

-- the text reads as no tables, and the line says so
pub record IsRefusedLine (text out : List ℕ) : Type 0 where
  pub reads_none : (t : WholeTables) → Reads text t → ⊥
  pub is : out ≡ refused_line

-- the line for a text: the verdict on the tables that it reads as, compared with the declarations, and `refused` if it reads as no tables
abbrev pub IsAuditLine : Declared → List ℕ → List ℕ → Type 0
IsAuditLine d text out = IsVerdictLine d text out ⊎ IsRefusedLine text out
