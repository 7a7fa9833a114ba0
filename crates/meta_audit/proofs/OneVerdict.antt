-- There is at most one verdict on tables that are compared with declarations, and at most one line for a text.
use Rattle.std.proofs.Common.{◌≡◌, ◌+◌, ℕ, List, [], ◌∷◌, ◌++◌, refl, sym, ap, ◌∙◌, subst, inl, inr}
use Rattle.meta_lists.proofs.First.{one_first}
use Rattle.meta_build.specs.AllDeclared.{Declared}
use Rattle.meta_gen.specs.WholeTables.{WholeTables}
use Rattle.meta_table_reader.specs.Readable.{Reads}
use Rattle.meta_audit.specs.Verdict.{AllMatch, Differs, DiffersAt, IsAuditVerdict}
use Rattle.meta_audit.specs.AuditLine.{verdict_text, IsAuditLine}
use Rattle.meta_audit.specs.declared.verdict.Verdict.{Verdict}
use Rattle.meta_audit.specs.declared.verdict.Verdict.TheVariants.{Yes, Opcodes, Opcode, Group}

module _ (d : Declared) (t : WholeTables) where
  -- if all opcodes match, none differs
  none_differs : AllMatch d.set t.opcodes → (k : ℕ) → Differs d.set t.opcodes k → ⊥
  none_differs all k x = x.other (all k x.builder x.at)

  pub one_verdict : (v w : Verdict) → IsAuditVerdict d t v → IsAuditVerdict d t w → v ≡ w
  one_verdict Yes Yes a b = refl
  one_verdict Yes Opcodes a b = absurd (b a.count)
  one_verdict Yes (Opcode n) a b = absurd (none_differs a.opcodes b.place b.first.holds)
  one_verdict Yes (Group g) a b = absurd (b.first.holds (a.groups g))
  one_verdict Opcodes Yes a b = absurd (a b.count)
  one_verdict Opcodes Opcodes a b = refl
  one_verdict Opcodes (Opcode n) a b = absurd (a b.count)
  one_verdict Opcodes (Group g) a b = absurd (a b.count)
  one_verdict (Opcode m) Yes a b = absurd (none_differs b.opcodes a.place a.first.holds)
  one_verdict (Opcode m) Opcodes a b = absurd (b a.count)
  one_verdict (Opcode m) (Opcode n) a b =
      ap Opcode (a.number ∙ ap (λ k. k + 1) (one_first (Differs d.set t.opcodes) a.place b.place a.first b.first) ∙ sym b.number)
  one_verdict (Opcode m) (Group g) a b = absurd (none_differs b.opcodes a.place a.first.holds)
  one_verdict (Group g) Yes a b = absurd (a.first.holds (b.groups g))
  one_verdict (Group g) Opcodes a b = absurd (b a.count)
  one_verdict (Group g) (Opcode n) a b = absurd (none_differs a.opcodes b.place b.first.holds)
  one_verdict (Group g) (Group h) a b = ap Group (one_first (DiffersAt d t) g h a.first b.first)

-- a text has at most one line
pub one_line : ((text : List ℕ) (t u : WholeTables) → Reads text t → Reads text u → t ≡ u) → (d : Declared) (text one other : List ℕ)
    → IsAuditLine d text one → IsAuditLine d text other → one ≡ other
one_line one_reading d text one other (inl a) (inl b) =
    let same : a.tables ≡ b.tables = one_reading text a.tables b.tables a.reads b.reads in
    let verdict : a.verdict ≡ b.verdict =
    one_verdict d b.tables a.verdict b.verdict (subst (λ t. IsAuditVerdict d t a.verdict) same a.is_verdict) b.is_verdict in
    a.is ∙ ap (λ v. verdict_text v ++ 10 ∷ []) verdict ∙ sym b.is
one_line one_reading d text one other (inl a) (inr b) = absurd (b.reads_none a.tables a.reads)
one_line one_reading d text one other (inr a) (inl b) = absurd (a.reads_none b.tables b.reads)
one_line one_reading d text one other (inr a) (inr b) = a.is ∙ sym b.is
