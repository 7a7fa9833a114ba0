-- Facts for one outcome of a read or a write.
use Rattle.std.specs.Prelude.{◌≡◌, ℕ, ⊤, List, drop}
use Rattle.meta_text.specs.Outside.{counted}
use Rattle.meta_text.specs.declared.outside.ReadOutcome.{ReadOutcome}
use Rattle.meta_text.specs.declared.outside.ReadOutcome.TheVariants as reads
use Rattle.meta_text.specs.declared.outside.WriteOutcome.{WriteOutcome}
use Rattle.meta_text.specs.declared.outside.WriteOutcome.TheVariants as writes

-- P holds of the count of bytes that were read, if some were
abbrev pub IfGot : ReadOutcome → (ℕ → Type 0) → Type 0
IfGot (reads.Got n) P = P n
IfGot reads.End P = ⊤
IfGot reads.Failed P = ⊤

-- P holds, if the source was at its end
abbrev pub OnEnd : ReadOutcome → Type 0 → Type 0
OnEnd (reads.Got n) P = ⊤
OnEnd reads.End P = P
OnEnd reads.Failed P = ⊤

-- P holds, if the read failed
abbrev pub OnReadFailed : ReadOutcome → Type 0 → Type 0
OnReadFailed (reads.Got n) P = ⊤
OnReadFailed reads.End P = ⊤
OnReadFailed reads.Failed P = P

-- a read with this outcome changed only the bytes of the buffer that it gave; at the end, or where it failed, it changed none
abbrev pub KeepsRest : ReadOutcome → List ℕ → List ℕ → Type 0
KeepsRest (reads.Got n) old new = drop n new ≡ drop n old
KeepsRest reads.End old new = new ≡ old
KeepsRest reads.Failed old new = new ≡ old

-- P holds of the count of bytes that were taken, if some were
abbrev pub IfWrote : WriteOutcome → (ℕ → Type 0) → Type 0
IfWrote (writes.Wrote n) P = P n
IfWrote writes.Failed P = ⊤

-- P holds, if the write failed
abbrev pub OnWriteFailed : WriteOutcome → Type 0 → Type 0
OnWriteFailed (writes.Wrote n) P = ⊤
OnWriteFailed writes.Failed P = P

-- the count of faults after a read with this outcome
abbrev pub faults_after_read : ℕ → ReadOutcome → ℕ
faults_after_read faults (reads.Got n) = faults
faults_after_read faults reads.End = faults
faults_after_read faults reads.Failed = counted faults

-- the count of faults after a write with this outcome
abbrev pub faults_after_write : ℕ → WriteOutcome → ℕ
faults_after_write faults (writes.Wrote n) = faults
faults_after_write faults writes.Failed = counted faults
