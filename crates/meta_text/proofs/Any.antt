-- What holds whatever the outcome is holds for each outcome.
use Rattle.std.proofs.Common.{ℕ}
use Rattle.meta_text.specs.Outcomes.{IfGot, OnEnd, OnReadFailed, IfWrote, OnWriteFailed}
use Rattle.meta_text.specs.declared.outside.ReadOutcome.{ReadOutcome}
use Rattle.meta_text.specs.declared.outside.ReadOutcome.TheVariants as reads
use Rattle.meta_text.specs.declared.outside.WriteOutcome.{WriteOutcome}
use Rattle.meta_text.specs.declared.outside.WriteOutcome.TheVariants as writes

pub any_got : (outcome : ReadOutcome) (P : ℕ → Type 0) → ((n : ℕ) → P n) → IfGot outcome P
any_got (reads.Got n) P holds = holds n
any_got reads.End P holds = tt
any_got reads.Failed P holds = tt

pub any_end : (outcome : ReadOutcome) (P : Type 0) → P → OnEnd outcome P
any_end (reads.Got n) P holds = tt
any_end reads.End P holds = holds
any_end reads.Failed P holds = tt

pub any_read_failed : (outcome : ReadOutcome) (P : Type 0) → P → OnReadFailed outcome P
any_read_failed (reads.Got n) P holds = tt
any_read_failed reads.End P holds = tt
any_read_failed reads.Failed P holds = holds

pub any_wrote : (outcome : WriteOutcome) (P : ℕ → Type 0) → ((n : ℕ) → P n) → IfWrote outcome P
any_wrote (writes.Wrote n) P holds = holds n
any_wrote writes.Failed P holds = tt

pub any_write_failed : (outcome : WriteOutcome) (P : Type 0) → P → OnWriteFailed outcome P
any_write_failed (writes.Wrote n) P holds = tt
any_write_failed writes.Failed P holds = holds
