use Rattle.std.proofs.Common.{◌≡◌, ℕ, ◌<◌, ◌≤◌, length, get_or}
use Rattle.meta_text.proofs.line_writer.without_blanks.Given as goal

-- each byte from the end on is a blank
abbrev pub invariant-loop-end : goal.invariant-loop-end
invariant-loop-end l = record {
  within : l.end ≤ length l.bytes;
  blanks : (k : ℕ) → l.end ≤ k → k < length l.bytes → get_or l.bytes k 0 ≡ 32;
}

abbrev pub decreases-loop-end : goal.decreases-loop-end
decreases-loop-end l = l.end
