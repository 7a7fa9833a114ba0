use Rattle.std.proofs.Common.{◌≡◌, ℕ, List, ◌++◌, All, IsTrue, length, drop}
use Rattle.std.specs.List.{flat_map}
use Rattle.meta_table_reader.specs.Spans.{is_line, after_lines}
use Rattle.meta_table_reader.proofs.cursor.Cursor.skip_lines.Given as goal

-- the lines that are left, where lines stand there, and what is left in any text
abbrev pub invariant-loop : goal.invariant-loop
invariant-loop l = record {
  item : (lines : List (List ℕ)) (rest : List ℕ) → All (λ line. IsTrue (is_line line)) lines → l.count ≡ length lines
      → l.initial.self ≡ flat_map (λ line. line) lines ++ rest
      → l.self ≡ flat_map (λ line. line) (drop l.counter lines) ++ rest;
  left : l.self ≡ after_lines l.counter l.initial.self;
}
