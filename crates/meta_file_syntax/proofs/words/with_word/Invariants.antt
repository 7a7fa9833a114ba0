use Rattle.std.proofs.Common.{◌≡◌, map, drop}
use Rattle.meta_file_syntax.specs.WordTables.{with_word}
use Rattle.meta_file_syntax.proofs.words.with_word.Given as goal

-- the word is different from all those so far
abbrev pub invariant-loop-thing : goal.invariant-loop-thing
invariant-loop-thing g l =
    with_word (map (λ row. (row.0, row.1.now)) (drop l.thing-index l.table)) l.word ≡ with_word (map (λ row. (row.0, row.1.now)) l.table) l.word
