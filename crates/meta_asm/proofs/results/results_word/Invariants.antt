use Rattle.std.proofs.Common.{◌≡◌, ℕ, Bool, List, Bor, map, All}
use Rattle.std.specs.Option.{option_map}
use Rattle.meta_verify.specs.Statement.{TypedValue, IsTyped}
use Rattle.meta_asm.specs.Short.{short_results, short_result_text, values_written}
use Rattle.meta_asm.specs.Parts.{TellTypes}
use Rattle.meta_asm.proofs.ResultLemmas.{AreLeft}
use Rattle.meta_asm.proofs.results.results_word.Given as goal

-- of results whose short forms are listed, the word has the texts of those before the pieces that are left
abbrev pub invariant-loop-piece : goal.invariant-loop-piece
invariant-loop-piece l =
    (opened : List Bool) (rs : List TypedValue) → All IsTyped rs → TellTypes opened rs l.numbers
    → option_map (λ (t : Bor (List ℕ)). t.now) l.fn.list ≡ values_written (map short_result_text (short_results opened rs))
    → AreLeft rs l.numbers_left l.piece-iterator l.word.items
