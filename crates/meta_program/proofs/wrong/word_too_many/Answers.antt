use Rattle.std.proofs.Common.{ℕ, List, Some, length, slice_get, subst, ap, arith, ◌≡◌}
use Rattle.meta_program.proofs.Entries.{none_after}
use Rattle.meta_program.proofs.OneWrong.{word_within}
use Rattle.meta_program.proofs.wrong.word_too_many.Goals as goal

pub word_at-name-requires : goal.word_at-name-requires
word_at-name-requires c =
    omega (arith, ap length c.requires.words, word_within c.args.over.now c.args.place c.requires.place)

pub word_at-word-requires : goal.word_at-word-requires
word_at-word-requires c =
    omega (arith, ap length c.requires.words, word_within c.args.over.now c.args.place c.requires.place)

pub usage_of_both-requires : goal.usage_of_both-requires
usage_of_both-requires c =
    none_after c.args.commands.now c.args.over.now c.args.place c.word_at-name.result.now c.word_at-word.result.now c.requires.listed
    c.requires.place (subst (λ (ws : List (List ℕ)). slice_get ws 0 ≡ Some c.word_at-name.result.now) c.requires.words
    c.word_at-name.ensures)
