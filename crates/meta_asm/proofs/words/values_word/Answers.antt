use Rattle.std.proofs.Common.{List, ℕ, Bor, sym, ap, ◌∙◌}
use Rattle.std.specs.Option.{option_map}
use Rattle.std.proofs.lemmas.Result.{IfOk-weaker}
use Rattle.meta_asm.proofs.WordLemmas.{list_kept}
use Rattle.meta_asm.proofs.words.values_word.Goals as goal

pub returns-in-Some : goal.returns-in-Some
returns-in-Some c =
    IfOk-weaker c.without_spaces.result _ _
    (λ word e. λ texts h is. e
    ∙ list_kept texts c.in-Some.list.now h (sym (ap (option_map (λ (t : Bor (List ℕ)). t.now)) c.in-Some.is) ∙ is))
    c.without_spaces.ensures
