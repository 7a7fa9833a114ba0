-- What words ask of the names that Rust refuses.
--     check_words names     the words of a check that does so with them
use Rattle.std.specs.Prelude.{ℕ, List, [], ◌∷◌, codes}
use Rattle.meta_program.specs.declared.plan.Names.{Names}
use Rattle.meta_program.specs.declared.plan.Names.TheVariants.{Warn, Refuse}

-- the word that asks `check` to refuse names
abbrev pub rust_word : List ℕ
rust_word = codes "--rust"

-- the words of a check that warns of them, and of one that refuses them
abbrev pub check_words : Names → List (List ℕ)
check_words Warn = codes "check" ∷ []
check_words Refuse = codes "check" ∷ (rust_word ∷ [])
