-- The answers of lines, one line after another.
use Rattle.std.proofs.Common.{◌≡◌, ℕ, ◌==◌, false, List, [], ◌∷◌, ◌++◌, length, append_assoc, append-nil, refl, sym, ap, ◌∙◌, subst}
use Rattle.std.specs.Prelude.{Option}
use Rattle.meta_flags.specs.Served.{Served, State}
use Rattle.meta_flags.specs.FlagAnswers.{IsLineServed, IsAnswered, AreFlagAnswers}

-- a line that isn't empty is answered by what it asks
pub answered : (g : Option Served) (line : List ℕ) (old new : State) (out : List ℕ) → false ≡ (length line == 0)
    → IsLineServed g line old new out → IsAnswered g line old new out
answered g [] old new out some h = absurd (cc)
answered g (c ∷ cs) old new out some h = h

-- Whatever answers the lines that are left, from these values on, completes what was written.
abbrev pub Continues : Option Served → State → List (List ℕ) → State → List (List ℕ) → List ℕ → Type 0
Continues g first all state lines written = (rest : List ℕ) → AreFlagAnswers g state lines rest
    → AreFlagAnswers g first all (written ++ rest)

-- one more line is answered
pub more_answers : (g : Option Served) (first : State) (all lines left : List (List ℕ)) (state next : State)
    (line written more : List ℕ) → lines ≡ line ∷ left
    → (text : List ℕ) × IsAnswered g line state next text × (more ≡ written ++ text)
    → Continues g first all state lines written → Continues g first all next left more
more_answers g first all lines left state next line written more e h before rest answers =
    let whole : AreFlagAnswers g state lines (h.0 ++ rest) =
    subst (λ ls. AreFlagAnswers g state ls (h.0 ++ rest)) (sym e) (next, h.0, rest, h.1, answers, refl) in
    subst (AreFlagAnswers g first all) (sym (ap (λ m. m ++ rest) h.2 ∙ append_assoc written h.0 rest)) (before (h.0 ++ rest) whole)

-- all lines are answered
pub all_answers : (g : Option Served) (first : State) (all lines : List (List ℕ)) (state : State) (written : List ℕ)
    → lines ≡ [] → Continues g first all state lines written → AreFlagAnswers g first all written
all_answers g first all lines state written none before =
    subst (AreFlagAnswers g first all) (append-nil written) (before [] (subst (λ ls. AreFlagAnswers g state ls []) (sym none) refl))
