-- The lines of an input have at most one list of answers.
use Rattle.std.proofs.Common.{◌≡◌, inl, inr, List, [], ◌∷◌, ◌++◌, ℕ, Option, None, Some, sym, ap, ap₂, ◌∙◌, subst}
use Rattle.meta_flags.specs.Served.{Served, State}
use Rattle.meta_flags.specs.Replies.{change_line, got_line}
use Rattle.meta_flags.specs.Request.{Request, Set, Enable, Get, Toml}
use Rattle.meta_flags.specs.FlagAnswers.{IsServed, IsServedBy, IsLineServed, IsAnswered, AreFlagAnswers}
use Rattle.meta_flags.proofs.OneChange.{one_set, one_enable, one_get}
use Rattle.meta_flags.proofs.RequestLemmas.{request_pieces, same_request}

-- a request has at most one effect and one answer
one_served : (g : Served) (r : Request) (old new next : State) (out text : List ℕ) → IsServed g r old new out
    → IsServed g r old next text → (new ≡ next) × (out ≡ text)
one_served g (Set name value) old new next out text (r, a, e) (s, b, f) =
    let h = one_set g name value old r s new next a b in (h.1, e ∙ ap change_line h.0 ∙ sym f)
one_served g (Enable name) old new next out text (r, a, e) (s, b, f) =
    let h = one_enable g name old r s new next a b in (h.1, e ∙ ap change_line h.0 ∙ sym f)
one_served g (Get name) old new next out text (r, a, n, e) (s, b, m, f) = (n ∙ sym m, e ∙ ap got_line (one_get g name old r s a b) ∙ sym f)
one_served g Toml old new next out text (n, e) (m, f) = (n ∙ sym m, e ∙ sym f)

one_served_by : (g : Option Served) (r : Request) (old new next : State) (out text : List ℕ)
    → IsServedBy g r old new out → IsServedBy g r old next text → (new ≡ next) × (out ≡ text)
one_served_by None r old new next out text (n, e) (m, f) = (n ∙ sym m, e ∙ sym f)
one_served_by (Some g) r old new next out text a b = one_served g r old new next out text a b

-- a line has at most one effect and one answer
one_line : (g : Option Served) (line : List ℕ) (old new next : State) (out text : List ℕ)
    → IsLineServed g line old new out → IsLineServed g line old next text → (new ≡ next) × (out ≡ text)
one_line g line old new next out text (inl (q, asks, a)) (inl (r, asked, b)) =
    let same = same_request q r (sym (request_pieces line q asks) ∙ request_pieces line r asked) in
    one_served_by g r old new next out text (subst (λ (p : Request). IsServedBy g p old new out) same a) b
one_line g line old new next out text (inl (q, asks, a)) (inr (none, n, e)) = absurd (none q asks)
one_line g line old new next out text (inr (none, n, e)) (inl (r, asked, b)) = absurd (none r asked)
one_line g line old new next out text (inr (none, n, e)) (inr (nothing, m, f)) = (n ∙ sym m, e ∙ sym f)

one_answer : (g : Option Served) (line : List ℕ) (old new next : State) (out text : List ℕ)
    → IsAnswered g line old new out → IsAnswered g line old next text → (new ≡ next) × (out ≡ text)
one_answer g [] old new next out text (n, e) (m, f) = (n ∙ sym m, e ∙ sym f)
one_answer g (c ∷ cs) old new next out text a b = one_line g (c ∷ cs) old new next out text a b

-- lines have at most one list of answers
pub one_output : (g : Option Served) (lines : List (List ℕ)) (state : State) (out text : List ℕ)
    → AreFlagAnswers g state lines out → AreFlagAnswers g state lines text → out ≡ text
one_output g [] state out text a b = a ∙ sym b
one_output g (line ∷ lines) state out text (new, first, rest, a, one, e) (next, begun, left, b, other, f) =
    let h = one_answer g line state new next first begun a b in
    let others = one_output g lines next rest left (subst (λ (s : State). AreFlagAnswers g s lines rest) h.0 one) other in
    e ∙ ap₂ ◌++◌ h.1 others ∙ sym f
