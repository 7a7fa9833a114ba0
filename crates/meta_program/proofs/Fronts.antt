-- What stands after the front of a text.
use Rattle.std.proofs.Common.{◌≡◌, ◌∙◌, ℕ, List, ◌++◌, codes, ⊎_elim, sym, ap}
use Rattle.std.specs.Prelude.{Option, None, Some, IfSome, IfNone, MatchOption}
use Rattle.std.specs.Str.Pattern.{FindsTextPrefix, StripsPrefix}
use Rattle.meta_program.specs.Over.{IsOptionWith}
use denote.Ref.{Bor}

abbrev pub Strips : List ℕ → List ℕ → Option (Bor (List ℕ)) → Type 0
Strips front text rest = MatchOption rest (FindsTextPrefix front text None) (λ x. StripsPrefix (FindsTextPrefix front) text x.now)

pub stripped : (front text : List ℕ) (rest : Option (Bor (List ℕ))) → Strips front text rest → IfSome rest (λ r. text ≡ front ++ r.now)
stripped front text None h = tt
stripped front text (Some r) h = h.1.1 ∙ ap (λ (back : List ℕ). front ++ back) (sym h.2)

pub no_front : (front text : List ℕ) (rest : Option (Bor (List ℕ))) → Strips front text rest
    → IfNone rest ((back : List ℕ) → text ≡ front ++ back → ⊥)
no_front front text None h = h
no_front front text (Some r) h = tt

-- a word that has neither front has no path
pub no_path : (word text other : List ℕ) (rest : Option (Bor (List ℕ))) → text ≡ word → other ≡ word
    → ((back : List ℕ) → text ≡ codes "-d=" ++ back → ⊥) → IfNone rest ((back : List ℕ) → other ≡ codes "--declarations=" ++ back → ⊥)
    → IfNone rest ((path : List ℕ) → IsOptionWith word path → ⊥)
no_path word text other None same also short long = λ path is. ⊎_elim (λ e. short path (same ∙ e)) (λ e. long path (also ∙ e)) is
no_path word text other (Some r) same also short long = tt
