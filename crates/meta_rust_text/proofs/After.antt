-- What is added to a text after what was added before.
use Rattle.std.proofs.Common.{◌≡◌, ◌+◌, ℕ, List, ◌++◌, codes, refl, ap, ◌∙◌, add-one}
use Rattle.meta_lists.proofs.Joined.{two}
use Rattle.meta_rust_text.specs.MethodBody.{parted_to}

pub after : (old now new part other rest : List ℕ) → now ≡ old ++ part → part ≡ other → new ≡ now ++ rest
    → new ≡ old ++ (other ++ rest)
after old now new part other rest e same f = two old other rest (e ∙ ap (λ t. old ++ t) same) f

-- one part more, after a comma
pub one_part : (f : ℕ → List ℕ) (n : ℕ) (old mid new : List ℕ) → old ≡ parted_to f n → mid ≡ old ++ codes ", "
    → new ≡ mid ++ f (n + 1) → new ≡ parted_to f (n + 1)
one_part f n old mid new is comma part =
    let e : new ≡ parted_to f n ++ (codes ", " ++ f (n + 1)) = after old mid new (codes ", ") (codes ", ") (f (n + 1)) comma refl
    part ∙ ap (λ t. t ++ (codes ", " ++ f (n + 1))) is in
    rw add-one (rw add-one at e)
