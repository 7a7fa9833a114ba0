-- What is no name can be told, so that a text is a name where it can't fail to be one.
use Rattle.std.proofs.Common.{ℕ, List, [], ◌∷◌, All, inr}
use Rattle.std.proofs.lemmas.Bool.{cases_eq}
use Rattle.meta_types.specs.Name.{IsLetter, IsNameByte, IsName}
use Rattle.meta_types.proofs.Decided.{Decided, so, decided_both, decided_or, decided_le, decided_each}

decided_letter : (c : ℕ) → Decided (IsLetter c)
decided_letter c = decided_or (decided_both (decided_le 65 c) (decided_le c 90)) (decided_both (decided_le 97 c) (decided_le c 122))

decided_name_byte : (c : ℕ) → Decided (IsNameByte c)
decided_name_byte c = decided_or (decided_letter c) (decided_or (decided_both (decided_le 48 c) (decided_le c 57)) (cases_eq c 95))

decided_name : (name : List ℕ) → Decided (IsName name)
decided_name [] = inr (λ h. h)
decided_name (c ∷ cs) = decided_both (decided_letter c) (decided_each IsNameByte decided_name_byte cs)

pub name_so : (name : List ℕ) → ((IsName name → ⊥) → ⊥) → IsName name
name_so name = so (decided_name name)

pub names_so : (names : List (List ℕ)) → ((All IsName names → ⊥) → ⊥) → All IsName names
names_so names = so (decided_each IsName decided_name names)
