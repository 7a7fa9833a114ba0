-- Names that are known of a list, element by element.
use Rattle.std.proofs.Common.{◌≡◌, ◌||◌, ℕ, ◌+◌, ◌<◌, ◌≤◌, Bool, List, [], ◌∷◌, ◌++◌, length, get_or, take}
use Rattle.std.proofs.Common.{sym, ap, ◌∙◌, append_assoc, append-nil}
use Rattle.std.specs.List.{list_any, flat_map}
use Rattle.std.proofs.lemmas.List.{take_more, take_all}
use Rattle.std.proofs.lemmas.List.Folds.{list_any-append}
use Rattle.meta_rust_names.proofs.Truths.{or_comm, or_false}

-- what is made of a list and one element more
mapped_more : {A X : Type 0} (f : A → List X) (front : List A) (a : A) → flat_map f (front ++ a ∷ []) ≡ flat_map f front ++ f a
mapped_more f [] a = append-nil (f a)
mapped_more f (b ∷ front) a = ap (λ t. f b ++ t) (mapped_more f front a) ∙ sym (append_assoc (f b) (flat_map f front) (f a))

-- the elements before the next place
more_taken : {A X : Type 0} (f : A → List X) (xs : List A) (i : ℕ) (a : A) → i < length xs → a ≡ get_or xs i a
    → flat_map f (take (i + 1) xs) ≡ flat_map f (take i xs) ++ f a
more_taken f xs i a within is =
    ap (flat_map f) (take_more xs i a within ∙ ap (λ b. take i xs ++ b ∷ []) (sym is)) ∙ mapped_more f (take i xs) a

pub known_more : {A X : Type 0} (p : X → Bool) (f : A → List X) (xs : List A) (i : ℕ) (a : A) (new old : Bool) → i < length xs
    → a ≡ get_or xs i a → new ≡ (list_any p (f a) || old) → old ≡ list_any p (flat_map f (take i xs))
    → new ≡ list_any p (flat_map f (take (i + 1) xs))
known_more p f xs i a new old within is added so_far =
    added ∙ ap (λ b. list_any p (f a) || b) so_far ∙ or_comm (list_any p (f a)) (list_any p (flat_map f (take i xs)))
    ∙ sym (ap (list_any p) (more_taken f xs i a within is) ∙ list_any-append p (flat_map f (take i xs)) (f a))

-- where each element makes one
pub known_one_more : {A X : Type 0} (p : X → Bool) (f : A → X) (xs : List A) (i : ℕ) (a : A) (new old : Bool) → i < length xs
    → a ≡ get_or xs i a → new ≡ (p (f a) || old) → old ≡ list_any p (flat_map (λ x. f x ∷ []) (take i xs))
    → new ≡ list_any p (flat_map (λ x. f x ∷ []) (take (i + 1) xs))
known_one_more p f xs i a new old within is added so_far =
    known_more p (λ x. f x ∷ []) xs i a new old within is (added ∙ ap (λ b. b || old) (sym (or_false (p (f a))))) so_far

pub known_all : {A X : Type 0} (p : X → Bool) (f : A → List X) (xs : List A) (i : ℕ) (old : Bool) → length xs ≤ i
    → old ≡ list_any p (flat_map f (take i xs)) → old ≡ list_any p (flat_map f xs)
known_all p f xs i old past so_far = so_far ∙ ap (λ l. list_any p (flat_map f l)) (take_all i xs past)
