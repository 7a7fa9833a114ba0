-- What is made of each element of a list, place by place.
use Rattle.std.proofs.Common.{◌≡◌, ◌∙◌, ◌≤◌, ◌+◌, ℕ, List, [], ◌∷◌, ◌++◌, length, drop, sym, ap, refl, append_assoc}
use Rattle.std.specs.Prelude.{slice_get, Some, Result, Ok, Err}
use Rattle.std.proofs.lemmas.List.{append-nil, drop_all}
use Rattle.meta_lists.proofs.Places.{drop_next}
use Rattle.meta_file_types.specs.declared.refused.Reason.{Reason}
use Rattle.meta_file_types.specs.declared.refused.ItemError.{ItemError}
use Rattle.meta_file_types.specs.declared.refused.ItemError.TheVariants.{Memory, Wrong}
use Rattle.meta_file_types.specs.Telling.{◌>>=◌, Fails}
use Rattle.meta_file_declare.specs.Telling.{each_from}

-- these are made of the elements before place k: with what is made of those that are left they are what is made of all
pub record SoFar {A B : Type 0} (f : ℕ → A → Result B Reason) (xs : List A) (k : ℕ) (P : List B → Type 0) : Type 0 where
  pub made : List B
  pub rest : (each_from f k (drop k xs) >>= λ more. Ok (made ++ more)) ≡ each_from f 0 xs
  pub are : P made

again : {B : Type 0} (r : Result (List B) Reason) → (r >>= λ more. Ok ([] ++ more)) ≡ r
again (Ok more) = refl
again (Err reason) = refl

pub begun : {A B : Type 0} (f : ℕ → A → Result B Reason) (xs : List A) (P : List B → Type 0) → P [] → SoFar f xs 0 P
begun f xs P p = record { made = []; rest = again (each_from f 0 xs); are = p }

regroup : {B : Type 0} (made : List B) (y : B) (r : Result (List B) Reason)
    → (r >>= λ more. Ok ((made ++ y ∷ []) ++ more)) ≡ ((r >>= λ ys. Ok (y ∷ ys)) >>= λ more. Ok (made ++ more))
regroup made y (Ok ys) = ap (λ (zs : List _). Ok zs) (append_assoc made (y ∷ []) ys)
regroup made y (Err reason) = refl

-- one more
pub goes_on : {A B : Type 0} (f : ℕ → A → Result B Reason) (xs : List A) (k : ℕ) (x : A) (y : B) (P Q : List B → Type 0)
    → slice_get xs k ≡ Some x → f k x ≡ Ok y → ((made : List B) → P made → Q (made ++ y ∷ [])) → SoFar f xs k P → SoFar f xs (k + 1) Q
goes_on f xs k x y P Q at e g h =
    let left : drop k xs ≡ x ∷ drop (k + 1) xs = drop_next xs k x at in
    record {
      made = h.made ++ y ∷ [];
      rest = regroup h.made y (each_from f (k + 1) (drop (k + 1) xs))
          ∙ (ap (λ a. (a >>= λ z. each_from f (k + 1) (drop (k + 1) xs) >>= λ ys. Ok (z ∷ ys)) >>= λ more. Ok (h.made ++ more)) (sym e)
          ∙ (ap (λ zs. each_from f k zs >>= λ more. Ok (h.made ++ more)) (sym left) ∙ h.rest));
      are = g h.made h.are;
    }

-- the next one fails
pub fails_here : {A B : Type 0} (f : ℕ → A → Result B Reason) (xs : List A) (k : ℕ) (x : A) (P : List B → Type 0) (e : ItemError)
    → slice_get xs k ≡ Some x → Fails e (f k x) → SoFar f xs k P → Fails e (each_from f 0 xs)
fails_here f xs k x P Memory at w h = tt
fails_here f xs k x P (Wrong reason) at w h =
    let left : drop k xs ≡ x ∷ drop (k + 1) xs = drop_next xs k x at in
    sym h.rest
    ∙ (ap (λ zs. each_from f k zs >>= λ more. Ok (h.made ++ more)) left
    ∙ ap (λ a. (a >>= λ z. each_from f (k + 1) (drop (k + 1) xs) >>= λ ys. Ok (z ∷ ys)) >>= λ more. Ok (h.made ++ more)) w)

-- none is left
pub ended : {A B : Type 0} (f : ℕ → A → Result B Reason) (xs : List A) (k : ℕ) (P : List B → Type 0) → length xs ≤ k
    → (h : SoFar f xs k P) → each_from f 0 xs ≡ Ok h.made
ended f xs k P past h =
    sym h.rest ∙ (ap (λ zs. each_from f k zs >>= λ more. Ok (h.made ++ more)) (drop_all k xs past)
    ∙ ap (λ (zs : List _). Ok zs) (append-nil h.made))
