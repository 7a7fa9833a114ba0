-- One more number after those of which each stands once.
use Rattle.std.proofs.Common.{◌≡◌, ℕ, Bool, true, false, not, cond, ◌||◌, eqb, List, [], ◌∷◌, ◌++◌, refl, sym, ap, ◌∙◌, arith}
use Rattle.std.specs.List.{filter}
use Rattle.std.proofs.lemmas.List.{append-nil}
use Rattle.std.proofs.lemmas.List.Elements.{filter-append}
use Rattle.std.proofs.lemmas.Bool.{false≢true}
use Rattle.std.proofs.lemmas.Bool.Decides.{Decides-eqb, nat_tests}
use Rattle.meta_settings.specs.Marked.{stands_in}
use Rattle.meta_settings.specs.TurnedOn.{firsts}

-- the numbers other than x
abbrev without : ℕ → List ℕ → List ℕ
without x ys = filter (λ m. not (eqb m x)) ys

same_either_way : (x n : ℕ) (b : Bool) → eqb x n ≡ b → eqb n x ≡ b
same_either_way x n b e = grind (arith, nat_tests)

-- to leave another number out changes nothing for n
stands_without : (n x : ℕ) (ys : List ℕ) → eqb x n ≡ false → stands_in n (without x ys) ≡ stands_in n ys
stands_without n x [] e = refl
stands_without n x (y ∷ ys) e =
    elim (eqb y x) as (λ b. eqb y x ≡ b → stands_in n (cond (not b) (y ∷ without x ys) (without x ys)) ≡ (eqb y n || stands_in n ys)) [
      | true ↦ λ t.
          let same : eqb y n ≡ false = ap (λ z. eqb z n) ((Decides-eqb y x).0 t) ∙ e in
          stands_without n x ys e ∙ sym (ap (λ b. b || stands_in n ys) same)
      | false ↦ λ t. ap (λ b. eqb y n || b) (stands_without n x ys e)
    ] refl

left_out : (n x : ℕ) → eqb x n ≡ true → without x (n ∷ []) ≡ []
left_out n x e = ap (λ b. cond (not b) (n ∷ []) []) (same_either_way x n true e)

kept_in : (n x : ℕ) → eqb x n ≡ false → without x (n ∷ []) ≡ n ∷ []
kept_in n x e = ap (λ b. cond (not b) (n ∷ []) []) (same_either_way x n false e)

-- what one more number does: nothing where it stands there, and else it comes last
pub record Pushed (n : ℕ) (xs : List ℕ) : Type 0 where
  pub before : stands_in n (firsts xs) ≡ true → firsts (xs ++ n ∷ []) ≡ firsts xs
  pub first : stands_in n (firsts xs) ≡ false → firsts (xs ++ n ∷ []) ≡ firsts xs ++ n ∷ []

module _ (n x : ℕ) (xs : List ℕ) (p : Pushed n xs) where
  -- n is x, which stands in front
  same : eqb x n ≡ true → without x (firsts (xs ++ n ∷ [])) ≡ without x (firsts xs)
  same e =
      elim (stands_in n (firsts xs)) as (λ b. stands_in n (firsts xs) ≡ b → without x (firsts (xs ++ n ∷ [])) ≡ without x (firsts xs)) [
        | true ↦ λ t. ap (without x) (p.before t)
        | false ↦ λ t. ap (without x) (p.first t) ∙ filter-append (λ m. not (eqb m x)) (firsts xs) (n ∷ [])
            ∙ ap (λ z. without x (firsts xs) ++ z) (left_out n x e) ∙ append-nil (without x (firsts xs))
      ] refl

  more_before : stands_in n (firsts (x ∷ xs)) ≡ true → firsts (x ∷ (xs ++ n ∷ [])) ≡ firsts (x ∷ xs)
  more_before t =
      elim (eqb x n) as (λ b. eqb x n ≡ b → (b || stands_in n (without x (firsts xs))) ≡ true
      → x ∷ without x (firsts (xs ++ n ∷ [])) ≡ x ∷ without x (firsts xs)) [
        | true ↦ λ e s. ap (λ z. x ∷ z) (same e)
        | false ↦ λ e s. ap (λ z. x ∷ without x z) (p.before (sym (stands_without n x (firsts xs) e) ∙ s))
      ] refl t

  more_first : stands_in n (firsts (x ∷ xs)) ≡ false → firsts (x ∷ (xs ++ n ∷ [])) ≡ firsts (x ∷ xs) ++ n ∷ []
  more_first t =
      elim (eqb x n) as (λ b. eqb x n ≡ b → (b || stands_in n (without x (firsts xs))) ≡ false
      → x ∷ without x (firsts (xs ++ n ∷ [])) ≡ x ∷ (without x (firsts xs) ++ n ∷ [])) [
        | true ↦ λ e s. absurd (false≢true (sym s))
        | false ↦ λ e s.
            ap (λ z. x ∷ without x z) (p.first (sym (stands_without n x (firsts xs) e) ∙ s))
            ∙ ap (λ z. x ∷ z) (filter-append (λ m. not (eqb m x)) (firsts xs) (n ∷ [])
            ∙ ap (λ z. without x (firsts xs) ++ z) (kept_in n x e))
      ] refl t

pub pushed : (n : ℕ) (xs : List ℕ) → Pushed n xs
pushed n [] = record { before = λ t. absurd (false≢true t); first = λ t. refl }
pushed n (x ∷ xs) = let p = pushed n xs in record { before = more_before n x xs p; first = more_first n x xs p }
