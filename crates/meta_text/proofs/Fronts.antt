-- What a source gives that copies the front of its bytes to the front of a buffer.
use Rattle.std.proofs.Common.{◌≡◌, ℕ, ◌+◌, ◌≤◌, min, List, [], ◌∷◌, ◌++◌, length, take, drop, true, refl, ap, sym, ◌∙◌, arith}
use Rattle.std.proofs.Common.{rules}
use Rattle.std.specs.Prelude.{◌==◌}
use Rattle.std.proofs.lemmas.List.{length-take-le, take-append-le, take_at, drop_at, drop-drop, take-append-drop}
use Rattle.meta_text.specs.InMemory.{SourceState}

-- the bytes left are those from a place on
pub left_from : (at : ℕ) (items whole left : List ℕ) → whole ≡ items → left ≡ drop at whole → left ≡ drop at items
left_from at items whole left is from = from ∙ ap (drop at) is

module _ (count size : ℕ) (left front copied rest : List ℕ) (is_count : count ≡ min size (length left))
    (is_front : front ≡ take count left) (is_copied : copied ≡ front) where
  exact : length copied ≡ count
  exact = ap length (is_copied ∙ is_front) ∙ length-take-le count left (omega (arith, is_count))

  pub given_front : take count (copied ++ rest) ≡ take count left
  given_front = take_at copied rest count exact ∙ (is_copied ∙ is_front)

  pub kept_rest : drop count (copied ++ rest) ≡ rest
  kept_rest = drop_at copied rest count exact

  -- the bytes from a place on are those that are given, and then those from the place after them on
  pub given_all : (at : ℕ) (items : List ℕ) → left ≡ drop at items
      → drop at items ≡ take count (copied ++ rest) ++ drop (at + count) items
  given_all at items from =
      sym (ap (λ t. t ++ drop (at + count) items) given_front
      ∙ (ap (λ r. take count left ++ r) (sym (drop-drop count at items) ∙ ap (drop count) (sym from))
      ∙ (take-append-drop count left ∙ from)))

-- what is copied of the front of a block
module _ (count : ℕ) (block more copied rest : List ℕ) (within : count ≤ length block) (is : copied ≡ take count (block ++ more))
  where
    of_block : copied ≡ take count block
    of_block = is ∙ take-append-le count block more within

    so_many : length copied ≡ count
    so_many = ap length of_block ∙ length-take-le count block within

    pub copied_front : take count (copied ++ rest) ≡ take count block
    copied_front = take_at copied rest count so_many ∙ of_block

    pub copied_rest : drop count (copied ++ rest) ≡ rest
    copied_rest = drop_at copied rest count so_many

-- where the test for no bytes is true, no byte is left
pub none_left : (left : List ℕ) → true ≡ (length left == 0) → left ≡ []
none_left [] e = refl
none_left (x ∷ xs) e = search rules

-- the state of a source over memory, from these parts
abbrev pub source_state : List ℕ → ℕ → List ℕ → ℕ → ℕ → SourceState
source_state left step fails calls faults = record { left = left; step = step; fails = fails; calls = calls; faults = faults }

pub same_state : (left other : List ℕ) (step : ℕ) (fails : List ℕ) (calls more faults : ℕ) → left ≡ other → calls ≡ more
    → source_state left step fails calls faults ≡ source_state other step fails more faults
same_state left other step fails calls more faults e f = ap (λ l. source_state l step fails calls faults) e
    ∙ ap (λ n. source_state other step fails n faults) f
