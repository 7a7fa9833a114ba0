-- The names of the instructions up to a place.
use Rattle.std.proofs.Common.{◌≡◌, ◌+◌, ℕ, List, [], ◌∷◌, ◌++◌, length, take, slice_get, Some, sym, ap, ◌∙◌}
use Rattle.meta_lists.proofs.Mapped.{get_map}
use Rattle.meta_types.specs.SharedNames.{IsDuplicate}
use Rattle.meta_types.proofs.NamesSoFar as names
use Rattle.meta_inst.specs.Builder.{Builder}
use Rattle.meta_inst.specs.InstructionSet.{InstructionSet}
use Rattle.meta_inst.specs.Faults.{IsAt, names_of}

-- the instruction that was read
pub read : (instructions all : List Builder) (k : ℕ) (b : Builder) → instructions ≡ all
    → slice_get instructions k ≡ Some b → slice_get all k ≡ Some b
read instructions all k b e at = sym (ap (λ xs. slice_get xs k) e) ∙ at

-- what the names before an instruction and its own tell of all names
module _ (d : InstructionSet) (k : ℕ) (b : Builder) (at : IsAt d k b) (name : List ℕ) (is : name ≡ b.name)
    (kept : List (List ℕ)) (are : kept ≡ take k (names_of d)) where
  named : slice_get (names_of d) k ≡ Some name
  named = get_map (λ (b : Builder). b.name) d.instructions k b at ∙ ap Some (sym is)

  pub shared_found : (j : ℕ) → IsDuplicate (kept ++ name ∷ []) (length kept) j → IsDuplicate (names_of d) k j
  shared_found j h = names.shared_found (names_of d) k name named kept are j h

  pub unshared_found : ((j : ℕ) → IsDuplicate (kept ++ name ∷ []) (length kept) j → ⊥) → (j : ℕ) → IsDuplicate (names_of d) k j → ⊥
  unshared_found never j h = names.unshared_found (names_of d) k name named kept are never j h

  pub kept_more : (more : List (List ℕ)) → more ≡ kept ++ name ∷ [] → more ≡ take (k + 1) (names_of d)
  kept_more more e = names.kept_more (names_of d) k name named kept are more e
