-- The groups that are built, one after another.
use Rattle.std.proofs.Common.{◌≡◌, ◌⊎◌, inl, inr, ℕ, ◌+◌, ◌<◌, ◌≤◌, List, [], ◌∷◌, ◌++◌, length, map, take, slice_get, Some, sym, ap, ◌∙◌}
use Rattle.std.proofs.Common.{subst, arith}
use Rattle.std.proofs.lemmas.Bool.{cases_lt}
use Rattle.std.proofs.lemmas.List.{map-append, take_more}
use Rattle.std.proofs.lemmas.Option.{slice_get_within, same_Some, get_or_from_slice_get}
use Rattle.std.proofs.Math.Seq.{take_all}
use Rattle.meta_types.specs.declared.fault.DefinitionError.{DefinitionError}
use Rattle.meta_settings.specs.GroupDeclaration.{GroupDeclaration}
use Rattle.meta_settings.specs.GroupFaults.{IsFirstGroupFault, IsValidGroup}
use Rattle.meta_settings.specs.Layout.{Layout}
use Rattle.meta_settings.specs.LaidOut.{built_of}
use Rattle.meta_build.specs.AllDeclared.{IsFirstOfGroups, AreValidGroups}

-- the first n groups are valid, and these are built of them
pub record AreBuiltTo (groups : List GroupDeclaration) (n : ℕ) (built : List Layout) : Type 0 where
  pub valid : (k : ℕ) (g : GroupDeclaration) → k < n → slice_get groups k ≡ Some g → IsValidGroup g
  pub are : built ≡ map built_of (take n groups)

pub groups_next : (groups : List GroupDeclaration) (n : ℕ) (g : GroupDeclaration) (b : Layout) (old new : List Layout)
    → slice_get groups n ≡ Some g → IsValidGroup g → b ≡ built_of g → new ≡ old ++ b ∷ [] → AreBuiltTo groups n old
    → AreBuiltTo groups (n + 1) new
groups_next groups n g b old new at is_valid is more so = record {
  valid = λ k h l at'. sound k h l at' (cases_lt k n);
  are =
      let one : take (n + 1) groups ≡ take n groups ++ g ∷ [] = take_more groups n g (slice_get_within groups n g at)
      ∙ ap (λ y. take n groups ++ y ∷ []) (get_or_from_slice_get groups n g g at) in
      more ∙ ap (λ w. w ++ b ∷ []) so.are ∙ ap (λ y. map built_of (take n groups) ++ y ∷ []) is
      ∙ sym (map-append built_of (take n groups) (g ∷ [])) ∙ sym (ap (map built_of) one);
}
  where
    same_group : (k : ℕ) (h : GroupDeclaration) → k ≡ n → slice_get groups k ≡ Some h → g ≡ h
    same_group k h here at' = same_Some g h (sym at ∙ ap (slice_get groups) (sym here) ∙ at')

    sound : (k : ℕ) (h : GroupDeclaration) → k < n + 1 → slice_get groups k ≡ Some h → (k < n) ⊎ (n ≤ k) → IsValidGroup h
    sound k h l at' (inl before) = so.valid k h before at'
    sound k h l at' (inr after) = subst IsValidGroup (same_group k h (omega (arith, l, after)) at') is_valid

pub all_valid : (groups : List GroupDeclaration) (n : ℕ) (built : List Layout) → length groups ≤ n → AreBuiltTo groups n built
    → AreValidGroups groups
all_valid groups n built past so k g at = so.valid k g (let l = slice_get_within groups k g at in omega (arith, l, past)) at

pub all_built : (groups : List GroupDeclaration) (n : ℕ) (built : List Layout) → length groups ≤ n → AreBuiltTo groups n built
    → built ≡ map built_of groups
all_built groups n built past so = so.are ∙ ap (map built_of) (take_all n groups past)

-- the group after valid ones is the first that has a fault
pub first_here : (groups : List GroupDeclaration) (n : ℕ) (g : GroupDeclaration) (e : DefinitionError) (built : List Layout)
    → slice_get groups n ≡ Some g → IsFirstGroupFault g n e → AreBuiltTo groups n built → IsFirstOfGroups groups e
first_here groups n g e built at first so = record { place = n; group = g; at = at; first = first; earlier = so.valid }
