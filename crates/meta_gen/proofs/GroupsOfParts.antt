-- The tables of groups from their parts, one after another.
use Rattle.std.proofs.Common.{◌≡◌, ◌<◌, ◌+◌, ⊎_elim, ℕ, List, [], ◌∷◌, ◌++◌, All, length, get_or, slice_get, Some, refl, sym, ap, ◌∙◌}
use Rattle.std.proofs.Common.{subst, length-append, arith}
use Rattle.std.proofs.lemmas.List.Elements.{All-push, All-same}
use Rattle.std.proofs.lemmas.Option.{same_Some, slice_get_read}
use Rattle.meta_lists.proofs.Everywhere.{at_place}
use Rattle.meta_lists.proofs.Places.{get_beside}
use Rattle.meta_lists.proofs.Pushed.{get_before, get_pushed_below, last, one_longer}
use Rattle.meta_setting_tables.specs.declared.parts.GroupParts.{GroupParts}
use Rattle.meta_setting_tables.specs.GroupTables.{GroupContents}
use Rattle.meta_setting_tables.specs.WellFormed.{IsWellFormedGroup}
use Rattle.meta_setting_tables.specs.Parts.{HasGroupParts}
use Rattle.meta_gen.specs.Parts.{HaveGroupParts}

-- the tables are made of these parts, and well-formed
pub record MadeOf (parts : List GroupParts) (groups : List GroupContents) : Type 0 where
  pub have : HaveGroupParts parts groups
  pub well_formed : All IsWellFormedGroup groups

-- one more group
pub one_made : (front : List GroupParts) (p : GroupParts) (old new : List GroupContents) (g : GroupContents) → new ≡ old ++ g ∷ []
    → HasGroupParts p g → IsWellFormedGroup g → MadeOf front old → MadeOf (front ++ p ∷ []) new
one_made front p old new g pushed has good h = record {
  have = record {
    count = one_longer old new g pushed ∙ ap (λ n. n + 1) h.have.count ∙ sym (length-append front (p ∷ []));
    each = λ k q t at there. ⊎_elim
        (λ before. h.have.each k q t before.1 (sym (get_before old g k (omega (arith, before.0, h.have.count)))
        ∙ (ap (λ xs. slice_get xs k) (sym pushed) ∙ there)))
        (λ here.
        let same : g ≡ t = same_Some g t (sym (last old new g pushed k (here.0 ∙ sym h.have.count)) ∙ there) in
        subst (HasGroupParts q) same (subst (λ (x : GroupParts). HasGroupParts x g) here.1 has))
        (get_pushed_below front p k q at);
  };
  well_formed = All-same IsWellFormedGroup new (old ++ g ∷ []) pushed (All-push IsWellFormedGroup old g h.well_formed good);
}

-- where no well-formed tables have one group's parts, none have all
pub refused : (parts : List GroupParts) (k : ℕ) (p : GroupParts) → (k < length parts) × (p ≡ get_or parts k p)
    → ((t : GroupContents) → IsWellFormedGroup t → HasGroupParts p t → ⊥) → (groups : List GroupContents) → All IsWellFormedGroup groups
    → HaveGroupParts parts groups → ⊥
refused parts k p (below, is) none groups good have =
    let at : slice_get parts k ≡ Some p = slice_get_read parts (length parts) k p refl below is in
    let (g, at_g) = get_beside parts groups k p (sym have.count) at in
    none g (at_place IsWellFormedGroup groups k g good at_g) (have.each k p g at at_g)
