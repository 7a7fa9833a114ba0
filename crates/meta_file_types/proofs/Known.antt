-- The plain types that have a variable, one after the other.
use Rattle.std.proofs.Common.{◌≡◌, ◌∙◌, ◌<◌, ◌≤◌, ◌+◌, ℕ, List, ◌∷◌, length, get_or, drop, sym, ap, subst, refl, ⊎_elim}
use Rattle.std.specs.Prelude.{Contains}
use Rattle.std.proofs.lemmas.List.{drop_all}
use Rattle.std.proofs.lemmas.Option.{slice_get_read}
use Rattle.meta_lists.proofs.Places.{drop_next}
use Rattle.meta_lists.proofs.Contained.{contains_cases, contains_none}
use Rattle.meta_types.specs.TypeParts.{TypeParts}
use Rattle.meta_types.specs.ValueTypes.{type_parts_of}
use Rattle.meta_file_types.specs.declared.plain.PlainRoot.{PlainRoot}
use Rattle.meta_file_types.specs.Held.{StandsFor}

pub stands_at : (plain : List PlainRoot) (k : ℕ) (p : PlainRoot) (t : TypeParts) → k < length plain → p ≡ get_or plain k p
    → type_parts_of p.value_type ≡ t → StandsFor plain t p.variable
stands_at plain k p t l is same = record { entry = p; among = (k, l, sym is); type_is = same; number_is = refl }

pub stands_after : (plain : List PlainRoot) (k : ℕ) (p : PlainRoot) (t : TypeParts) (n : ℕ) → k < length plain → p ≡ get_or plain k p
    → (type_parts_of p.value_type ≡ t → ⊥) → StandsFor (drop k plain) t n → StandsFor (drop (k + 1) plain) t n
stands_after plain k p t n l is other s =
    let next : drop k plain ≡ p ∷ drop (k + 1) plain = drop_next plain k p (slice_get_read plain (length plain) k p refl l is) in
    let among : Contains (p ∷ drop (k + 1) plain) s.entry = subst (λ (ps : List PlainRoot). Contains ps s.entry) next s.among in
    ⊎_elim
    (λ (e : p ≡ s.entry). absurd (other (ap (λ (q : PlainRoot). type_parts_of q.value_type) e ∙ s.type_is)))
    (λ (c : Contains (drop (k + 1) plain) s.entry). record { entry = s.entry; among = c; type_is = s.type_is; number_is = s.number_is })
    (contains_cases p s.entry (drop (k + 1) plain) among)

pub stands_nowhere : (plain : List PlainRoot) (k : ℕ) (t : TypeParts) (n : ℕ) → length plain ≤ k → StandsFor (drop k plain) t n → ⊥
stands_nowhere plain k t n l s =
    contains_none s.entry (subst (λ (ps : List PlainRoot). Contains ps s.entry) (drop_all k plain l) s.among)
