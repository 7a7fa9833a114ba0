-- The names of valid declarations, and those of the formats in use.
use Rattle.std.proofs.Common.{◌≡◌, ◌≢◌, ◌<◌, ◌≤◌, ◌⊎◌, inl, inr, ⊎_elim, ℕ, zero, suc, List, All, length, map, slice_get, Some, refl, sym}
use Rattle.std.proofs.Common.{ap, ◌∙◌, subst, below_more, arith}
use Rattle.std.proofs.lemmas.Bool.{cases_eq}
use Rattle.std.proofs.lemmas.Option.{same_Some, slice_get_within}
use Rattle.meta_lists.proofs.Everywhere.{everywhere, at_place}
use Rattle.meta_lists.proofs.Mapped.{get_map, get_mapped}
use Rattle.meta_lists.proofs.Places.{get_there, get_beside}
use Rattle.meta_types.specs.Name.{IsName}
use Rattle.meta_types.proofs.NamesDecided.{name_so}
use Rattle.meta_types.specs.SharedNames.{AreDistinct}
use Rattle.meta_operands.specs.declared.format.InstructionFormat.{InstructionFormat}
use Rattle.meta_inst.specs.Builder.{Builder}
use Rattle.meta_inst.specs.InstructionFaults.{NameRule, DuplicateRule}
use Rattle.meta_inst.specs.InstructionSet.{InstructionSet}
use Rattle.meta_inst.specs.Faults.{IsAt, IsFirstUse, IsValid, OfInstruction, OfFormat, FormatNameRule, names_of}
use Rattle.meta_gen.specs.TablesOf.{AreFormatNames}

-- what holds of what a function makes of each element
pub all_unmapped : {X Y : Type 0} (P : Y → Type 0) (f : X → Y) (xs : List X) → All P (map f xs) → All (λ x. P (f x)) xs
all_unmapped P f xs all = everywhere xs (λ k x at. at_place P (map f xs) k (f x) all (get_map f xs k x at))

-- what can't be no name is one
pub is_name_where : (name : List ℕ) → ((IsName name → ⊥) → ⊥) → IsName name
is_name_where = name_so

-- ---- the names of valid declarations

module _ (d : InstructionSet) (valid : IsValid d) where
  pub valid_names : All IsName (names_of d)
  valid_names = everywhere (names_of d) (λ k name at.
      let (b, b_at, is) = get_mapped (λ (x : Builder). x.name) d.instructions k name at in
      name_so name (λ none. valid (OfInstruction k NameRule) _
      (inl (record { builder = b; at = b_at; breaks = (refl, (λ n. none (subst IsName is n))) }))))

  pub distinct_names : AreDistinct (names_of d)
  distinct_names k j shared =
      valid (OfInstruction k DuplicateRule) _ (inr (record { second = refl; earlier = j; duplicate = shared; tells = refl }))

  -- the format is used first at some place among the first n, or at none of them
  first_use : (f n : ℕ) → n ≤ length d.instructions → ((j : ℕ) × IsFirstUse d f j)
      ⊎ ((i : ℕ) (b : Builder) → i < n → IsAt d i b → b.format ≢ f)
  first_use f zero l = inr (λ i b below at. absurd (omega (arith, below)))
  first_use f (suc n) l =
      ⊎_elim
      (λ found. inl found)
      (λ unused.
      let (b, at) = get_there d.instructions n (omega arith) in
      ⊎_elim
      (λ same. inl (n, record { user = b; at = at; uses = same; first = unused }))
      (λ other. inr (λ i c below at_c. below_more (λ i. (c : Builder) → IsAt d i c → c.format ≢ f) n
      (λ i l c at_c. unused i c l at_c)
      (λ c at_c same. other (ap (λ (x : Builder). x.format) (same_Some b c (sym at ∙ at_c)) ∙ same))
      i (omega (arith, below)) c at_c))
      (cases_eq b.format f))
      (first_use f n (omega arith))

  -- each format in use has a name
  format_name : (k : ℕ) (b : Builder) (format : InstructionFormat) → IsAt d k b → slice_get d.formats b.format ≡ Some format
      → IsName format.name
  format_name k b format at is =
      ⊎_elim
      (λ used. name_so format.name (λ none. valid (OfFormat used.0 FormatNameRule) _
      (record { format = b.format; first_use = used.1; breaks = (refl, (format, is, none)) })))
      (λ unused. absurd (unused k b (slice_get_within d.instructions k b at) at refl))
      (first_use b.format (length d.instructions) (omega arith))

  pub valid_formats : (names : List (List ℕ)) → AreFormatNames d.formats d.instructions names → All IsName names
  valid_formats names are = everywhere names (λ k name at.
      let (b, b_at) = get_beside names d.instructions k name are.count at in
      let h = are.each k b b_at in
      subst IsName (same_Some h.format.name name (sym h.named ∙ at)) (format_name k b h.format b_at h.is_format))
