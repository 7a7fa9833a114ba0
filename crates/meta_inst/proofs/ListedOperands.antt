-- Lists of types and the lists of their numbers.
use Rattle.std.proofs.Common.{◌≡◌, ◌+◌, ◌⊎◌, inl, inr, ℕ, zero, suc, List, [], ◌∷◌, ◌++◌, length, slice_get, Option, None, Some, option_map}
use Rattle.std.proofs.Common.{refl, sym, ap, ap₂, ◌∙◌, subst}
use Rattle.std.proofs.lemmas.Option.{same_Some, none-some, slice_get-map}
use Rattle.std.proofs.lemmas.List.{length-map, map-append}
use Rattle.meta_lists.proofs.Places.{get_cases}
use Rattle.meta_types.specs.TypeParts.{TypeParts, IsType, number_of}
use Rattle.meta_types.specs.TypeNumber.{type_with, IsTypeNumber}
use Rattle.meta_inst.specs.Acceptance.{AreNumbersOf, IsNumberOf}

-- numbers that are each that of a type are the numbers of a list of types
pub types_of_numbers : (ns : List ℕ) → ((k n : ℕ) → slice_get ns k ≡ Some n → IsTypeNumber n) → (ts : List TypeParts) × AreNumbersOf ts ns
types_of_numbers [] each = ([], record { types = λ k t e. absurd (none-some t e); numbers = refl })
types_of_numbers (n ∷ ns) each = with_rest (each 0 n refl) (types_of_numbers ns (λ k m e. each (suc k) m e))
  where
    -- the first type, in front of those of the rest
    with_rest : IsTypeNumber n → (ts : List TypeParts) × AreNumbersOf ts ns → (ts : List TypeParts) × AreNumbersOf ts (n ∷ ns)
    with_rest r (ts, rest) =
        (type_with n ∷ ts, record { types = types; numbers = ap₂ (λ (m : ℕ) (ms : List ℕ). m ∷ ms) (sym r.numbered) rest.numbers })
      where
        -- each of them is a type
        types : (k : ℕ) (u : TypeParts) → slice_get (type_with n ∷ ts) k ≡ Some u → IsType u
        types zero u at = subst IsType (same_Some (type_with n) u at) r.is_type
        types (suc k) u at = rest.types k u at

-- two lists of types joined have the numbers of the two joined
pub AreNumbersOf-append : (ts us : List TypeParts) (ms ns : List ℕ) → AreNumbersOf ts ms → AreNumbersOf us ns
    → AreNumbersOf (ts ++ us) (ms ++ ns)
AreNumbersOf-append ts us ms ns a b = record {
  types = λ k t at. by_place k t (get_cases ts us k t at);
  numbers = ap₂ (λ (xs ys : List ℕ). xs ++ ys) a.numbers b.numbers ∙ sym (map-append number_of ts us);
}
  where
    -- a type at a place of the one or of the other
    by_place : (k : ℕ) (t : TypeParts) → (slice_get ts k ≡ Some t) ⊎ ((j : ℕ) × (k ≡ length ts + j) × (slice_get us j ≡ Some t)) → IsType t
    by_place k t (inl at) = a.types k t at
    by_place k t (inr (j, _, at)) = b.types j t at

-- lists of types are as long as those of their numbers
pub AreNumbersOf-length : (ts : List TypeParts) (ns : List ℕ) → AreNumbersOf ts ns → length ns ≡ length ts
AreNumbersOf-length ts ns a = ap (length {A = ℕ}) a.numbers ∙ length-map ts number_of

-- at the place of a type stands its number
pub number_of_type_at : (ts : List TypeParts) (ns : List ℕ) (k : ℕ) (t : TypeParts) → AreNumbersOf ts ns
    → slice_get ts k ≡ Some t → slice_get ns k ≡ Some (number_of t)
number_of_type_at ts ns k t a at = ap (λ (xs : List ℕ). slice_get xs k) a.numbers
    ∙ (slice_get-map number_of ts k ∙ ap (option_map number_of) at)

-- at the place of a number stands a type that has it
pub type_at : (ts : List TypeParts) (ns : List ℕ) (k n : ℕ) → AreNumbersOf ts ns → slice_get ns k ≡ Some n
    → (t : TypeParts) × (slice_get ts k ≡ Some t) × (number_of t ≡ n)
type_at ts ns k n a at = by_case (slice_get ts k) refl (sym (slice_get-map number_of ts k)
    ∙ (ap (λ (xs : List ℕ). slice_get xs k) (sym a.numbers) ∙ at))
  where
    -- something stands there
    by_case : (o : Option TypeParts) → slice_get ts k ≡ o → option_map number_of o ≡ Some n
        → (t : TypeParts) × (slice_get ts k ≡ Some t) × (number_of t ≡ n)
    by_case None e is = absurd (none-some n is)
    by_case (Some t) e is = (t, e, same_Some (number_of t) n is)

-- a number that is there is that of a type that is there
pub type_of_number : (e : Option TypeParts) (c : Option ℕ) (n : ℕ) → IsNumberOf e c → c ≡ Some n
    → (t : TypeParts) × (e ≡ Some t) × IsType t × (number_of t ≡ n)
type_of_number None c n h is = absurd (none-some n (sym h ∙ is))
type_of_number (Some t) c n h is = (t, refl, h.0, same_Some (number_of t) n (sym h.1 ∙ is))

-- a type that is there has its number there
pub number_of_type : (e : Option TypeParts) (c : Option ℕ) (t : TypeParts) → IsNumberOf e c → e ≡ Some t → c ≡ Some (number_of t)
number_of_type e c t h is = (subst (λ x. IsNumberOf x c) is h).1

-- no type has no number
pub number_of_none : (e : Option TypeParts) (c : Option ℕ) → IsNumberOf e c → e ≡ None → c ≡ None
number_of_none e c h is = subst (λ x. IsNumberOf x c) is h
