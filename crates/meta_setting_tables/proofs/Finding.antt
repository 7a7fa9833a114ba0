-- What a lookup finds in the slots of the names of entries, which are numbered from 0.
use Rattle.std.proofs.Common.{◌≡◌, ◌↔◌, ℕ, Bool, List, slice_get, Some, None, Option, sym, ap, ◌∙◌, arith}
use Rattle.std.proofs.lemmas.Option.{same_Some}
use Rattle.meta_types.specs.SharedNames.{AreDifferentNames}
use Rattle.meta_unique.specs.Probing.{IsLookup}
use Rattle.meta_unique.specs.SimpleHash.{simple_hash_of}
use Rattle.meta_unique.specs.NameSlots.{AreNameSlots, NameAnswers, IsNameLookup}
use Rattle.meta_unique.proofs.Finding.{found_first, found_none, lookup_read}
use Rattle.meta_setting_tables.specs.FoundSetting.{FindsEntry}

pub finds_entry : (names : List (List ℕ)) (slots : List (Option ℕ)) (name : List ℕ) (found : Option ℕ) (last : ℕ)
    → AreNameSlots 0 names slots → IsNameLookup 0 names slots name found last → FindsEntry names name found
finds_entry names slots name None last s l = λ e at. found_none 0 names slots s name last l e
    (record { place = e; number_is = omega arith; there = at })
finds_entry names slots name (Some e) last s l =
    let f = found_first 0 names slots s name last e l in
    let same : f.holds.place ≡ e = omega (arith, f.holds.number_is) in
    record {
      holds = ap (slice_get names) (sym same) ∙ f.holds.there;
      none_before = λ j before at. f.none_before j before (record { place = j; number_is = omega arith; there = at });
    }

-- what a probe finds in the slots of names
pub finds_in : (names : List (List ℕ)) (name : List ℕ) (says : ℕ → Bool → Type 0) (own slots : List (Option ℕ))
    (start : ℕ) (found : Option ℕ) → AreNameSlots 0 names own → slots ≡ own → start ≡ simple_hash_of name
    → ((number : ℕ) (b : Bool) → says number b → NameAnswers 0 names name number b)
    → (last : ℕ) × IsLookup says slots start found last → FindsEntry names name found
finds_in names name says own slots start found s e h so l =
    finds_entry names own name found l.0 s (lookup_read 0 names name says slots own start found l.0 e h so l.1)

-- where no two names are the same, an entry is found exactly where it has the name
pub finds_exactly : (names : List (List ℕ)) (name : List ℕ) (found : Option ℕ) → FindsEntry names name found
    → AreDifferentNames names → (e : ℕ) → (found ≡ Some e) ↔ (slice_get names e ≡ Some name)
finds_exactly names name None f apart e = (λ is. absurd (cc), λ at. absurd (f e at))
finds_exactly names name (Some k) f apart e =
    (λ is. let same : k ≡ e = same_Some k e is in ap (slice_get names) (sym same) ∙ f.holds, λ at. ap Some (apart k e name f.holds at))
