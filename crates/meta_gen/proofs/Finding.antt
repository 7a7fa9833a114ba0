-- What a lookup finds in the slots of the names of opcodes, which are numbered from 1.
use Rattle.std.proofs.Common.{◌≡◌, ℕ, zero, suc, Bool, List, IfSome, Some, None, Option, ap, ◌∙◌, subst, arith}
use Rattle.meta_types.specs.SharedNames.{AreDifferentNames}
use Rattle.meta_inst.specs.Tables.{TableContents, at_opcode}
use Rattle.meta_unique.specs.Probing.{IsLookup}
use Rattle.meta_unique.specs.SimpleHash.{simple_hash_of}
use Rattle.meta_unique.specs.NameSlots.{IsNumberOfName, AreNameSlots, NameAnswers, IsNameLookup}
use Rattle.meta_unique.proofs.Finding.{found_first, found_none, lookup_read}

-- an opcode that has the name has its number
opcode_number : (names : List (List ℕ)) (name : List ℕ) (op : ℕ) → at_opcode names op ≡ Some name → IsNumberOfName 1 names name op
opcode_number names name zero at = absurd (cc)
opcode_number names name (suc k) at = record { place = k; number_is = omega arith; there = at }

number_opcode : (names : List (List ℕ)) (name : List ℕ) (op : ℕ) → IsNumberOfName 1 names name op → at_opcode names op ≡ Some name
number_opcode names name op n = let e : suc n.place ≡ op = omega (arith, n.number_is)
    in subst (λ k. at_opcode names k ≡ Some name) e n.there

-- the one opcode that has the name is found
finds_opcode : (names : List (List ℕ)) (slots : List (Option ℕ)) (name : List ℕ) (found : Option ℕ) (last : ℕ) → AreNameSlots 1 names slots
    → AreDifferentNames names → IsNameLookup 1 names slots name found last
    → IfSome found (λ op. at_opcode names op ≡ Some name) × ((op : ℕ) → at_opcode names op ≡ Some name → found ≡ Some op)
finds_opcode names slots name None last s different l =
    (tt, λ op at. absurd (found_none 1 names slots s name last l op (opcode_number names name op at)))
finds_opcode names slots name (Some e) last s different l =
    let f = found_first 1 names slots s name last e l in (
      number_opcode names name e f.holds,
      λ op at.
          let n = opcode_number names name op at in
          let same = different f.holds.place n.place name f.holds.there n.there in
          ap Some (omega (arith, f.holds.number_is, n.number_is, same)),
    )

-- a lookup in the slots of the tables finds the one opcode that has the name
pub look_up : (says : ℕ → Bool → Type 0) (kept tables : TableContents) (own : List (Option ℕ)) (name : List ℕ) (start : ℕ)
    (found : Option ℕ) (last : ℕ) → kept ≡ tables → AreDifferentNames kept.names → AreNameSlots 1 kept.names kept.opcode_slots
    → own ≡ kept.opcode_slots → start ≡ simple_hash_of name → ((op : ℕ) (b : Bool) → says op b → NameAnswers 1 tables.names name op b)
    → IsLookup says own start found last
    → IfSome found (λ op. at_opcode tables.names op ≡ Some name) × ((op : ℕ) → at_opcode tables.names op ≡ Some name → found ≡ Some op)
look_up says kept tables own name start found last view different are same hashed so l =
    let slots = subst (λ (t : TableContents). AreNameSlots 1 t.names t.opcode_slots) view are in
    let here = lookup_read 1 tables.names name says own tables.opcode_slots start found last (same
    ∙ ap (λ (t : TableContents). t.opcode_slots) view) hashed so l in
    finds_opcode tables.names tables.opcode_slots name found last slots
    (subst (λ (t : TableContents). AreDifferentNames t.names) view different) here
