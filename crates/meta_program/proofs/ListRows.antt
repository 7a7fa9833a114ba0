-- Rows of a list of commands: their names are plain and differ, and each begins words that ask something.
use Rattle.std.proofs.Common.{◌≡◌, ◌∙◌, ◌≤◌, ◌<◌, ◌⊎◌, inl, inr, ⊎_elim, ◌&&◌, ℕ, zero, suc, Bool, true, false, not, cond}
use Rattle.std.proofs.Common.{List, [], ◌∷◌, map, slice_get, Some, refl, sym, ap, subst, arith}
use Rattle.std.specs.Prelude.{◌==◌, nat_le, nat_lt}
use Rattle.std.specs.List.{list_all, AllByRecursion}
use Rattle.std.proofs.lemmas.List.Elements.{All-from_recursion}
use Rattle.meta_lists.proofs.Everywhere.{at_place}
use Rattle.std.specs.Cmp.Lexicographic.{pointwise, bytes_decides}
use Rattle.std.proofs.lemmas.Bool.{and_parts, false≢true}
use Rattle.std.proofs.lemmas.Bool.Decides.{nat_tests}
use Rattle.std.proofs.lemmas.Option.{same_Some}
use Rattle.meta_types.specs.SharedNames.{AreDifferentNames}
use Rattle.meta_command_line.specs.Usage.{IsPlain, ArePlainlyNamed}
use Rattle.meta_command_line.specs.declared.manual.CommandForm.{CommandForm}
use Rattle.meta_program.specs.Tool.{AskSomething, IsToolList}

-- ---- plain names

abbrev pub is_plain_byte : ℕ → Bool
is_plain_byte byte = nat_le 32 byte && nat_lt byte 127

plain_byte : (byte : ℕ) → is_plain_byte byte ≡ true → (32 ≤ byte) × (byte < 127)
plain_byte byte e = grind (arith, nat_tests)

-- a text that is written out is plain
pub plain_text : (text : List ℕ) → list_all is_plain_byte text ≡ true → IsPlain text
plain_text [] e k byte at = absurd (cc)
plain_text (x ∷ text) e zero byte at =
    let both = and_parts (is_plain_byte x) (list_all is_plain_byte text) e in
    subst (λ (b : ℕ). (32 ≤ b) × (b < 127)) (same_Some _ _ at) (plain_byte x both.0)
plain_text (x ∷ text) e (suc k) byte at =
    plain_text text (and_parts (is_plain_byte x) (list_all is_plain_byte text) e).1 k byte at

abbrev is_plainly_named : CommandForm → Bool
is_plainly_named row = list_all is_plain_byte row.name.now

plainly_named : (rows : List CommandForm) → list_all is_plainly_named rows ≡ true → ArePlainlyNamed rows
plainly_named [] e k row at = absurd (cc)
plainly_named (x ∷ rows) e zero row at =
    let both = and_parts (is_plainly_named x) (list_all is_plainly_named rows) e in
    subst (λ (r : CommandForm). IsPlain r.name.now) (same_Some x row at) (plain_text x.name.now both.0)
plainly_named (x ∷ rows) e (suc k) row at =
    plainly_named rows (and_parts (is_plainly_named x) (list_all is_plainly_named rows) e).1 k row at

-- ---- different names

abbrev stands : List ℕ → List (List ℕ) → Bool
stands name [] = false
stands name (n ∷ names) = cond (pointwise ◌==◌ n name) true (stands name names)

abbrev differ : List (List ℕ) → Bool
differ [] = true
differ (name ∷ names) = not (stands name names) && differ names

-- a name is the first, or one after it
first_or : (name n : List ℕ) (names : List (List ℕ)) → (n ≡ name) ⊎ (stands name names ≡ true) → stands name (n ∷ names) ≡ true
first_or name n names h = elim (pointwise ◌==◌ n name) as (λ b. pointwise ◌==◌ n name ≡ b → cond b true (stands name names) ≡ true) [
  | true ↦ λ e. refl
  | false ↦ λ e. ⊎_elim (λ same. absurd (false≢true (sym e ∙ (bytes_decides n name).1 same))) (λ later. later) h
] refl

not_there : (name : List ℕ) (names : List (List ℕ)) (k : ℕ) → slice_get names k ≡ Some name → stands name names ≡ true
not_there name [] k at = absurd (cc)
not_there name (n ∷ names) zero at = first_or name n names (inl (same_Some n name at))
not_there name (n ∷ names) (suc k) at = first_or name n names (inr (not_there name names k at))

apart : (name : List ℕ) (names : List (List ℕ)) (k : ℕ) → differ (name ∷ names) ≡ true → slice_get names k ≡ Some name → ⊥
apart name names k e at =
    let none : not (stands name names) ≡ true = (and_parts (not (stands name names)) (differ names) e).0 in
    false≢true (ap not (sym (not_there name names k at)) ∙ none)

names_differ : (names : List (List ℕ)) → differ names ≡ true → AreDifferentNames names
names_differ [] e j k name at_j at_k = absurd (cc)
names_differ (n ∷ names) e zero zero name at_j at_k = refl
names_differ (n ∷ names) e zero (suc k) name at_j at_k =
    absurd (apart n names k e (at_k ∙ sym at_j))
names_differ (n ∷ names) e (suc j) zero name at_j at_k =
    absurd (apart n names j e (at_j ∙ sym at_k))
names_differ (n ∷ names) e (suc j) (suc k) name at_j at_k =
    ap suc (names_differ names (and_parts (not (stands n names)) (differ names) e).1 j k name at_j at_k)

-- ---- the list

abbrev BeginsSome : CommandForm → Type 0
BeginsSome row = (after : List (List ℕ)) × AskSomething (row.name.now ∷ after)

pub tool_list : (rows : List CommandForm) → AllByRecursion BeginsSome rows → list_all is_plainly_named rows ≡ true
    → differ (map (λ (row : CommandForm). row.name.now) rows) ≡ true → IsToolList rows
tool_list rows begin plain apart = record {
  plain = plainly_named rows plain;
  once = names_differ (map (λ (row : CommandForm). row.name.now) rows) apart;
  only = λ k row at. at_place BeginsSome rows k row (All-from_recursion BeginsSome rows begin) at;
}
