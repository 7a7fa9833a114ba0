-- Lists by opcodes, which begin at 1.
use Rattle.std.proofs.Common.{◌≡◌, ℕ, zero, suc, ◌-◌, ◌<◌, ◌≤◌, List, length, map, ◌↔◌, Option, None, Some, slice_get, MatchOption, IsSome}
use Rattle.std.proofs.Common.{IfSome, IfNone, Bor, refl, sym, ap, ◌∙◌, arith}
use Rattle.std.specs.List.{HoldsAt}
use Rattle.std.specs.Option.{option_copied, option_map}
use Rattle.std.proofs.lemmas.Bool.{false≢true}
use Rattle.std.proofs.lemmas.Option.{slice_get-map, slice_get_read, slice_get_past}
use Rattle.meta_gen.specs.Constraint.{entry_of}
use Rattle.meta_gen.specs.declared.constraint.OpcodeConstraints.{OpcodeConstraints}
use Rattle.meta_inst.specs.Tables.{at_opcode}

-- an opcode other than 0 stands one place before its number
pub at_opcode_before : {X : Type 0} (xs : List X) (op : ℕ) → 0 < op → at_opcode xs op ≡ slice_get xs (op - 1)
at_opcode_before xs zero h = absurd (omega arith)
at_opcode_before xs (suc k) h = let e : suc k - 1 ≡ k = omega arith in rw e refl

-- what a look-up one place before the opcode's number finds is the opcode's entry
pub entry_read : (es : List OpcodeConstraints) (op : ℕ) (o : Option (Bor OpcodeConstraints)) → 0 < op
    → MatchOption o (length es ≤ op - 1) (λ x. (op - 1 < length es) × HoldsAt (λ y. x.now ≡ y) es (op - 1))
    → IfSome (option_copied o) (λ e. at_opcode (map entry_of es) op ≡ Some (entry_of e))
entry_read es op None pos h = tt
entry_read es op (Some x) pos h =
    at_opcode_before (map entry_of es) op pos ∙ (slice_get-map entry_of es (op - 1)
    ∙ ap (option_map entry_of) (slice_get_read es (length es) (op - 1) x.now refl h.0 (h.1 x.now)))

-- ---- texts by opcodes

-- a look-up one place before the opcode's number finds a text exactly where there is the opcode
pub text_found : (xs : List (List ℕ)) (op n : ℕ) (o : Option (Bor (List ℕ))) → 0 < op → length xs ≡ n
    → MatchOption o (length xs ≤ op - 1) (λ x. (op - 1 < length xs) × HoldsAt (λ y. x.now ≡ y) xs (op - 1))
    → IsSome o ↔ ((0 < op) × (op ≤ n))
text_found xs op n None pos count h = (λ some. absurd (false≢true some), λ p. let within = p.1 in absurd (omega arith))
text_found xs op n (Some x) pos count h = let below = h.0 in (λ some. (pos, omega arith), λ p. refl)

-- and that is the opcode's text
pub text_is : (xs all : List (List ℕ)) (op : ℕ) (o : Option (Bor (List ℕ))) → 0 < op → xs ≡ all
    → MatchOption o (length xs ≤ op - 1) (λ x. (op - 1 < length xs) × HoldsAt (λ y. x.now ≡ y) xs (op - 1))
    → IfSome o (λ x. at_opcode all op ≡ Some x.now)
text_is xs all op None pos same h = tt
text_is xs all op (Some x) pos same h = ap (λ ys. at_opcode ys op) (sym same) ∙ at_opcode_before xs op pos
    ∙ slice_get_read xs (length xs) (op - 1) x.now refl h.0 (h.1 x.now)

-- or no text stands there
pub no_text : (xs all : List (List ℕ)) (op : ℕ) (o : Option (Bor (List ℕ))) → 0 < op → xs ≡ all
    → MatchOption o (length xs ≤ op - 1) (λ x. (op - 1 < length xs) × HoldsAt (λ y. x.now ≡ y) xs (op - 1))
    → IfNone o (at_opcode all op ≡ None)
no_text xs all op None pos same h = ap (λ ys. at_opcode ys op) (sym same) ∙ at_opcode_before xs op pos ∙ slice_get_past xs (op - 1) h
no_text xs all op (Some x) pos same h = tt

-- there is no opcode 0
pub no_opcode : (op n : ℕ) → op ≡ 0 → IsSome {T = Bor (List ℕ)} None ↔ ((0 < op) × (op ≤ n))
no_opcode op n is = (λ some. absurd (false≢true some), λ p. let above = p.0 in absurd (omega arith))
