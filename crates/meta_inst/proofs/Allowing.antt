-- Where the entry of an opcode tells of the operands of an instruction one by one, the tables allow exactly what the instruction accepts.
--     TellsOperands sets i control tables entry c d      it tells of them under these controlling numbers
--     allows_exactly                                     so all operands together are allowed exactly where they are accepted
use Rattle.std.proofs.Common.{◌≡◌, ◌↔◌, ℕ, ◌+◌, List, ◌++◌, length, Option, Some, slice_get, sym, ap, ap₂, ◌∙◌, subst, length-append}
use Rattle.std.proofs.lemmas.Option.{same_Some}
use Rattle.meta_lists.proofs.Places.{get_beside, get_stays, get_right}
use Rattle.meta_types.specs.TypeParts.{TypeParts, IsType, number_of}
use Rattle.meta_types.specs.TypeNumber.{IsTypeNumber}
use Rattle.meta_typevar.specs.Variable.{Variable, Sets}
use Rattle.meta_inst.specs.Which.{both}
use Rattle.meta_inst.specs.Instruction.{Instruction, IsOperand, operands, controls_of}
use Rattle.meta_inst.specs.Control.{IsControl, HasBadSecond}
use Rattle.meta_inst.specs.Acceptance.{AcceptsNumbers, IsNumberOf, AreNumbersOf}
use Rattle.meta_inst.specs.Constraint.{TypeConstraint, IsConstraint, PassesOwn, ControlFits, Admits}
use Rattle.meta_inst.specs.Tables.{TableContents, OpcodeNumbers, PassesAt, ControlNumberFits, Allows, at_opcode, result_count}
use Rattle.meta_inst.specs.Tables.{value_count}
use Rattle.meta_inst.proofs.ControlFamily.{as_long, accepts_from_admits, admits_from_accepts}
use Rattle.meta_inst.proofs.ListedOperands.{types_of_numbers, AreNumbersOf-append, AreNumbersOf-length, number_of_type_at, type_at}

-- The counts are those of the instruction; a controlling number fits exactly where it is that of a type that fits; and, where both fit,
-- what passes at an operand's place is the number of a type, of one that passes what is asked of the operand, and no other.
pub record TellsOperands (sets : Sets) (i : Instruction) (control : Option Variable) (tables : TableContents) (entry : OpcodeNumbers)
    (c d : Option ℕ) : Type 0 where
  pub results : result_count entry.flags ≡ length i.results
  pub values : value_count entry.flags ≡ length i.values
  pub control_from : ControlNumberFits tables entry.typeset_offset c → (e : Option TypeParts) × IsNumberOf e c × ControlFits sets control e
  pub control_to : (e : Option TypeParts) → IsNumberOf e c → ControlFits sets control e → ControlNumberFits tables entry.typeset_offset c
  pub second_from : ControlNumberFits tables entry.second_offset d → (g : Option TypeParts) × IsNumberOf g d × ControlFits sets i.second g
  pub second_to : (g : Option TypeParts) → IsNumberOf g d → ControlFits sets i.second g → ControlNumberFits tables entry.second_offset d
  pub typed : ControlNumberFits tables entry.typeset_offset c → ControlNumberFits tables entry.second_offset d → (k n : ℕ) (w : Variable)
      → IsOperand i k w → PassesAt tables (both c d) (entry.constraint_offset + k) n → IsTypeNumber n
  pub passes : (k : ℕ) (w : Variable) (e g : Option TypeParts) (t : TypeParts) → IsOperand i k w → IsNumberOf e c → IsNumberOf g d
      → ControlFits sets control e → ControlFits sets i.second g → IsType t
      → (PassesAt tables (both c d) (entry.constraint_offset + k) (number_of t) ↔ PassesOwn sets (controls_of i control) (both e g) w t)

module _ (sets : Sets) (i : Instruction) (control : Option Variable) (tables : TableContents) (entry : OpcodeNumbers)
    (h : IsControl sets i control) (good : HasBadSecond sets i → ⊥) (some : (k : ℕ) (w : Variable) → IsOperand i k w
    → (x : TypeConstraint) × IsConstraint sets (controls_of i control) w x) where
  module _ (c d : Option ℕ) (tells : TellsOperands sets i control tables entry c d) (op : ℕ) (at_op : at_opcode tables.entries op
      ≡ Some entry) (rs vs : List ℕ) where
    -- What the tables allow, the instruction accepts.
    accepts_allowed : Allows tables op c d rs vs → AcceptsNumbers sets i control c d rs vs
    accepts_allowed a =
        let (e, e_number, e_fits) = tells.control_from first in
        let (g, g_number, g_fits) = tells.second_from second in
        let (ts, are_rs) = types_of_numbers rs (λ k n at. typed k n (get_stays rs vs k n at)) in
        let (us, are_vs) = types_of_numbers vs (λ k n at. typed (length rs + k) n (get_right rs vs k ∙ at)) in
        record {
          control_type = e;
          second_type = g;
          result_types = ts;
          value_types = us;
          control_number = e_number;
          second_number = g_number;
          result_numbers = are_rs;
          value_numbers = are_vs;
          accepts = accepts_from_admits sets i control e g ts us h good (admits e g ts us e_number g_number e_fits g_fits are_rs are_vs);
        }
      where
        same : a.entry ≡ entry
        same = same_Some a.entry entry (sym a.is_opcode ∙ at_op)

        results : length rs ≡ length i.results
        results = a.results ∙ ap (λ x. result_count x.flags) same ∙ tells.results

        values : length vs ≡ length i.values
        values = a.values ∙ ap (λ x. value_count x.flags) same ∙ tells.values

        first : ControlNumberFits tables entry.typeset_offset c
        first = subst (λ x. ControlNumberFits tables x.typeset_offset c) same a.control_fits

        second : ControlNumberFits tables entry.second_offset d
        second = subst (λ x. ControlNumberFits tables x.second_offset d) same a.second_fits

        -- each number passes at its operand's place
        passes : (k n : ℕ) → slice_get (rs ++ vs) k ≡ Some n → PassesAt tables (both c d) (entry.constraint_offset + k) n
        passes k n at = subst (λ x. PassesAt tables (both c d) (x.constraint_offset + k) n) same (a.passes k n at)

        -- the operands are as many as the numbers
        counted : length (rs ++ vs) ≡ length (operands i)
        counted = length-append rs vs ∙ (ap₂ (λ (m n : ℕ). m + n) results values ∙ sym (length-append i.results i.values))

        -- each number is that of a type
        typed : (k n : ℕ) → slice_get (rs ++ vs) k ≡ Some n → IsTypeNumber n
        typed k n at = let (w, w_at) = get_beside (rs ++ vs) (operands i) k n counted at
            in tells.typed first second k n w w_at (passes k n at)

        -- types with these numbers pass one test an operand
        admits : (e g : Option TypeParts) (ts us : List TypeParts) → IsNumberOf e c → IsNumberOf g d → ControlFits sets control e
            → ControlFits sets i.second g → AreNumbersOf ts rs → AreNumbersOf us vs → Admits sets i control e g ts us
        admits e g ts us e_number g_number e_fits g_fits are_rs are_vs = record {
          results = sym (AreNumbersOf-length ts rs are_rs) ∙ results;
          values = sym (AreNumbersOf-length us vs are_vs) ∙ values;
          control_fits = e_fits;
          second_fits = g_fits;
          passes = own;
        }
          where
            joined : AreNumbersOf (ts ++ us) (rs ++ vs)
            joined = AreNumbersOf-append ts us rs vs are_rs are_vs

            own : (k : ℕ) (w : Variable) (t : TypeParts) → IsOperand i k w → slice_get (ts ++ us) k ≡ Some t
                → PassesOwn sets (controls_of i control) (both e g) w t
            own k w t at t_at = (tells.passes k w e g t at e_number g_number e_fits g_fits (joined.types k t t_at)).0
                (passes k (number_of t) (number_of_type_at (ts ++ us) (rs ++ vs) k t joined t_at))

    -- What the instruction accepts, the tables allow.
    allows_accepted : AcceptsNumbers sets i control c d rs vs → Allows tables op c d rs vs
    allows_accepted a = record {
      entry = entry;
      is_opcode = at_op;
      results = AreNumbersOf-length a.result_types rs a.result_numbers ∙ (admits.results ∙ sym tells.results);
      values = AreNumbersOf-length a.value_types vs a.value_numbers ∙ (admits.values ∙ sym tells.values);
      control_fits = tells.control_to a.control_type a.control_number admits.control_fits;
      second_fits = tells.second_to a.second_type a.second_number admits.second_fits;
      passes = passes;
    }
      where
        -- the types pass one test an operand
        admits : Admits sets i control a.control_type a.second_type a.result_types a.value_types
        admits = admits_from_accepts sets i control a.control_type a.second_type a.result_types a.value_types h good some a.accepts

        -- they have these numbers
        joined : AreNumbersOf (a.result_types ++ a.value_types) (rs ++ vs)
        joined = AreNumbersOf-append a.result_types a.value_types rs vs a.result_numbers a.value_numbers

        -- the operands are as many as the types
        long : length (a.result_types ++ a.value_types) ≡ length (operands i)
        long = sym (as_long i a.result_types a.value_types admits.results admits.values)

        -- each number passes at its operand's place
        passes : (k n : ℕ) → slice_get (rs ++ vs) k ≡ Some n → PassesAt tables (both c d) (entry.constraint_offset + k) n
        passes k n n_at =
            let (t, t_at, number) = type_at (a.result_types ++ a.value_types) (rs ++ vs) k n joined n_at in
            let (w, at) = get_beside (a.result_types ++ a.value_types) (operands i) k t long t_at in
            let told = tells.passes k w a.control_type a.second_type t at a.control_number a.second_number admits.control_fits
            admits.second_fits (joined.types k t t_at) in
            subst (λ m. PassesAt tables (both c d) (entry.constraint_offset + k) m) number (told.1 (admits.passes k w t at t_at))

    pub allows_exactly : Allows tables op c d rs vs ↔ AcceptsNumbers sets i control c d rs vs
    allows_exactly = (accepts_allowed, allows_accepted)
