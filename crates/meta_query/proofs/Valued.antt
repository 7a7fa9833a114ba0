-- What is so of operands that are the values of a shape.
use Rattle.std.proofs.Common.{◌≡◌, ◌<◌, ◌+◌, ◌&&◌, ◌||◌, ℕ, zero, suc, Bool, true, false, not, cond, List, [], ◌∷◌, length, map, get_or}
use Rattle.std.proofs.Common.{slice_get, Some, codes, refl, sym, ap, subst, ◌∙◌, arith}
use Rattle.std.specs.List.{AllZip, count_by, filter, cons_option, list_any, position}
use Rattle.std.specs.Option.{is_some}
use Rattle.std.proofs.lemmas.Bool.{false≢true}
use Rattle.std.proofs.lemmas.Option.{same_Some}
use Rattle.std.proofs.lemmas.List.Sums.{sum_by-cons}
use Rattle.std.proofs.lemmas.List.Quantifiers.{position-Some}
use Rattle.meta_typevar.specs.Variable.{Variable}
use Rattle.meta_typevar.specs.declared.content.TypeVarContent.{TypeVarContent}
use Rattle.meta_operands.specs.Texts.{same_text}
use Rattle.meta_operands.specs.Kind.{variable_in, holds_varargs, holds_immediate_or_entityref}
use Rattle.meta_operands.specs.Operand.{variable_of, variables_of, is_varargs_operand}
use Rattle.meta_operands.specs.declared.operand.Operand.{Operand}
use Rattle.meta_inst.specs.Operands.{variables_at, AreOf}
use Rattle.meta_inst.specs.FormatMatch.{is_value_operand, is_block_operand, is_raw_block_operand, is_field_operand, operand_field_name}
use Rattle.meta_inst.specs.FormatMatch.{field_names}
use Rattle.meta_inst.specs.InstructionFaults.{is_bad_output}
use Rattle.meta_inst.specs.InstructionSet.{begins_with_value}
use Rattle.meta_query.specs.Synth.{IsValueOf}

and_false : (a : Bool) → (a && false) ≡ false
and_false true = refl
and_false false = refl

-- one that is counted, and one that isn't
counted : (p : Operand → Bool) (b : Bool) (o : Operand) (os : List Operand) → p o ≡ b → count_by p (o ∷ os) ≡ cond b 1 0 + count_by p os
counted p b o os e = sum_by-cons (λ m. cond (p m) 1 0) o os ∙ ap (λ b. cond b 1 0 + count_by p os) e

module _ (vars : List TypeVarContent) where
  abbrev Are : List (List ℕ × Variable) → List Operand → Type 0
  Are ps os = AllZip (IsValueOf vars) ps os

  has_variable : (p : List ℕ × Variable) (o : Operand) (h : IsValueOf vars p o) → variable_of o ≡ Some h.number
  has_variable p o h = ap variable_in h.fields

  is_value : (p : List ℕ × Variable) (o : Operand) → IsValueOf vars p o → is_value_operand o ≡ true
  is_value p o h = ap is_some (has_variable p o h)

  is_no_block : (p : List ℕ × Variable) (o : Operand) → IsValueOf vars p o → is_block_operand o ≡ false
  is_no_block p o h = ap (λ t. same_text t (codes "ir::BlockCall")) h.rust_type

  is_no_raw_block : (p : List ℕ × Variable) (o : Operand) → IsValueOf vars p o → is_raw_block_operand o ≡ false
  is_no_raw_block p o h = ap (λ t. same_text t (codes "ir::Block")) h.rust_type

  is_no_varargs : (p : List ℕ × Variable) (o : Operand) → IsValueOf vars p o → is_varargs_operand o ≡ false
  is_no_varargs p o h = ap holds_varargs h.fields

  is_no_field : (p : List ℕ × Variable) (o : Operand) → IsValueOf vars p o → is_field_operand o ≡ false
  is_no_field p o h =
      ap (λ b. not (is_block_operand o) && (not (is_raw_block_operand o) && b)) (ap holds_immediate_or_entityref h.fields)
      ∙ ap (λ b. not (is_block_operand o) && b) (and_false (not (is_raw_block_operand o)))
      ∙ and_false (not (is_block_operand o))

  is_good_output : (p : List ℕ × Variable) (o : Operand) → IsValueOf vars p o → is_bad_output o ≡ false
  is_good_output p o h = ap (λ b. not b && not (is_varargs_operand o)) (is_value p o h)

  -- ---- lists

  pub variables : (ps : List (List ℕ × Variable)) (os : List Operand) → Are ps os → variables_at vars (variables_of os) ≡ map (λ p. p.1) ps
  variables [] [] h = refl
  variables [] (o ∷ os) h = absurd h
  variables (p ∷ ps) [] h = absurd h
  variables (p ∷ ps) (o ∷ os) h =
      let value : IsValueOf vars p o = h.0 in
      ap (λ v. variables_at vars (cons_option v (variables_of os))) (has_variable p o value)
      ∙ (λ i. value.variable i ∷ variables ps os h.1 i)

  pub are_of : (ps : List (List ℕ × Variable)) (os : List Operand) → Are ps os → AreOf vars (variables_of os)
  are_of [] [] h k n at = absurd (cc)
  are_of [] (o ∷ os) h k n at = absurd h
  are_of (p ∷ ps) [] h k n at = absurd h
  are_of (p ∷ ps) (o ∷ os) h k n at = told k (sym (ap (λ v. slice_get (cons_option v (variables_of os)) k) (has_variable p o h.0))
      ∙ at) (λ j e. are_of ps os h.1 j n e)
    where
      told : (k : ℕ) → slice_get (h.0.number ∷ variables_of os) k ≡ Some n
          → ((j : ℕ) → slice_get (variables_of os) j ≡ Some n → n < length vars) → n < length vars
      told zero e rest = subst (λ m. m < length vars) (same_Some h.0.number n e) h.0.of
      told (suc k) e rest = rest k e

  pub value_count : (ps : List (List ℕ × Variable)) (os : List Operand) → Are ps os → count_by is_value_operand os ≡ length ps
  value_count [] [] h = refl
  value_count [] (o ∷ os) h = absurd h
  value_count (p ∷ ps) [] h = absurd h
  value_count (p ∷ ps) (o ∷ os) h = omega (arith, counted is_value_operand true o os (is_value p o h.0), value_count ps os h.1)

  pub variable_count : (ps : List (List ℕ × Variable)) (os : List Operand) → Are ps os → length (variables_of os) ≡ length ps
  variable_count [] [] h = refl
  variable_count [] (o ∷ os) h = absurd h
  variable_count (p ∷ ps) [] h = absurd h
  variable_count (p ∷ ps) (o ∷ os) h = ap (λ v. length (cons_option v (variables_of os))) (has_variable p o h.0)
      ∙ ap suc (variable_count ps os h.1)

  pub no_blocks : (ps : List (List ℕ × Variable)) (os : List Operand) → Are ps os → count_by is_block_operand os ≡ 0
  no_blocks [] [] h = refl
  no_blocks [] (o ∷ os) h = absurd h
  no_blocks (p ∷ ps) [] h = absurd h
  no_blocks (p ∷ ps) (o ∷ os) h = omega (arith, counted is_block_operand false o os (is_no_block p o h.0), no_blocks ps os h.1)

  pub no_raw_blocks : (ps : List (List ℕ × Variable)) (os : List Operand) → Are ps os → count_by is_raw_block_operand os ≡ 0
  no_raw_blocks [] [] h = refl
  no_raw_blocks [] (o ∷ os) h = absurd h
  no_raw_blocks (p ∷ ps) [] h = absurd h
  no_raw_blocks (p ∷ ps) (o ∷ os) h =
      omega (arith, counted is_raw_block_operand false o os (is_no_raw_block p o h.0), no_raw_blocks ps os h.1)

  pub no_fields : (ps : List (List ℕ × Variable)) (os : List Operand) → Are ps os → field_names os ≡ []
  no_fields [] [] h = refl
  no_fields [] (o ∷ os) h = absurd h
  no_fields (p ∷ ps) [] h = absurd h
  no_fields (p ∷ ps) (o ∷ os) h = ap (λ b. map operand_field_name (cond b (o ∷ filter is_field_operand os) (filter is_field_operand os)))
      (is_no_field p o h.0) ∙ no_fields ps os h.1

  pub no_varargs : (ps : List (List ℕ × Variable)) (os : List Operand) → Are ps os → list_any is_varargs_operand os ≡ false
  no_varargs [] [] h = refl
  no_varargs [] (o ∷ os) h = absurd h
  no_varargs (p ∷ ps) [] h = absurd h
  no_varargs (p ∷ ps) (o ∷ os) h = ap (λ b. b || list_any is_varargs_operand os) (is_no_varargs p o h.0) ∙ no_varargs ps os h.1

  good_outputs : (ps : List (List ℕ × Variable)) (os : List Operand) → Are ps os → (i : ℕ) (d : Operand) → i < length os
      → is_bad_output (get_or os i d) ≡ false
  good_outputs [] [] h i d l = absurd (omega arith)
  good_outputs [] (o ∷ os) h i d l = absurd h
  good_outputs (p ∷ ps) [] h i d l = absurd h
  good_outputs (p ∷ ps) (o ∷ os) h zero d l = is_good_output p o h.0
  good_outputs (p ∷ ps) (o ∷ os) h (suc i) d l = good_outputs ps os h.1 i d (omega arith)

  pub no_bad_output : (ps : List (List ℕ × Variable)) (os : List Operand) → Are ps os → (place : ℕ)
      → position is_bad_output os ≡ Some place → ⊥
  no_bad_output ps [] h place at = absurd (cc)
  no_bad_output ps (o ∷ os) h place at =
      let found = position-Some is_bad_output (o ∷ os) place o at in
      false≢true (sym (good_outputs ps (o ∷ os) h place o found.0) ∙ found.1)

  pub begins : (p : List ℕ × Variable) (ps : List (List ℕ × Variable)) (os : List Operand) → Are (p ∷ ps) os → begins_with_value os ≡ true
  begins p ps [] h = absurd h
  begins p ps (o ∷ os) h = is_value p o h.0

  pub begins_not : (os : List Operand) → Are [] os → begins_with_value os ≡ false
  begins_not [] h = refl
  begins_not (o ∷ os) h = absurd h
