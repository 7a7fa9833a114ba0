-- What the tests of parts tell of them.
use Rattle.std.proofs.Common.{◌≡◌, ◌≢◌, ◌↔◌, ◌≤◌, ℕ, Bool, false, IsTrue, Option, None, Some, IfSome, IfNone, Result, Ok, Err, IfOk, List}
use Rattle.std.proofs.Common.{All, length, map, sym, ◌∙◌, subst, arith}
use Rattle.std.specs.declared.alloc.AllocError.{AllocError}
use Rattle.std.specs.Option.{is_some}
use Rattle.std.proofs.lemmas.Bool.{false≢true}
use Rattle.std.proofs.lemmas.List.{length-map}
use Rattle.std.proofs.lemmas.List.Elements.{All-map}
use Rattle.meta_types.specs.Name.{IsName}
use Rattle.meta_types.specs.SharedNames.{AreDistinct}
use Rattle.meta_types.specs.TypeParts.{TypeParts, IsType, number_of}
use Rattle.meta_types.specs.TypeNumber.{type_with, IsTypeNumber}
use Rattle.meta_types.proofs.TypeNumbers.{number_is_one}
use Rattle.meta_types.specs.ValueTypes.{type_parts_of}
use Rattle.meta_types.specs.declared.value_type.ValueType.{ValueType}
use Rattle.meta_typevar.specs.MaskSets.{AreMasks}
use Rattle.meta_typevar.specs.declared.masks.Masks.{Masks}
use Rattle.meta_gen.specs.Constraint.{number_constraint_of, entry_of}
use Rattle.meta_gen.specs.WellFormedOpcodes.{IsWellFormedConstraint, IsWellFormedEntry, AreWellFormedParts}
use Rattle.meta_gen.specs.declared.constraint.Constraint.{Constraint}
use Rattle.meta_gen.specs.declared.constraint.OpcodeConstraints.{OpcodeConstraints}
use Rattle.meta_gen.proofs.ValidNames.{all_unmapped}

-- whether a type was found tells whether there is one
pub type_found : (n : ℕ) (o : Option ValueType) (r : Bool) → r ≡ is_some o
    → IfSome o (λ t. number_of (type_parts_of t) ≡ n) → IfNone o ((t : TypeParts) → IsType t → number_of t ≢ n)
    → ((t : ValueType) → IsType (type_parts_of t)) → IsTrue r ↔ IsTypeNumber n
type_found n None r is found none each = (λ t. absurd (false≢true (sym is ∙ t)), λ h. absurd (none (type_with n) h.is_type h.numbered))
type_found n (Some t) r is found none each = (λ _. subst IsTypeNumber found (number_is_one (type_parts_of t) (each t)), λ _. is)

-- a test that failed, of what something asks
pub fails : (r : Bool) (P Q : Type 0) → r ≡ false → IsTrue r ↔ Q → (P → Q) → IsTrue false ↔ P
fails r P Q is told asks = (λ t. absurd (false≢true t), λ p. absurd (false≢true (sym is ∙ told.1 (asks p))))

module _ (names formats : List (List ℕ)) (type_sets : List Masks) (operand_constraints : List Constraint)
    (constraints : List OpcodeConstraints) where
  abbrev Parts : Type 0
  Parts = AreWellFormedParts names formats type_sets (map number_constraint_of operand_constraints) (map entry_of constraints)

  -- the constraints and the entries, as the code keeps them
  abbrev ConstraintsAs : Type 0
  ConstraintsAs = All (λ (x : Constraint). IsWellFormedConstraint (length type_sets) (number_constraint_of x)) operand_constraints

  abbrev EntriesAs : Type 0
  EntriesAs = All (λ (e : OpcodeConstraints). IsWellFormedEntry (length type_sets) (length operand_constraints) (entry_of e)) constraints

  pub constraints_of_parts : Parts → ConstraintsAs
  constraints_of_parts h = all_unmapped (IsWellFormedConstraint (length type_sets)) number_constraint_of operand_constraints h.constraints

  pub entries_of_parts : Parts → EntriesAs
  entries_of_parts h =
      subst (λ (n : ℕ). All (λ (e : OpcodeConstraints). IsWellFormedEntry (length type_sets) n (entry_of e))
      constraints) (length-map operand_constraints number_constraint_of)
      (all_unmapped (IsWellFormedEntry (length type_sets) (length (map number_constraint_of operand_constraints)))
      entry_of constraints h.entries)

  -- all tests passed but that of the names
  module _ (few : (length constraints ≤ 4095) × (length type_sets ≤ 4095) × (length operand_constraints ≤ 65535))
      (named : (length names ≡ length constraints) × All IsName names)
      (formatted : (length formats ≡ length constraints) × All IsName formats)
      (masks : All AreMasks type_sets) (good_constraints : ConstraintsAs) (good_entries : EntriesAs) where
    parts_made : AreDistinct names → Parts
    parts_made distinct =
        let opcodes = length-map constraints entry_of in
        let list = length-map operand_constraints number_constraint_of in
        record {
          few_opcodes = omega (arith, opcodes, few.0);
          few_type_sets = few.1;
          few_constraints = omega (arith, list, few.2);
          named = named.0 ∙ sym opcodes;
          formatted = formatted.0 ∙ sym opcodes;
          names = named.1;
          formats = formatted.1;
          distinct = distinct;
          masks = masks;
          constraints = All-map (IsWellFormedConstraint (length type_sets)) number_constraint_of operand_constraints good_constraints;
          entries = All-map (IsWellFormedEntry (length type_sets)
              (length (map number_constraint_of operand_constraints))) entry_of constraints
              (subst (λ (n : ℕ). All (λ (e : OpcodeConstraints). IsWellFormedEntry (length type_sets) n (entry_of e))
              constraints) (sym list) good_entries);
        }

    pub told_by_names : (r : Result Bool AllocError) → IfOk r (λ b. IsTrue b ↔ AreDistinct names) → IfOk r (λ b. IsTrue b ↔ Parts)
    told_by_names (Err e) h = tt {0}
    told_by_names (Ok b) h = (λ t. parts_made (h.0 t), λ p. h.1 p.distinct)
