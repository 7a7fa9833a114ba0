-- What two tables have in common, by the tables alone.
--     SameOpcode own other k          the opcodes of place k have one name and mean the same
use Rattle.std.specs.Prelude.{◌≡◌, ◌↔◌, ◌⊎◌, ◌+◌, ◌<◌, ℕ, Bool, true, false, Option, Some, slice_get}
use Rattle.meta_typevar.specs.declared.masks.Masks.{Masks}
use Rattle.meta_inst.specs.Which.{Which, First, Second, both}
use Rattle.meta_inst.specs.Tables.{TableContents, OpcodeNumbers, NumberConstraint, ConcreteNumber, FreeOf, SameNumber, ByNumber}
use Rattle.meta_inst.specs.Tables.{ControlNumberFits, PassesAt, result_count, value_count}

-- under these controlling numbers the same numbers pass at the place p of the one and at the place q of the other
abbrev pub SameNumbers : TableContents → TableContents → (Which → Option ℕ) → ℕ → ℕ → Type 0
SameNumbers own other c p q = (n : ℕ) → (PassesAt own c p n ↔ PassesAt other c q n)

-- the same under all controlling numbers that fit these offsets of the one
abbrev pub SamePlace : TableContents → TableContents → ℕ → ℕ → ℕ → ℕ → Type 0
SamePlace own other first second p q = (c d : Option ℕ) → ControlNumberFits own first c
    → ControlNumberFits own second d → SameNumbers own other (both c d) p q

-- the same numbers fit the offset of the one and that of the other
abbrev pub SameControl : TableContents → TableContents → ℕ → ℕ → Type 0
SameControl own other j k = (c : Option ℕ) → (ControlNumberFits own j c ↔ ControlNumberFits other k c)

-- the entries have the same counts, the same numbers fit their controls, and under these the same pass at each operand
pub record SameEntry (own other : TableContents) (e f : OpcodeNumbers) : Type 0 where
  pub results : result_count f.flags ≡ result_count e.flags
  pub values : value_count f.flags ≡ value_count e.flags
  pub first : SameControl own other e.typeset_offset f.typeset_offset
  pub second : SameControl own other e.second_offset f.second_offset
  pub passes : (k : ℕ) → k < result_count e.flags + value_count e.flags
      → SamePlace own other e.typeset_offset e.second_offset (e.constraint_offset + k) (f.constraint_offset + k)

-- the opcodes of place k have one name, and their entries mean the same
pub record SameOpcode (own other : TableContents) (k : ℕ) : Type 0 where
  pub name : slice_get other.names k ≡ slice_get own.names k
  pub entry : OpcodeNumbers
  pub at : slice_get own.entries k ≡ Some entry
  pub other_entry : OpcodeNumbers
  pub other_at : slice_get other.entries k ≡ Some other_entry
  pub same : SameEntry own other entry other_entry

-- ---- what is the same in form

-- there are type sets at these places, and they have the same masks
pub record SameMasks (own other : TableContents) (j k : ℕ) : Type 0 where
  pub masks : Masks
  pub at : slice_get own.type_sets j ≡ Some masks
  pub other_at : slice_get other.type_sets k ≡ Some masks

-- the constraint names no type set
abbrev pub NamesNoSet : NumberConstraint → Type 0
NamesNoSet x = (j : ℕ) → x ≡ FreeOf j → ⊥

-- both constraints name type sets, and these have the same masks
pub record SameFree (own other : TableContents) (x y : NumberConstraint) : Type 0 where
  pub set : ℕ
  pub names : x ≡ FreeOf set
  pub other_set : ℕ
  pub other_names : y ≡ FreeOf other_set
  pub masks : SameMasks own other set other_set

-- the constraints are the same, or differ in the places of type sets with the same masks alone
abbrev pub AreOneForm : TableContents → TableContents → NumberConstraint → NumberConstraint → Type 0
AreOneForm own other x y = (NamesNoSet x × (x ≡ y)) ⊎ SameFree own other x y

-- such constraints stand at the place p of the one and at the place q of the other
pub record HaveOneForm (own other : TableContents) (p q : ℕ) : Type 0 where
  pub constraint : NumberConstraint
  pub at : slice_get own.operand_constraints p ≡ Some constraint
  pub other_constraint : NumberConstraint
  pub other_at : slice_get other.operand_constraints q ≡ Some other_constraint
  pub one_form : AreOneForm own other constraint other_constraint

-- ---- what a constraint depends on

-- whether this control is the one that is meant
abbrev pub is_which : Which → Which → Bool
is_which First First = true
is_which First Second = false
is_which Second First = false
is_which Second Second = true

-- whether what passes the constraint depends on the number of this control
abbrev pub reads : Which → NumberConstraint → Bool
reads a (ConcreteNumber n) = false
reads a (FreeOf j) = false
reads a (SameNumber b) = is_which a b
reads a (ByNumber b f) = is_which a b

-- there is a constraint at the place p, and what passes it depends on the number of this control
pub record ReadsAt (a : Which) (tables : TableContents) (p : ℕ) : Type 0 where
  pub constraint : NumberConstraint
  pub is_constraint : slice_get tables.operand_constraints p ≡ Some constraint
  pub is_read : reads a constraint ≡ true

-- the numbers of both controls: c is that of control a, and d that of the other
abbrev pub paired : Which → Option ℕ → Option ℕ → Which → Option ℕ
paired First c d = both c d
paired Second c d = both d c

-- what passes at the place p doesn't depend on the number of control a
abbrev pub Ignores : Which → TableContents → ℕ → Type 0
Ignores a tables p = (c d e : Option ℕ) (n : ℕ) → PassesAt tables (paired a c e) p n → PassesAt tables (paired a d e) p n
