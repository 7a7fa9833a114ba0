-- Names in a text of tables, read.
--     small_letter c         the byte in the name of a type
--     IsOfControl n          the constraint is of a control
--     ends_marked word       its word ends in the mark of a second control
use Rattle.std.specs.Prelude.{ℕ, ◌==◌, ⊤, Bool, false, List, [], ◌∷◌, if◌then◌else◌}
use Rattle.std.specs.Char.{to_ascii_lowercase}
use Rattle.meta_inst.specs.Tables.{NumberConstraint, ConcreteNumber, FreeOf, SameNumber, ByNumber}

-- the byte in the name of a type, by that in its name in Rust source: a capital becomes small, but for the `N` of a dynamic vector
abbrev pub small_letter : ℕ → ℕ
small_letter c = if c == 78 then c else to_ascii_lowercase c

-- the constraint is of a control
abbrev pub IsOfControl : NumberConstraint → Type 0
IsOfControl (ConcreteNumber n) = ⊥
IsOfControl (FreeOf j) = ⊥
IsOfControl (SameNumber which) = ⊤
IsOfControl (ByNumber which f) = ⊤

-- whether the last byte of a word is the mark of a second control
abbrev pub ends_marked : List ℕ → Bool
ends_marked [] = false
ends_marked (c ∷ []) = c == 50
ends_marked (c ∷ d ∷ cs) = ends_marked (d ∷ cs)
