-- What a line asks that explains, beside the lines that ask something of `query`. Types are told by their numbers, as tables have them.
--     Requests line r        the line asks r
use Rattle.std.specs.Prelude.{ℕ, List, [], ◌∷◌, map, All, Option, None, Some, IfSome, codes}
use Rattle.std.specs.List.{join_with_byte}
use Rattle.std.specs.Option.{option_map}
use Rattle.meta_types.specs.TypeParts.{name_of}
use Rattle.meta_types.specs.TypeNumber.{type_with, IsTypeNumber}
use Rattle.meta_lines.specs.Words.{AreWords}
use Rattle.meta_lines.specs.Control.{control_text, IsAfter}
use Rattle.meta_explain.specs.declared.control_types.ControlTypes.{ControlTypes}

-- which types the operands of the instruction of this name may have, under these controls if some are given; which instructions accept
-- these results and values, where none stands for any type; and which instructions there are, or which have the mark or the format of
-- this name, if one is given
pub data Request : Type 0 where
  OfTypes : List ℕ → Option ControlTypes → Request
  OfFind : List (Option ℕ) → List (Option ℕ) → Request
  OfNames : Option (List ℕ) → Request

-- the name of a type that is sought, and `?` for any type
abbrev pub sought_name : Option ℕ → List ℕ
sought_name None = codes "?"
sought_name (Some n) = name_of (type_with n)

-- the word for types that are sought: `-` for none, or their names, parted by commas
abbrev pub sought_text : List (Option ℕ) → List ℕ
sought_text [] = codes "-"
sought_text (o ∷ os) = join_with_byte 44 (map sought_name (o ∷ os))

-- the word for controls, as a line of `accept` has it
abbrev pub controls_text : ControlTypes → List ℕ
controls_text c = control_text (option_map type_with c.ctrl) (option_map type_with c.second)

-- the word for controls, if some are given
abbrev pub controls_words : Option ControlTypes → List (List ℕ)
controls_words None = []
controls_words (Some c) = controls_text c ∷ []

-- the word that is the name, if one is given
abbrev pub name_words : Option (List ℕ) → List (List ℕ)
name_words None = []
name_words (Some name) = name ∷ []

-- the words of the line that asks it: `types NAME`, `types NAME CONTROL`, `find RESULTS VALUES`, `list` or `list NAME`
abbrev pub request_words : Request → List (List ℕ)
request_words (OfTypes name c) = codes "types" ∷ name ∷ controls_words c
request_words (OfFind results values) = codes "find" ∷ sought_text results ∷ sought_text values ∷ []
request_words (OfNames name) = codes "list" ∷ name_words name

-- the controls are types, and no second one stands alone
pub record AreControls (c : ControlTypes) : Type 0 where
  pub control : IfSome c.ctrl IsTypeNumber
  pub second : IfSome c.second IsTypeNumber
  pub after : IsAfter (option_map type_with c.ctrl) (option_map type_with c.second)

-- each that is sought is a type, or any type
abbrev pub AreSought : List (Option ℕ) → Type 0
AreSought os = All (λ o. IfSome o IsTypeNumber) os

-- the numbers in the request are those of types
abbrev pub HasTypes : Request → Type 0
HasTypes (OfTypes name c) = IfSome c AreControls
HasTypes (OfFind results values) = AreSought results × AreSought values
HasTypes (OfNames name) = Unit {0}

-- the line asks it: it is the words of the request, whose numbers are those of types
pub record Requests (line : List ℕ) (r : Request) : Type 0 where
  pub words : AreWords line (request_words r)
  pub types : HasTypes r
