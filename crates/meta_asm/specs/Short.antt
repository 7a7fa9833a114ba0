-- A line with types left out.
--     Manner                  what is left out of the lines of an instruction
--     short_text m s          what is stated, written so
use Rattle.std.specs.Prelude.{ℕ, Bool, false, List, [], ◌∷◌, ◌++◌, map, Option, Some, None, if◌then◌else◌, codes}
use Rattle.std.specs.List.{join_with_byte}
use Rattle.meta_types.specs.TypeParts.{TypeParts, name_of}
use Rattle.meta_lines.specs.Control.{control_text}
use Rattle.meta_verify.specs.Statement.{TypedValue, Application, Statement, OfParameter, OfApplication, value_text}

-- whether the control is left out where it stands alone, and of each result whether its type is written
pub record Manner : Type 0 where
  pub leaves_out : Bool
  pub opened : List Bool

-- a result as it is written: with its type, or without
pub record ShortResult : Type 0 where
  pub value : ℕ
  pub type : Option TypeParts

-- the result with its type where that is written
abbrev pub shortened : Bool → TypedValue → ShortResult
shortened opened r = record { value = r.value; type = if opened then Some r.type else None }

-- the results, of which each has its mark
abbrev pub short_results : List Bool → List TypedValue → List ShortResult
short_results opened [] = []
short_results [] (r ∷ rs) = shortened false r ∷ short_results [] rs
short_results (o ∷ opened) (r ∷ rs) = shortened o r ∷ short_results opened rs

-- what comes after the value: `:i32`, or nothing
abbrev pub type_part : Option TypeParts → List ℕ
type_part None = []
type_part (Some t) = 58 ∷ name_of t

-- `v1`, or `v1:i32`
abbrev pub short_result_text : ShortResult → List ℕ
short_result_text r = value_text r.value ++ type_part r.type

-- texts, parted by a comma and a space: the space is the first byte of each but the first
abbrev pub joined : List (List ℕ) → List ℕ
joined [] = []
joined (t ∷ ts) = join_with_byte 44 (t ∷ map (λ (u : List ℕ). 32 ∷ u) ts)

-- a part after a byte, or nothing
abbrev pub then_part : ℕ → Option (List ℕ) → List ℕ
then_part byte None = []
then_part byte (Some part) = byte ∷ part

-- what comes after the point: the controlling types, if there are some and they aren't left out
abbrev pub control_written : Bool → Option TypeParts → Option TypeParts → Option (List ℕ)
control_written leaves_out None d = None
control_written leaves_out (Some c) None = if leaves_out then None else Some (control_text (Some c) None)
control_written leaves_out (Some c) (Some d) = Some (control_text (Some c) (Some d))

-- the values, where there are some
abbrev pub values_written : List (List ℕ) → Option (List ℕ)
values_written [] = None
values_written (t ∷ ts) = Some (joined (t ∷ ts))

-- what stands before the name: the results and ` = `, or nothing
abbrev pub results_part : List (List ℕ) → List ℕ
results_part [] = []
results_part (t ∷ ts) = joined (t ∷ ts) ++ codes " = "

-- the line of an application, with its types left out in this manner
abbrev pub short_application : Manner → Application → List ℕ
short_application m a =
    results_part (map short_result_text (short_results m.opened a.results))
    ++ (a.name ++ (then_part 46 (control_written m.leaves_out a.control a.second)
    ++ then_part 32 (values_written (map value_text a.values))))

-- the line of a parameter: no type is left out
abbrev pub parameter_text : TypedValue → List ℕ
parameter_text r = codes "param " ++ (value_text r.value ++ 32 ∷ name_of r.type)

-- what is stated is written in this manner
abbrev pub short_text : Manner → Statement → List ℕ
short_text m (OfParameter r) = parameter_text r
short_text m (OfApplication a) = short_application m a
