-- What a search for the opcodes that accept some types finds.
--     Finds tables results values x       x is an opcode with controls under which it accepts types that match
--     IsBefore x y                        x comes before y
use Rattle.std.specs.Prelude.{◌≡◌, ◌<◌, ◌⊎◌, ◌+◌, ℕ, List, length, slice_get, Option, Some, None}
use Rattle.meta_inst.specs.Tables.{TableContents}
use Rattle.meta_explain.specs.Parts.{Accepts}
use Rattle.meta_explain.specs.declared.control_types.ControlTypes.{ControlTypes}
use Rattle.meta_explain.specs.declared.found.Found.{Found}

-- the number is the one that is asked for; where none is, each one is
abbrev pub IsAsked : Option ℕ → ℕ → Type 0
IsAsked None n = Unit {0}
IsAsked (Some m) n = n ≡ m

-- the numbers are those that are asked for, place by place
pub record Match (asked : List (Option ℕ)) (numbers : List ℕ) : Type 0 where
  pub count : length numbers ≡ length asked
  pub each : (k n : ℕ) (o : Option ℕ) → slice_get asked k ≡ Some o → slice_get numbers k ≡ Some n → IsAsked o n

-- the opcode accepts some results and values that match, under these controls
pub record Finds (tables : TableContents) (results values : List (Option ℕ)) (x : Found) : Type 0 where
  pub result_types : List ℕ
  pub value_types : List ℕ
  pub results_match : Match results result_types
  pub values_match : Match values value_types
  pub accepts : Accepts tables x.opcode x.controls result_types value_types

-- the place of a control in the order of controls: no control, and then the types by their numbers
abbrev pub control_place : Option ℕ → ℕ
control_place None = 0
control_place (Some n) = n + 1

-- under these controls the one is looked at before the other: by the control, and then by the second control
abbrev pub AreBefore : ControlTypes → ControlTypes → Type 0
AreBefore c d = (control_place c.ctrl < control_place d.ctrl)
    ⊎ ((c.ctrl ≡ d.ctrl) × (control_place c.second < control_place d.second))

-- x comes before y: by the opcode, and then by the controls
abbrev pub IsBefore : Found → Found → Type 0
IsBefore x y = (x.opcode < y.opcode) ⊎ ((x.opcode ≡ y.opcode) × AreBefore x.controls y.controls)
