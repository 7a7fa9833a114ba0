-- Names that are refused.
--     refused place part why     the name, where there is a reason
use Rattle.std.specs.Prelude.{List, [], ◌∷◌, Option, None, Some}
use Rattle.meta_types.specs.declared.fault.Place.{Place}
use Rattle.meta_rust_names.specs.declared.refused.Part.{Part}
use Rattle.meta_rust_names.specs.declared.refused.Why.{Why}
use Rattle.meta_rust_names.specs.declared.refused.RefusedName.{RefusedName}

-- the first reason of two that are looked for in order
abbrev pub or_why : Option Why → Option Why → Option Why
or_why None other = other
or_why (Some why) other = Some why

-- the name at the place if there is a reason, and nothing if there is no reason
abbrev pub refused : Place → Part → Option Why → List RefusedName
refused place part None = []
refused place part (Some why) = record { place = place; part = part; why = why } ∷ []
