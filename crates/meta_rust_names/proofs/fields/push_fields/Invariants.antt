use Rattle.std.proofs.Common.{◌≡◌, ◌++◌, ℕ, List, drop}
use Rattle.std.specs.List.{flat_map, enumerate_from}
use Rattle.meta_rust_names.specs.Known.{known}
use Rattle.meta_rust_names.specs.Methods.{is_form}
use Rattle.meta_rust_names.specs.Fields.{field_at, earlier_fields}
use Rattle.meta_rust_names.proofs.fields.push_fields.Given as goal

-- what is added, and then what is left to add; and the names of the fields before
abbrev pub invariant-loop-number : goal.invariant-loop-number
invariant-loop-number l = record {
  added : l.out.items ++ flat_map (field_at l.format l.place l.fields) (drop l.number (enumerate_from 0 l.fields))
      ≡ l.initial.out.items ++ flat_map (field_at l.format l.place l.fields) (enumerate_from 0 l.fields);
  known_names : (text : List ℕ) → known l.names text ≡ is_form (earlier_fields l.fields l.number) text;
}
