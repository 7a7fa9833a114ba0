use Rattle.std.proofs.Common.{◌≡◌, ◌++◌, ℕ, List, drop}
use Rattle.std.specs.List.{flat_map, enumerate_from}
use Rattle.meta_rust_names.specs.Known.{known}
use Rattle.meta_rust_names.specs.Methods.{is_form}
use Rattle.meta_rust_names.specs.Inputs.{input_at, earlier_inputs}
use Rattle.meta_rust_names.proofs.inputs.push_inputs.Given as goal

-- what is added, and then what is left to add; and the names of the inputs before
abbrev pub invariant-loop-number : goal.invariant-loop-number
invariant-loop-number l = record {
  added : l.out.items ++ flat_map (input_at l.vars l.instruction l.format l.place l.inputs) (drop l.number (enumerate_from 0 l.inputs))
      ≡ l.initial.out.items ++ flat_map (input_at l.vars l.instruction l.format l.place l.inputs) (enumerate_from 0 l.inputs);
  known_names : (text : List ℕ) → known l.names text ≡ is_form (earlier_inputs l.inputs l.number) text;
}
