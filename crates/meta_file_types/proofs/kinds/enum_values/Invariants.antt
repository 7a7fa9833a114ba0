use Rattle.std.proofs.Common.{◌≡◌, [], true, drop}
use Rattle.meta_file_types.specs.Texts.{value_texts, are_texts}
use Rattle.meta_file_types.specs.Words.{values_from}
use Rattle.meta_file_types.proofs.kinds.enum_values.Given as goal

-- what is left decides, after the values so far
abbrev pub invariant-loop-value : goal.invariant-loop-value
invariant-loop-value l = record {
  rest : values_from l.known (drop l.value-index l.values) ≡ values_from [] l.values;
  texts : are_texts (value_texts (drop l.value-index l.values)) ≡ true;
}
