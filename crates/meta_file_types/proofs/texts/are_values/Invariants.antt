use Rattle.std.proofs.Common.{◌≡◌, drop}
use Rattle.meta_file_types.specs.Texts.{value_texts, are_texts}
use Rattle.meta_file_types.proofs.texts.are_values.Given as goal

-- what is left decides
abbrev pub invariant-loop-value : goal.invariant-loop-value
invariant-loop-value l = are_texts (value_texts (drop l.value-index l.values)) ≡ are_texts (value_texts l.values)
