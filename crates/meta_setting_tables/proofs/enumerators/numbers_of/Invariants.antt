use Rattle.std.proofs.Common.{take}
use Rattle.meta_unique.specs.Interning.{AreDifferent}
use Rattle.meta_setting_tables.specs.EnumeratorList.{same_text}
use Rattle.meta_setting_tables.specs.NumberedTexts.{AreNumbersOfTexts, KeepsNumbers}
use Rattle.meta_setting_tables.proofs.enumerators.numbers_of.Given as goal

-- the values so far have numbers, and those that had one keep it
abbrev pub invariant-loop-value : goal.invariant-loop-value
invariant-loop-value l = record {
  numbers : AreNumbersOfTexts l.texts (take l.value-index l.values) l.numbers.items;
  different : AreDifferent same_text l.texts;
  kept : KeepsNumbers l.initial.texts l.texts;
}
