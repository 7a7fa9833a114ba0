use Rattle.std.proofs.Common.{◌≡◌, take}
use Rattle.meta_unique.specs.Interning.{pointed_to}
use Rattle.meta_setting_tables.specs.NumberedTexts.{texts_numbered}
use Rattle.meta_setting_tables.proofs.enumerators.copied_texts.Given as goal

-- the texts of the numbers so far are copied
abbrev pub invariant-loop-number : goal.invariant-loop-number
invariant-loop-number l = l.copies.items ≡ texts_numbered (pointed_to l.texts) (take l.number-index l.numbers)
