use Rattle.std.proofs.Common.{◌≡◌, ◌++◌, replicate}
use Rattle.meta_file_syntax.specs.declared.formats.Slot.TheVariants as slot
use Rattle.meta_file_describe.proofs.formats.push_words.Given as goal

-- as many are added as the loop has made turns
abbrev pub invariant-loop-added : goal.invariant-loop-added
invariant-loop-added l = l.slots.items ≡ l.fn.slots.items ++ replicate l._added (slot.Kind l.word)
