use Rattle.meta_file_types.specs.Held.{registered}
use Rattle.meta_file_declare.specs.Formats.{slot_at}
use Rattle.meta_file_declare.proofs.Each.{SoFar}
use Rattle.meta_file_declare.proofs.Stores.{IsOpen}
use Rattle.meta_file_declare.proofs.formats.with_slots.Given as goal

-- the same items
abbrev pub ghost-with_slot : goal.ghost-with_slot
ghost-with_slot g a = g.said

-- the format stores the slots so far
abbrev pub invariant-loop-place : goal.invariant-loop-place
invariant-loop-place g l =
    SoFar (slot_at g.said.words l.slots) l.slots l.place (IsOpen (registered l.types g.said) l.initial.builder.name l.builder)
