use Rattle.std.proofs.Common.{take}
use Rattle.meta_file_types.specs.Registered.{Extends}
use Rattle.meta_file_types.specs.Held.{registered, Holds}
use Rattle.meta_file_declare.specs.Insts.{operand_at}
use Rattle.meta_file_declare.specs.Mentioned.{after_operands}
use Rattle.meta_file_declare.specs.Registered.{AreOperandsIn}
use Rattle.meta_file_declare.proofs.Each.{SoFar}
use Rattle.meta_file_declare.proofs.operands.operands_in.Given as goal

-- after the operands before this one
abbrev pub ghost-operand_in : goal.ghost-operand_in
ghost-operand_in g a = after_operands g.said (take a.place a.items.now)

-- the operands so far are what is meant
abbrev pub invariant-loop-place : goal.invariant-loop-place
invariant-loop-place g l = record {
  holds : Holds l.types (after_operands g.said (take l.place l.items));
  extends : Extends (registered l.initial.types g.said) (registered l.types (after_operands g.said (take l.place l.items)));
  so_far : SoFar (λ k o. operand_at g.said.words o) l.items l.place
      (λ ms. AreOperandsIn (registered l.types (after_operands g.said (take l.place l.items))) ms l.operands.items);
}
