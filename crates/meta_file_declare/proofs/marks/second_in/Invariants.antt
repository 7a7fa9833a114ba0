use Rattle.std.proofs.Common.{take}
use Rattle.meta_file_types.specs.Registered.{Extends}
use Rattle.meta_file_types.specs.Held.{registered, Holds}
use Rattle.meta_file_declare.specs.Mentioned.{after_marks}
use Rattle.meta_file_declare.specs.Registered.{IsSecondIn}
use Rattle.meta_file_declare.proofs.Seconds.{IsSecondSoFar}
use Rattle.meta_file_declare.proofs.marks.second_in.Given as goal

-- after the marks before this one
abbrev pub ghost-second_at : goal.ghost-second_at
ghost-second_at g a = after_marks g.said (take a.place a.marks.now)

-- the second type is what the marks so far name
abbrev pub invariant-loop-place : goal.invariant-loop-place
invariant-loop-place g l = record {
  holds : Holds l.types (after_marks g.said (take l.place l.marks));
  extends : Extends (registered l.initial.types g.said) (registered l.types (after_marks g.said (take l.place l.marks)));
  so_far : IsSecondSoFar g.said.words l.marks l.place
      (λ m. IsSecondIn (registered l.types (after_marks g.said (take l.place l.marks))) m l.second);
}
