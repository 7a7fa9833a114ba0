-- Builders of a list of instructions.
use Rattle.std.specs.Prelude.{List}
use Rattle.std.specs.Borrow.{GName}
use Rattle.meta_inst.specs.Builder.{Builder}
use Rattle.meta_inst.specs.declared.all.InstructionGroupBuilder.{InstructionGroupBuilder}

-- the instructions in the list that the builder adds to
abbrev pub instructions_of : InstructionGroupBuilder → List Builder
instructions_of g = g.all.now

-- which list that is
abbrev pub list_name : InstructionGroupBuilder → GName
list_name g = g.all.ghost_name
