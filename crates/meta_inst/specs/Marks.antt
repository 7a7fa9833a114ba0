-- The marks of an instruction.
use Rattle.std.specs.Prelude.{true, false}
use Rattle.meta_inst.specs.declared.marks.Marks.{Marks}

-- an instruction that only gives results
abbrev pub no_marks : Marks
no_marks = record {
  is_terminator = false;
  is_branch = false;
  is_call = false;
  is_return = false;
  can_load = false;
  can_store = false;
  can_trap = false;
  other_side_effects = false;
  side_effects_idempotent = false;
  inst_builder_imm_method = false;
}

-- one that ends its block
abbrev pub terminator : Marks → Marks
terminator m = record m { is_terminator = true }

-- one that branches, and so ends its block
abbrev pub branch : Marks → Marks
branch m = record m { is_branch = true; is_terminator = true }

-- one that returns, and so ends its block
abbrev pub returning : Marks → Marks
returning m = record m { is_return = true; is_terminator = true }
