-- Items with which nothing is wrong declare something.
use Rattle.std.proofs.Common.{List, length, refl}
use Rattle.meta_inst.specs.InstructionSet.{InstructionSet}
use Rattle.meta_build.specs.AllDeclared.{Declared}
use Rattle.meta_file_syntax.specs.declared.items.Item.{Item}
use Rattle.meta_file_declare.specs.SaidOfInsts.{nothing_said, said}
use Rattle.meta_file_declare.proofs.Existing.{Exists, all_exist, nothing_exists}
use Rattle.meta_file_declare.specs.Said.{groups_of}
use Rattle.meta_file_declare.specs.AllItems.{AllRight, Declares}

-- a registry, formats and instructions are what the items declare, and so are the groups
pub some_declared : (items : List Item) → AllRight items (length items) → (d : Declared) × Declares items d
some_declared items right =
    let h : Exists (said items) = all_exist items nothing_said 0 nothing_exists in
    let set : InstructionSet = record { vars = h.vars; formats = h.formats; instructions = h.insts } in (
      record { set = set; groups = groups_of items },
      record {
        right = right;
        set = record { vars = h.serves.registry; formats = h.formats_are; instructions = h.insts_are };
        groups = refl;
      },
    )
