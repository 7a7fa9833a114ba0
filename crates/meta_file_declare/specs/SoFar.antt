-- What is kept of the items so far.
--     HoldsSet t s above       what is kept of types and kinds, and of formats and instructions, is what is declared and mentioned
use Rattle.meta_file_types.specs.declared.types.Types.{Types}
use Rattle.meta_file_types.specs.Held as held_types
use Rattle.meta_file_declare.specs.declared.insts.Insts.{Insts}
use Rattle.meta_file_declare.specs.Held as held_insts
use Rattle.meta_file_declare.specs.SaidOfInsts.{Above}

pub record HoldsSet (t : Types) (s : Insts) (above : Above) : Type 0 where
  pub types : held_types.Holds t above.types
  pub insts : held_insts.Holds (held_types.registered t above.types) s above.insts
