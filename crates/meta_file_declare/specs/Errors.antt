-- Why items declare nothing, by why one of them doesn't.
use Rattle.std.specs.Prelude.{ℕ}
use Rattle.meta_file_types.specs.declared.refused.ItemError.{ItemError}
use Rattle.meta_file_types.specs.declared.refused.ItemError.TheVariants as item
use Rattle.meta_file_declare.specs.declared.refused.DeclareError.{DeclareError}
use Rattle.meta_file_declare.specs.declared.refused.DeclareError.TheVariants.{Memory, Refused}

-- the item at a place declares nothing
abbrev pub error_at : ℕ → ItemError → DeclareError
error_at place item.Memory = Memory
error_at place (item.Wrong reason) = Refused place reason
