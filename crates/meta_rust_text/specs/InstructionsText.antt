-- The text of instructions.
--     instructions_text b      the formats, the data of an instruction with its methods, and the opcodes
use Rattle.std.specs.Prelude.{ℕ, List, ◌++◌}
use Rattle.meta_build.specs.BuiltDeclarations.{BuiltDeclarations}
use Rattle.meta_text.specs.Ends.{gap_text}
use Rattle.meta_rust_insts.specs.InUse.{formats_in}
use Rattle.meta_rust_insts.specs.FormatsText.{formats_text}
use Rattle.meta_rust_insts.specs.DataText.{data_text}
use Rattle.meta_rust_insts.specs.OpcodesText.{opcodes_text}
use Rattle.meta_rust_insts.specs.DataImpl.{data_impl_text}

-- the texts of its parts in order; an empty line follows the implementation of the data, as one follows the data
unfoldable pub instructions_text : BuiltDeclarations → List ℕ
instructions_text b = formats_text b ++ (data_text b ++ (data_impl_text (formats_in b) ++ (gap_text ++ opcodes_text b)))
