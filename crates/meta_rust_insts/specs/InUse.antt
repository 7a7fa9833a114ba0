-- The formats that declared instructions use.
--     formats_in b      these formats, sorted by their names
use Rattle.std.specs.Prelude.{List, slice_get}
use Rattle.std.specs.List.{filter_map}
use Rattle.meta_operands.specs.declared.format.InstructionFormat.{InstructionFormat}
use Rattle.meta_build.specs.BuiltDeclarations.{BuiltDeclarations}

-- what the table holds at their numbers, in the order in which they are built
abbrev pub formats_in : BuiltDeclarations → List InstructionFormat
formats_in b = filter_map (slice_get b.declared.set.formats) b.formats
