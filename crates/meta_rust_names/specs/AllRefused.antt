-- All names of declarations with which the texts of Rust aren't compiled.
--     refused_names b      these, in order, each with its first reason
use Rattle.std.specs.Prelude.{List, ◌++◌}
use Rattle.meta_build.specs.BuiltDeclarations.{BuiltDeclarations}
use Rattle.meta_rust_names.specs.declared.refused.RefusedName.{RefusedName}
use Rattle.meta_rust_names.specs.Instructions.{instructions_refused}
use Rattle.meta_rust_names.specs.Formats.{formats_refused}
use Rattle.meta_rust_names.specs.Groups.{groups_refused}

-- Those of the instructions in order, each with its own name first, and then its inputs, its outputs, its documentation and its
-- control; those of the formats in use by their names, each with its own name first, and then its fields; and those of the groups in
-- order, each with its own name first, and then its settings with their values. No text has a preset's name where it would matter.
unfoldable pub refused_names : BuiltDeclarations → List RefusedName
refused_names b = instructions_refused b ++ (formats_refused b ++ groups_refused b.groups)
