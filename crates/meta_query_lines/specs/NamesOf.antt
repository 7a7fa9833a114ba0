-- Which opcodes are listed.
--     IsListedBy tables names op      the opcode is one of those
use Rattle.std.specs.Prelude.{ℕ}
use Rattle.meta_inst.specs.Tables.{TableContents}
use Rattle.meta_gen.specs.Contents.{IsOpcode}
use Rattle.meta_query_lines.specs.Explanation.{IsMarked, HasFormat}
use Rattle.meta_query_lines.specs.declared.naming.NamesOf.{NamesOf}
use Rattle.meta_query_lines.specs.Told.{told_by}
use Rattle.meta_query_lines.specs.declared.naming.NamesOf.TheVariants.{All, Marked, OfFormat}

-- the opcode is one of all, of those that have the mark, or of those that have the format
abbrev pub IsListedBy : TableContents → NamesOf → ℕ → Type 0
IsListedBy tables All op = IsOpcode tables op
IsListedBy tables (Marked told p) op = IsOpcode tables op × IsMarked (told_by told) p op
IsListedBy tables (OfFormat name) op = HasFormat tables name.now op
