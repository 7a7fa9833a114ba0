-- How many lines of comments the block of an opcode has on its controls.
--     control_lines offset       on a control whose type set has this place
--     second_lines v offset      on a second control, in this version
use Rattle.std.specs.Prelude.{ℕ, ◌==◌, if◌then◌else◌}
use Rattle.meta_inst.specs.Tables.{no_type_set}
use Rattle.meta_table_text.specs.declared.version.Version.{Version}
use Rattle.meta_table_text.specs.declared.version.Version.TheVariants.{One, Two, Three}

-- one, where there is a type set
abbrev pub control_lines : ℕ → ℕ
control_lines offset = if offset == no_type_set then 0 else 1

-- version 1 has none
abbrev pub second_lines : Version → ℕ → ℕ
second_lines One offset = 0
second_lines Two offset = control_lines offset
second_lines Three offset = control_lines offset
