-- What a version of the table text shows.
--     version_number v       its number
--     none_of v              how it shows that there is no type set
--     offset_shown v offset  how it shows the place of a type set
use Rattle.std.specs.Prelude.{ℕ, ◌==◌, if◌then◌else◌}
use Rattle.meta_inst.specs.Tables.{no_type_set}
use Rattle.meta_table_text.specs.declared.version.Version.{Version}
use Rattle.meta_table_text.specs.declared.version.Version.TheVariants.{One, Two, Three}

-- the number of a version, which the first line names
abbrev pub version_number : Version → ℕ
version_number One = 1
version_number Two = 2
version_number Three = 3

-- what stands where there is no type set: 255 in the versions whose places have one byte, and else as in the tables
abbrev pub none_of : Version → ℕ
none_of One = 255
none_of Two = 255
none_of Three = no_type_set

-- what stands for the place of a type set, or for none
abbrev pub offset_shown : Version → ℕ → ℕ
offset_shown v offset = if offset == no_type_set then none_of v else offset
