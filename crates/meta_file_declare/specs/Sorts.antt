-- What an item declares.
use Rattle.std.specs.Prelude.{Bool}
use Rattle.meta_file_syntax.specs.declared.items.Item.{Item}
use Rattle.meta_file_declare.specs.declared.places.Sort.{Sort}
use Rattle.meta_file_declare.specs.declared.places.Sort.TheVariants as sorts
use Rattle.meta_file_declare.specs.Places.{is_group, is_setting, is_preset, is_format, is_inst, is_valued, is_bool}

-- whether an item is of a sort
abbrev pub is_of : Sort → Item → Bool
is_of sorts.Group i = is_group i
is_of sorts.Setting i = is_setting i
is_of sorts.Preset i = is_preset i
is_of sorts.Format i = is_format i
is_of sorts.Inst i = is_inst i
is_of sorts.Valued i = is_valued i
is_of sorts.Bool i = is_bool i
