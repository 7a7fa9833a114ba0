-- The text of an item isn't empty.
use Rattle.std.specs.Prelude.{ℕ, ◌≤◌, List, length}
use Rattle.std.proofs.Common.{arith}
use Rattle.meta_typevar.specs.declared.masks.Masks.{Masks}
use Rattle.meta_inst.specs.Tables.{NumberConstraint}
use Rattle.meta_setting_tables.specs.declared.descriptor.Descriptor.{Descriptor}
use Rattle.meta_table_text.specs.GroupItems.{enumerator_text, descriptor_block, descriptor_text}
use Rattle.meta_table_text.specs.TypeSetText.{mask_lines, set_block}
use Rattle.meta_table_text.specs.ConstraintText.{constraint_line}

pub set_some : (m : Masks) → 1 ≤ length (set_block m)
unfolding set_block mask_lines
set_some m = omega arith

pub constraint_some : (c : NumberConstraint) → 1 ≤ length (constraint_line c)
unfolding constraint_line
constraint_some c = omega arith

pub enumerator_some : (name : List ℕ) → 1 ≤ length (enumerator_text name)
unfolding enumerator_text
enumerator_some name = omega arith

pub descriptor_some : (d : Descriptor) → 1 ≤ length (descriptor_text d)
unfolding descriptor_block
descriptor_some d = omega arith
