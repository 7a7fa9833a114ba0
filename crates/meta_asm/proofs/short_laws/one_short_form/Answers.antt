use Rattle.std.proofs.Common.{refl}
use Rattle.meta_asm.proofs.OneLine.{one_manner, one_form_in}
use Rattle.meta_asm.proofs.DeclaredLine.{one_manner_declared, one_form_declared}
use Rattle.meta_asm.proofs.short_laws.one_short_form.Goals as goal

pub returns : goal.returns
returns c = record {
  tables = one_form_in;
  declared = one_form_declared;
  manner_in_tables = λ tables name m n h k. one_manner tables name name m n refl h k;
  manner_declared = one_manner_declared;
}
