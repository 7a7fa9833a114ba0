use Rattle.std.proofs.Common.{arith}
use Rattle.std.proofs.lemmas.Grind.{common_steps}
use Rattle.meta_setting_tables.proofs.NamesOn.{not_above}
use Rattle.meta_setting_tables.proofs.descriptor.Descriptor.is_on.Goals as goal

pub returns-else-bit-lt8 : goal.returns-else-bit-lt8
returns-else-bit-lt8 c =
    not_above c.args.bytes.now c.args.self.now.offset c.in-Bool.bit c.args.self.now.detail c.in-Bool.is c.if-bit-lt8.false c.type_inv.bytes

pub returns-then-bit-lt8 : goal.returns-then-bit-lt8
returns-then-bit-lt8 c = grind (arith, common_steps)
