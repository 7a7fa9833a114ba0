use Rattle.std.proofs.Common.{arith}
use Rattle.meta_typevar.proofs.Finite.{both_ways}
use Rattle.meta_typevar.proofs.Numbers.{int_lane, float_lane}
use Rattle.meta_typevar.proofs.masks.Masks.holds_lane.Goals as goal

pub returns-in-4-to-8 : goal.returns-in-4-to-8
returns-in-4-to-8 c = both_ways c.holds.ensures (int_lane c.args.self.now c.args.code (omega arith) (omega arith))

pub returns-in-9-to-12 : goal.returns-in-9-to-12
returns-in-9-to-12 c = both_ways c.holds-in-9-to-12.ensures (float_lane c.args.self.now c.args.code (omega arith) (omega arith))
