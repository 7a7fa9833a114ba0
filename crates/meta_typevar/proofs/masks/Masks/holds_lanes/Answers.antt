use Rattle.std.proofs.Common.{arith}
use Rattle.meta_typevar.proofs.Finite.{both_ways}
use Rattle.meta_typevar.proofs.Numbers.{fixed_lanes, dynamic_lanes}
use Rattle.meta_typevar.proofs.masks.Masks.holds_lanes.Goals as goal

pub returns-in-0-to-8 : goal.returns-in-0-to-8
returns-in-0-to-8 c = both_ways c.holds.ensures (fixed_lanes c.args.self.now c.args.row (omega arith))

pub returns-in-9-to-16 : goal.returns-in-9-to-16
returns-in-9-to-16 c = both_ways c.holds-in-9-to-16.ensures (dynamic_lanes c.args.self.now c.args.row (omega arith) (omega arith))
