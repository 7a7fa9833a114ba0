use Rattle.std.proofs.Common.{◌∙◌, sym, refl}
use Rattle.std.proofs.lemmas.Bool.{false≢true}
use Rattle.meta_typevar.proofs.Numbers.{number_contained, number_lane, number_lanes}
use Rattle.meta_typevar.proofs.masks.Masks.contains.Goals as goal

pub returns-then-holds_lane : goal.returns-then-holds_lane
returns-then-holds_lane c = (
  λ t. number_contained _ _ c.if-n-lt-LANE_BASE.false (c.if-holds_lane.ensures.0 refl) (c.holds_lanes.ensures.0 t),
  λ x. c.holds_lanes.ensures.1 (number_lanes _ _ x),
)

pub returns-else-holds_lane : goal.returns-else-holds_lane
returns-else-holds_lane c = (
  λ t. absurd (false≢true (sym c.if-holds_lane.false ∙ t)),
  λ x. c.holds_lane.ensures.1 (number_lane _ _ x),
)
