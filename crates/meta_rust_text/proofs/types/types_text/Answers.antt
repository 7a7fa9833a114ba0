use Rattle.meta_rust_text.proofs.TypeTexts.{whole_text}
use Rattle.meta_rust_text.proofs.types.types_text.Goals as goal

pub returns : goal.returns
returns c = whole_text _ _ _ c.new-out.ensures.bytes c.in_ok-push_lanes.ensures c.in_ok-push_sizes.ensures
