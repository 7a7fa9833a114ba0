use Rattle.std.proofs.Common.{rules}
use Rattle.meta_settings.proofs.fault.entries_fault.Goals as goal

pub loop-place-init : goal.loop-place-init
loop-place-init c = search rules
