use Rattle.std.proofs.Common.{◌≡◌, [], subst, arith}
use Rattle.meta_settings.specs.PresetLayout.{IsLayoutOn}
use Rattle.meta_settings.proofs.Bits.{empty_more}
use Rattle.meta_settings.proofs.preset.empty_layout.Goals as goal

pub loop-preserved : goal.loop-preserved
loop-preserved c = λ start. rw c.in_ok-push.ensures.items (empty_more start _ _ (c.loop.invariant start))

pub returns : goal.returns
returns c = λ start.
    let done : c.loop.counter ≡ c.args.size = omega arith in
    subst (λ n. IsLayoutOn start n [] c.loop.layout.items) done (c.loop.invariant start)
