use Rattle.std.proofs.Common.{◌≡◌, ap, arith, ◌∙◌, List, [], ◌∷◌, ◌++◌, None, replicate}
use Rattle.std.proofs.lemmas.List.{replicate_more}
use Rattle.meta_unique.proofs.constant_hash.vacant_slots.Goals as goal

pub loop-slot-init : goal.loop-slot-init
loop-slot-init g c = c.in_ok-table.ensures.items

pub returns : goal.returns
returns g c =
    let all : c.loop-slot._slot ≡ c.args.size = omega (arith, c.loop-slot-test.false, c.loop-slot.auto._slot-end) in
    c.loop-slot.invariant ∙ ap (λ n. replicate n None) all

pub loop-slot-preserved : goal.loop-slot-preserved
loop-slot-preserved g c = c.in_ok-push.ensures.items ∙ ap (λ (w : List _). w ++ None ∷ []) c.loop-slot.invariant
    ∙ replicate_more c.loop-slot._slot None
