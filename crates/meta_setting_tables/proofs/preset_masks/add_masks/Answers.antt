use Rattle.std.proofs.Common.{◌≡◌, ℕ, ◌+◌, ◌<◌, List, [], ◌∷◌, ◌++◌, length, map, take, get_or, append_assoc, sym, ap, ◌∙◌}
use Rattle.std.proofs.lemmas.List.{append-nil, map-append, take_more, take_all}
use Rattle.std.proofs.lemmas.Result.{IfOk-from_err}
use Rattle.meta_setting_tables.proofs.preset_masks.add_masks.Goals as goal

-- the mask of one more pair
more : (items old new : List ℕ) (layout : List (ℕ × ℕ)) (i : ℕ) (d : ℕ × ℕ) → i < length layout
    → items ≡ old ++ map (λ pair. pair.0) (take i layout) → new ≡ items ++ (get_or layout i d).0 ∷ []
    → new ≡ old ++ map (λ pair. pair.0) (take (i + 1) layout)
more items old new layout i d below before pushed =
    pushed ∙ ap (λ w. w ++ (get_or layout i d).0 ∷ []) before
    ∙ append_assoc old (map (λ pair. pair.0) (take i layout)) ((get_or layout i d).0 ∷ [])
    ∙ ap (λ w. old ++ w) (sym (ap (map (λ pair. pair.0)) (take_more layout i d below)
    ∙ map-append (λ pair. pair.0) (take i layout) (get_or layout i d ∷ [])))

pub loop-mask-init : goal.loop-mask-init
loop-mask-init c = sym (append-nil c.args.masks.now.items)

pub loop-mask-preserved : goal.loop-mask-preserved
loop-mask-preserved c = more c.loop-mask.masks.items c.args.masks.now.items _ c.args.layout.now c.loop-mask.mask-index
    _ c.loop-mask-test.true c.loop-mask.invariant c.in_ok-push.ensures.items

pub returns-in_err-push : goal.returns-in_err-push
returns-in_err-push c = IfOk-from_err c.from_residual.result _ c.from_residual.ensures.0

pub returns : goal.returns
returns c = c.loop-mask.invariant ∙ ap (λ w. c.args.masks.now.items ++ map (λ pair. pair.0) w)
    (take_all c.loop-mask.mask-index c.args.layout.now c.loop-mask-test.false)
