use Rattle.std.proofs.Common.{◌≡◌, ◌==◌, ◌||◌, not, false, ◌++◌, string_bytes, codes, refl, ap, ap₂, ◌∙◌}
use Rattle.std.proofs.lemmas.Result.{on_ok_weaker}
use Rattle.meta_lists.proofs.Joined.{four}
use Rattle.meta_explain.specs.MaskTexts.{mask_text, shown_text}
use Rattle.meta_explain.proofs.ItemTexts.{item_written}
use Rattle.meta_explain.proofs.sets.push_item.Goals as goal

pub returns : goal.returns
returns c =
    let m = c.args.masks in
    let old = string_bytes c.args.out.now in
    let d = not (m.dynamic_lanes == 0) in
    let l = d || not (m.lanes == 1) in
    let k = l || d in
    let n = not (m.ints == 0) in
    let f = not (m.floats == 0) in
    let a = shown_text l false (codes "lanes") (mask_text m.lanes 511) in
    let b = shown_text d l (codes "dynamic") (mask_text m.dynamic_lanes 510) in
    let ints : mask_text c.from.result 248 ≡ mask_text m.ints 248 = ap (λ x. mask_text x 248) c.from.ensures in
    let floats : mask_text c.from-2.result 240 ≡ mask_text m.floats 240 = ap (λ x. mask_text x 240) c.from-2.ensures in
    on_ok_weaker c.push_part-4.result
    (λ last. four old a b (shown_text n k (codes "ints") (mask_text c.from.result 248))
    (shown_text f (k || n) (codes "floats") (mask_text c.from-2.result 240))
    c.in_ok-push_part.ensures c.in_ok-push_part-2.ensures c.in_ok-push_part-3.ensures last
    ∙ ap₂ (λ x y. old ++ (a ++ (b ++ (shown_text n k (codes "ints") x ++ shown_text f (k || n) (codes "floats") y)))) ints floats
    ∙ ap (λ t. old ++ t) (item_written m c.requires l d k n f refl refl refl refl refl))
    c.push_part-4.ensures
