use Rattle.std.proofs.Common.{string_bytes, sym}
use Rattle.std.proofs.lemmas.Result.{on_ok_weaker}
use Rattle.meta_typevar.specs.MaskSets.{sets_in}
use Rattle.meta_explain.specs.Texts.{alternatives_text, item_text, set_text}
use Rattle.meta_explain.proofs.LeastSets.{least_masks_are, one_set_from}
use Rattle.meta_explain.proofs.SetTexts.{one_text, other_text, appended}
use Rattle.meta_explain.proofs.texts.push_set.Goals as goal

pub returns-then-not-are_all_among : goal.returns-then-not-are_all_among
returns-then-not-are_all_among c =
    let ns = c.args.numbers.now in
    let text = other_text ns c.least_masks-masks.result c.are_all_among.result c.least_masks-masks.ensures c.are_all_among.ensures
    c.if-not-are_all_among.true in
    on_ok_weaker c.push_alternatives-then-not-are_all_among.result
    (appended (string_bytes c.args.out.now) (string_bytes c.push_alternatives-then-not-are_all_among.new.out) (alternatives_text ns)
    (set_text ns) (sym text))
    c.push_alternatives-then-not-are_all_among.ensures

pub push_item-requires : goal.push_item-requires
push_item-requires c = least_masks_are c.args.numbers.now c.least_masks-masks.result c.least_masks-masks.ensures

pub returns : goal.returns
returns c =
    let ns = c.args.numbers.now in
    let m = c.least_masks-masks.result in
    let one = one_set_from ns m c.least_masks-masks.ensures (c.are_all_among.ensures.0 c.if-not-are_all_among.false) in
    on_ok_weaker c.push_item.result
    (appended (string_bytes c.args.out.now) (string_bytes c.push_item.new.out) (item_text (sets_in m)) (set_text ns)
    (one_text ns m c.if-numbers-lt2.false one c.least_masks-masks.ensures))
    c.push_item.ensures
