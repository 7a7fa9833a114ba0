use Rattle.std.proofs.Common.{◌+◌, ◌<◌, ◌≤◌, [], ◌∷◌, ◌++◌, length, take, drop, append-nil, sym, ap, ◌∙◌, arith}
use Rattle.std.specs.List.{flat_map}
use Rattle.std.proofs.lemmas.List.{take_all}
use Rattle.std.proofs.lemmas.Grind.{flat_map-append}
use Rattle.meta_setting_tables.specs.declared.descriptor.Descriptor.{Descriptor}
use Rattle.meta_table_text.specs.GroupItems.{texts_with_commas, comment_text}
use Rattle.meta_setting_tables.specs.EntryValues.{masks_from, names_on}
use Rattle.meta_table_text.specs.GroupText.{preset_text}
use Rattle.meta_table_reader.proofs.ItemsRead.{one_within, front, only_rest_left}
use Rattle.meta_table_reader.specs.ShownGroup.{IsShownDescriptor, AreShownMasksOf}
use Rattle.meta_table_reader.proofs.GroupLines.{comment_is_line, preset_parts}
use Rattle.meta_table_reader.proofs.group_lists.preset_lines.Goals as goal

pub loop-init : goal.loop-init
loop-init c = λ booleans ds ms rest all shown own count e. (c.new-masks.ensures.items, e)

pub loop-preserved : goal.loop-preserved
loop-preserved c = λ booleans ds ms rest all shown own count e.
    let i = c.loop.counter in
    let size = c.args.size in
    let text = preset_text booleans size ms in
    let so_far = c.loop.invariant booleans ds ms rest all shown own count e in
    let within : i < length ds = omega (arith, c.loop-test.true, count) in
    let (d, at, both) = one_within (λ (d : Descriptor). IsShownDescriptor d
    × AreShownMasksOf size ms d) ds i (λ k x w. (shown k x w, own k x w)) within in
    let mine = masks_from size ms d.offset in
    let left = flat_map text (drop (i + 1) ds) ++ rest in
    let comment = comment_text d.name (texts_with_commas (names_on booleans mine)) in
    let (pushed, a) = c.in_ok-push_masks.ensures mine (comment ++ left) both.1.bytes (sym both.1.count)
    (front text ds rest c.loop.cursor i d at so_far.1 ∙ preset_parts booleans size ms d left) in
    let taken = flat_map-append (λ (d : Descriptor). masks_from size ms d.offset) (take i ds) (d ∷ [])
    ∙ ap (λ w. flat_map (λ (d : Descriptor). masks_from size ms d.offset) (take i ds) ++ w) (append-nil mine) in (
      pushed ∙ ap (λ w. w ++ mine) so_far.0 ∙ sym taken ∙ ap (flat_map (λ (d : Descriptor). masks_from size ms d.offset)) (sym at.taken),
      c.skip_line.ensures.item comment left (comment_is_line booleans mine d all both.0) a,
    )

pub returns : goal.returns
returns c = λ booleans ds ms rest all shown own count e.
    let i = c.loop.counter in
    let size = c.args.size in
    let so_far = c.loop.invariant booleans ds ms rest all shown own count e in
    let past : length ds ≤ i = omega (arith, c.loop-test.false, count) in (
      so_far.0 ∙ ap (flat_map (λ (d : Descriptor). masks_from size ms d.offset)) (take_all i ds past),
      only_rest_left (preset_text booleans size ms) ds rest i c.loop.cursor past so_far.1,
    )
