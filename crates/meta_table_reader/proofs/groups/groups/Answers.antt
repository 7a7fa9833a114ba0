use Rattle.std.proofs.Common.{◌≡◌, ℕ, ◌+◌, ◌<◌, ◌≤◌, List, [], ◌∷◌, ◌++◌, ⊎_elim, All, length, get_or, take, drop, append-nil, sym, ap, ◌∙◌}
use Rattle.std.proofs.Common.{subst, arith}
use Rattle.std.specs.List.{flat_map, AllZip}
use Rattle.std.proofs.lemmas.Bool.{cases_lt}
use Rattle.std.proofs.lemmas.List.{take_all, length-append}
use Rattle.meta_setting_tables.specs.GroupTables.{GroupContents}
use Rattle.meta_setting_tables.specs.Parts.{HasGroupParts}
use Rattle.meta_table_text.specs.GroupText.{group_text}
use Rattle.meta_table_reader.proofs.ItemsRead.{one_within, front, only_rest_left, few_items}
use Rattle.meta_table_reader.specs.ShownGroup.{AreShownGroup}
use Rattle.meta_table_reader.proofs.GroupsTold.{group_some}
use Rattle.meta_table_reader.proofs.Zipped.{zip_push}
use Rattle.meta_table_reader.proofs.groups.groups.Goals as goal

-- something is left exactly where a group is
some_left : (gs : List GroupContents) (i : ℕ) (left : List ℕ) → All AreShownGroup gs → i < length gs
    → left ≡ flat_map group_text (drop i gs) ++ [] → 1 ≤ length left
some_left gs i left all within e =
    let (g, at, shown) = one_within AreShownGroup gs i all within in
    let here = group_some g in
    let both = length-append (group_text g) (flat_map group_text (drop (i + 1) gs) ++ []) in
    let is = ap length (front group_text gs [] left i g at e) in
    omega (arith, here, both, is)

none_left_past : (gs : List GroupContents) (i : ℕ) (left : List ℕ) → length left ≡ 0 → All AreShownGroup gs
    → left ≡ flat_map group_text (drop i gs) ++ [] → length gs ≤ i
none_left_past gs i left none all e = ⊎_elim (λ within. let some = some_left gs i left all within e in
    absurd (omega (arith, some, none))) (λ past. past) (cases_lt i (length gs))

pub loop-init : goal.loop-init
loop-init c = λ gs all e. (
  subst (λ items. AllZip HasGroupParts items []) (sym c.new-groups.ensures.items) tt,
  e ∙ sym (append-nil (flat_map group_text gs)),
)

pub returns-then-left-eq0 : goal.returns-then-left-eq0
returns-then-left-eq0 c = λ gs all e.
    let i = c.loop.counter in
    let so_far = c.loop.invariant gs all e in
    let past = none_left_past gs i c.loop.cursor (sym c.len-left.ensures ∙ c.if-left-eq0.true) all so_far.1 in
    subst (AllZip HasGroupParts c.loop.groups.items) (take_all i gs past) so_far.0

pub loop-preserved : goal.loop-preserved
loop-preserved c = λ gs all e.
    let i = c.loop.counter in
    let so_far = c.loop.invariant gs all e in
    let within : i < length gs =
    ⊎_elim (λ within. within)
    (λ past. absurd (c.if-left-eq0.false (c.len-left.ensures ∙ ap length
    (only_rest_left group_text gs [] i c.loop.cursor past so_far.1)))) (cases_lt i (length gs)) in
    let (g, at, shown) = one_within AreShownGroup gs i all within in
    let left = flat_map group_text (drop (i + 1) gs) ++ [] in
    let (parts, after) = c.in_ok-group.ensures g left shown (front group_text gs [] c.loop.cursor i g at so_far.1) in (
      subst (λ items. AllZip HasGroupParts items (take (i + 1) gs)) (sym c.in_ok-push.ensures.items)
          (subst (AllZip HasGroupParts (c.loop.groups.items ++ c.in_ok-group.field-0 ∷ [])) (sym at.taken)
          (zip_push HasGroupParts c.loop.groups.items (take i gs) c.in_ok-group.field-0 g so_far.0 parts)),
      after,
    )

pub returns : goal.returns
returns c = λ gs all e.
    let i = c.loop.counter in
    let so_far = c.loop.invariant gs all e in
    let few = few_items group_text gs (λ k d within. group_some (get_or gs k d)) [] in
    let past : length gs ≤ i =
    omega (arith, few, ap length (e ∙ sym (append-nil (flat_map group_text gs))), c.loop-test.false, c.len-end.ensures) in
    subst (AllZip HasGroupParts c.loop.groups.items) (take_all i gs past) so_far.0
