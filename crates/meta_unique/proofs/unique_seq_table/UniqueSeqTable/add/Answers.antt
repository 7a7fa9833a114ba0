use Rattle.std.proofs.Common.{◌≡◌, ◌<◌, ℕ, true, false, sym, ◌∙◌, ap, subst, rules, arith, length, List, ◌++◌, ◌-◌}
use Rattle.std.proofs.lemmas.Bool.{eqb-true}
use Rattle.std.proofs.lemmas.List.{take_all}
use Rattle.std.specs.List.{AllZip}
use Rattle.meta_unique.specs.Overlap.{stands_at, is_shared, first_place, shared}
use Rattle.meta_unique.proofs.Overlaps.{Extension, stands_empty, shortest_kept, shared_inside, kept_new, alike_same, added_empty}
use Rattle.meta_unique.proofs.Overlaps.{added_stood, made_new, stands_new, shortest_new, rest_alike}
use Rattle.meta_unique.proofs.unique_seq_table.UniqueSeqTable.add.Given as given
use Rattle.meta_unique.proofs.unique_seq_table.UniqueSeqTable.add.Goals as goal

pub returns-then-is_empty-clause-made : goal.returns-then-is_empty-clause-made
returns-then-is_empty-clause-made g c =
    alike_same _ g.met.T.Eq.laws _ _ (added_empty _ c.args.self.now c.args.values.now (eqb-true _ _ (sym c.if-is_empty.ensures)))

pub returns-in-Some-clause-made : goal.returns-in-Some-clause-made
returns-in-Some-clause-made g c =
    let same = c.as_slice.ensures.value ∙ c.self.view_is in
    let inside : first_place g.T.PartialEq.eq c.args.self.now c.args.values.now < length c.args.self.now =
    subst (λ w. first_place g.T.PartialEq.eq w c.args.values.now < length w) same (subst (λ k. k < length c.as_slice.result.now) {y =
    first_place g.T.PartialEq.eq c.as_slice.result.now c.args.values.now} c.in-Some.ensures.found c.in-Some.ensures.inside) in
    alike_same _ g.met.T.Eq.laws _ _ (added_stood _ c.args.self.now c.args.values.now inside)

-- what the call gained
extension : (g : given.Over) (c : goal.In_ok-extend_from_slice g)
    → Extension g.T.PartialEq.eq c.args.self.now c.args.values.now c.extend_from_slice.new.self.items c.shared_tail-count.result
extension g c =
    let eq = g.T.PartialEq.eq in
    let list = c.args.values.now in
    let n = c.shared_tail-count.result in
    let same = c.as_slice.ensures.value ∙ c.self.view_is in
    let same2 = c.as_slice-2.ensures.value ∙ c.self.view_is in
    let more = c.in_ok-extend_from_slice.ensures.items in
    record {
      proper = c.shared_tail-count.ensures.proper;
      gained = (
        more.0,
        more.1 ∙ ap (λ w. w ++ more.0) c.self.view_is,
        rest_alike eq g.T.Clone.is_clone list more.0 n c.requires
            (subst (λ w. AllZip g.T.Clone.is_clone w more.0) c.split_at.ensures.back more.2),
      );
      absent = subst (λ w. first_place eq w list ≡ length w) same c.in_default.ensures.none;
      never = subst (λ (w : List _). (k : ℕ) → k < length w → stands_at eq w list k ≡ false) same c.in_default.ensures.absent;
      count = subst (λ w. n ≡ shared eq w list) same2 c.shared_tail-count.ensures.count;
      tail = subst (λ w. is_shared eq w list n ≡ true) same2 c.shared_tail-count.ensures.tail;
      longest = subst (λ w. (k : ℕ) → n < k → k < length list → is_shared eq w list k ≡ false) same2 c.shared_tail-count.ensures.longest;
    }

pub returns-clause-made : goal.returns-clause-made
returns-clause-made g c = made_new _ g.met.T.Eq.laws _ _ _ _ (extension g c)

pub returns-clause-stands : goal.returns-clause-stands
returns-clause-stands g c =
    let len : length c.args.self.now ≡ c.len-len.result = sym (ap length c.self.view_is)
    ∙ sym (c.len-len.ensures ∙ c.self.inside.table.ok.0) in
    subst (λ k. stands_at g.T.PartialEq.eq c.extend_from_slice.new.self.items c.args.values.now (k - c.shared_tail-count.result)
    ≡ true) len (stands_new _ g.met.T.Eq.laws _ _ _ _ (extension g c))

pub returns-clause-shortest : goal.returns-clause-shortest
returns-clause-shortest g c = shortest_new _ g.met.T.Eq.laws _ _ _ _ (extension g c)

pub returns-then-is_empty-clause-place : goal.returns-then-is_empty-clause-place
returns-then-is_empty-clause-place g c = search rules

pub returns-then-is_empty-clause-err : goal.returns-then-is_empty-clause-err
returns-then-is_empty-clause-err g c = search rules

pub returns-in-Some-clause-place : goal.returns-in-Some-clause-place
returns-in-Some-clause-place g c = search rules

pub returns-in-Some-clause-stands : goal.returns-in-Some-clause-stands
returns-in-Some-clause-stands g c = search rules

pub returns-in-Some-clause-err : goal.returns-in-Some-clause-err
returns-in-Some-clause-err g c = search rules

pub shared_tail-count-requires : goal.shared_tail-count-requires
shared_tail-count-requires g c = search rules

pub split_at-requires : goal.split_at-requires
split_at-requires g c = search rules

pub returns-clause-place : goal.returns-clause-place
returns-clause-place g c = search rules

pub returns-clause-err : goal.returns-clause-err
returns-clause-err g c = search rules

pub returns-then-is_empty-clause-stands : goal.returns-then-is_empty-clause-stands
returns-then-is_empty-clause-stands g c = stands_empty _ c.args.self.now c.args.values.now (eqb-true _ _ (sym c.if-is_empty.ensures))

pub returns-then-is_empty-clause-kept : goal.returns-then-is_empty-clause-kept
returns-then-is_empty-clause-kept g c = take_all _ c.args.self.now (omega arith)

pub returns-then-is_empty-clause-shortest : goal.returns-then-is_empty-clause-shortest
returns-then-is_empty-clause-shortest g c = shortest_kept _ c.args.self.now c.args.values.now

pub returns-in-Some-clause-kept : goal.returns-in-Some-clause-kept
returns-in-Some-clause-kept g c = take_all _ c.args.self.now (omega arith)

pub returns-in-Some-clause-shortest : goal.returns-in-Some-clause-shortest
returns-in-Some-clause-shortest g c = shortest_kept _ c.args.self.now c.args.values.now

pub overflow_sub-result : goal.overflow_sub-result
overflow_sub-result g c =
    let eq = g.T.PartialEq.eq in
    let len : length c.args.self.now ≡ c.len-len.result = sym (ap length c.self.view_is)
    ∙ sym (c.len-len.ensures ∙ c.self.inside.table.ok.0) in
    let tail = subst (λ w. is_shared eq w c.args.values.now c.shared_tail-count.result ≡ true) (c.as_slice-2.ensures.value
    ∙ c.self.view_is) c.shared_tail-count.ensures.tail in
    omega (
      arith,
      len,
      shared_inside eq c.args.self.now c.args.values.now c.shared_tail-count.result
          (omega (arith, c.shared_tail-count.ensures.proper)) tail,
    )

pub returns-clause-kept : goal.returns-clause-kept
returns-clause-kept g c = kept_new _ _ _ _ _ (extension g c)
