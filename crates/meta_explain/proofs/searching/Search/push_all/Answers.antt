use Rattle.std.proofs.Common.{arith}
use Rattle.meta_explain.specs.Search.{IsFoundIn}
use Rattle.meta_explain.proofs.Adding.{firsts_none, firsts_more, firsts_all}
use Rattle.meta_explain.proofs.searching.Search.push_all.Goals as goal

pub control_at-requires : goal.control_at-requires
control_at-requires c =
    let few = c.places-places.ensures.few in
    let inside = c.loop-place-test.true in
    omega arith

pub loop-place-init : goal.loop-place-init
loop-place-init c =
    let s = c.args.self.now in
    let F = IsFoundIn s in
    firsts_none F s.opcode (λ x f. f.opcode) c.places-places.result.from c.args.found.now.items
    (λ x f. (c.places-places.ensures.within x f).0)

pub loop-place-preserved : goal.loop-place-preserved
loop-place-preserved c =
    let s = c.args.self.now in
    let F = IsFoundIn s in
    firsts_more F s.opcode (λ x f. f.opcode) c.control_at.result c.loop-place.place c.args.found.now.items
    c.loop-place.found.items c.push_under.new.found.items c.control_at.ensures c.loop-place.invariant c.in_ok-push_under.ensures

pub returns : goal.returns
returns c =
    let s = c.args.self.now in
    let F = IsFoundIn s in
    let past = c.loop-place-test.false in
    firsts_all F s.opcode (λ x f. f.opcode) c.loop-place.place c.args.found.now.items c.loop-place.found.items
    (λ x f. let l = (c.places-places.ensures.within x f).1 in omega (arith, l, past)) c.loop-place.invariant
