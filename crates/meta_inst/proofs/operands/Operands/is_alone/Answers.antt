use Rattle.std.proofs.Common.{◌<◌, ◌↔◌, IsTrue, length, refl, sym, subst}
use Rattle.std.specs.Ordering.{nat_cmp}
use Rattle.std.specs.BTreeMap.{get}
use Rattle.std.proofs.lemmas.Option.{slice_get_read, MatchOption-at_some}
use Rattle.meta_inst.specs.Operands.{OperandList, IsAlone}
use Rattle.meta_inst.proofs.Counting.{alone_told}
use Rattle.meta_inst.proofs.operands.Operands.is_alone.Goals as goal

pub returns-in-Some : goal.returns-in-Some
returns-in-Some c =
    let inside = c.self.inside in
    let within = subst (λ (o : OperandList). c.args.place < length o.variables) (sym c.self.view_is) c.requires in
    subst (λ (o : OperandList). IsTrue c.is_once.result ↔ IsAlone o.variables o.result_count c.args.place) c.self.view_is
    (alone_told inside.variables.items inside.result_count c.args.place c.index.result.now
    (get nat_cmp c.in-Some.counts.counts) c.is_once.result
    c.if-place-self.false (slice_get_read inside.variables.items _ c.args.place c.index.result.now refl within
    c.index.ensures) (MatchOption-at_some {o = inside.input_counts} (Unit {0}) _ _ c.in-Some.is c.self.invariant.1) c.is_once.ensures)

pub returns-in-None : goal.returns-in-None
returns-in-None c = subst (λ (o : OperandList). IsTrue c.stands_alone.result
    ↔ IsAlone o.variables o.result_count c.args.place) c.self.view_is (rw c.deref.ensures.value at c.stands_alone.ensures)
