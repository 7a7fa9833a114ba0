use Rattle.std.proofs.Common.{◌<◌, ◌^◌, length, rules, arith}
use Rattle.std.proofs.lemmas.Grind.{elements}
use Rattle.meta_unique.proofs.Walks.{walk_next, walk_read, slot_inside, contained_vacant}
use Rattle.meta_unique.specs.Probing.{IsPassed}
use Rattle.meta_unique.proofs.probing.probe_counted.Given as given
use Rattle.meta_unique.proofs.probing.probe_counted.Goals as goal

pub walk-preserved : goal.walk-preserved
walk-preserved g c =
    let read = walk_read c.args.slots.now _ _ _ _ _ _ c.walk.invariant.0 c.in-Some.is in
    let vacant = contained_vacant c.args.slots.now c.requires.vacant in (
      walk_next c.args.slots.now _ _ _ vacant.0 (IsPassed (given.M-post g c.args.matches) c.args.slots.now) c.requires.power vacant.1
          (λ s p. (p.number, p.taken)) c.walk.invariant.0 (record {
            number = c.in-Some.number;
            taken = read;
            refused = c.if-matches.ensures;
          }),
      omega arith,
    )

pub returns-in-None-clause-lookup : goal.returns-in-None-clause-lookup
returns-in-None-clause-lookup g c = grind (arith, elements)

pub returns-then-matches-clause-lookup : goal.returns-then-matches-clause-lookup
returns-then-matches-clause-lookup g c = grind (arith, elements)

pub overflow_add-slot : goal.overflow_add-slot
overflow_add-slot g c =
    let few : length c.args.slots.now < 2 ^ 63 = search rules in
    omega (arith, few, slot_inside c.args.slots.now c.args.start c.walk.slot c.walk.passed _ c.walk.invariant.0, c.walk.invariant.0.inside)
