use Rattle.std.proofs.lemmas.List.Elements.{All-push}
use Rattle.std.proofs.lemmas.Option.{slice_get-get_or}
use Rattle.meta_types.specs.TypeNumber.{IsTypeNumber}
use Rattle.meta_verify.specs.Defined.{environment_of}
use Rattle.meta_verify.proofs.EnvironmentLemmas.{undefined_next, one_more_type, has_type, known_there}
use Rattle.meta_verify.proofs.defined.look_up.Goals as goal

pub loop-value-preserved : goal.loop-value-preserved
loop-value-preserved c =
    let at = slice_get-get_or c.args.values.now c.loop-value.value-index 0 c.loop-value-test.true in
    let has = has_type c.args.types.now _ c.in-Some.number _ c.get.ensures c.in-Some.is in
    record {
      left = undefined_next (environment_of c.args.types.now) c.args.values.now c.loop-value.value-index _ _ at has
          c.loop-value.invariant.left;
      types = rw c.in_ok-push-in-Some.ensures.items
          (one_more_type (environment_of c.args.types.now) c.args.values.now c.loop-value.value-index _ c.loop-value.numbers.items _ at has
          c.loop-value.invariant.types);
      known = rw c.in_ok-push-in-Some.ensures.items
          (All-push IsTypeNumber c.loop-value.numbers.items c.in-Some.number c.loop-value.invariant.known
          (known_there c.args.types.now _ _ _ c.get.ensures c.in-Some.is c.requires.known));
    }
