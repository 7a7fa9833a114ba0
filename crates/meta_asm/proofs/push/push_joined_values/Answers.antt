use Rattle.std.proofs.Common.{string_bytes, map}
use Rattle.std.proofs.lemmas.Option.{slice_get-get_or}
use Rattle.meta_lists.proofs.Mapped.{get_map}
use Rattle.meta_verify.specs.Statement.{value_text}
use Rattle.meta_asm.proofs.Writing.{joined_next}
use Rattle.meta_asm.proofs.push.push_joined_values.Goals as goal

pub loop-k-preserved : goal.loop-k-preserved
loop-k-preserved c =
    let vs = c.args.values.now in
    let at = slice_get-get_or vs c.loop-k.k 0 c.loop-k-test.true in
    joined_next (string_bytes c.args.out.now) (map value_text vs) c.loop-k.k _
    (get_map value_text vs c.loop-k.k _ at) c.loop-k.invariant c.in_ok-push_comma.ensures c.in_ok-push_value.ensures
