use Rattle.std.proofs.Common.{string_bytes}
use Rattle.meta_rust_text.specs.MethodBody.{numbered_result}
use Rattle.meta_rust_text.proofs.After.{one_part}
use Rattle.meta_rust_text.proofs.results.numbered_results.Goals as goal

pub loop-before-preserved : goal.loop-before-preserved
loop-before-preserved c = one_part numbered_result c.loop-before.before (string_bytes c.loop-before.text)
    (string_bytes c.push_str.new.self) (string_bytes c.push_numbered-in-loop-before.new.out)
    c.loop-before.invariant c.in_ok-push_str.ensures.bytes c.in_ok-push_numbered-2.ensures
