use Rattle.std.proofs.Common.{string_bytes}
use Rattle.std.proofs.lemmas.Result.{on_ok_weaker}
use Rattle.meta_query_lines.proofs.AddedLemmas.{control_added}
use Rattle.meta_query_lines.proofs.type_lists.push_control_set.Goals as goal

pub push_set-requires : goal.push_set-requires
push_set-requires c = rw c.deref.ensures.value (rw c.in-Some.is at c.requires)

pub returns-in-Some : goal.returns-in-Some
returns-in-Some c =
    on_ok_weaker c.push_set.result
    (control_added c.args.numbers.now c.in-Some.numbers c.deref.result.now (string_bytes c.args.out.now) (string_bytes c.push_set.new.out)
    c.in-Some.is c.deref.ensures.value) c.push_set.ensures
