use Rattle.std.proofs.Common.{string_bytes, codes}
use Rattle.std.proofs.lemmas.Result.{on_ok_weaker}
use Rattle.meta_explain.proofs.SetTexts.{wanted_set, wanted_are_types}
use Rattle.meta_explain.proofs.reasons.push_wants.Goals as goal

pub push_set-requires : goal.push_set-requires
push_set-requires c = wanted_are_types c.args.wanted.now c.in-Types.numbers c.deref.result.now c.in-Types.is c.deref.ensures.value c.requires

pub returns-in-Types : goal.returns-in-Types
returns-in-Types c = on_ok_weaker c.push_set.result
    (wanted_set (string_bytes c.args.out.now) (string_bytes c.push_str.new.self) (string_bytes c.push_set.new.out) c.deref.result.now
    c.args.wanted.now c.in-Types.numbers c.in-Types.is c.deref.ensures.value c.in_ok-push_str.ensures.bytes)
    c.push_set.ensures
