use Rattle.std.proofs.Common.{◌++◌, All, length, string_bytes, refl, sym, ap₂, subst}
use Rattle.std.proofs.lemmas.Result.{on_ok_weaker}
use Rattle.meta_types.specs.TypeNumber.{IsTypeNumber}
use Rattle.meta_query_lines.specs.Told.{told_by}
use Rattle.meta_query_lines.proofs.AddedLemmas.{refusal_added}
use Rattle.meta_query_lines.proofs.why.push_refusal.Goals as goal

pub push_held-requires-clause-operands : goal.push_held-requires-clause-operands
push_held-requires-clause-operands c =
    subst (All IsTypeNumber) (sym (ap₂ ◌++◌ c.results-results.ensures c.values-values.ensures)) c.controls-controls.ensures.operands_known

pub returns : goal.returns
returns c =
    on_ok_weaker c.push_wants.result
    (refusal_added (told_by c.args.told) c.args.opcode c.args.question.now c.args.part c.args.wanted.now c.controls-controls.result
    c.results-results.result.now c.values-values.result.now (length c.results-results.result.now) (string_bytes c.args.out.now)
    (string_bytes c.push_str.new.self) (string_bytes c.push_place.new.out) (string_bytes c.push_part_name.new.out)
    (string_bytes c.push_str-2.new.self) (string_bytes c.push_held.new.out) (string_bytes c.push_str-3.new.self)
    (string_bytes c.push_wants.new.out) c.controls-controls.ensures.controls c.results-results.ensures c.values-values.ensures refl
    c.in_ok-push_str.ensures.bytes c.in_ok-push_place.ensures c.in_ok-push_part_name.ensures c.in_ok-push_str-2.ensures.bytes
    c.in_ok-push_held.ensures c.in_ok-push_str-3.ensures.bytes) c.push_wants.ensures
