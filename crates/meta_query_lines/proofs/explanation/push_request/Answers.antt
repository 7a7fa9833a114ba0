use Rattle.std.proofs.Common.{string_bytes}
use Rattle.std.proofs.lemmas.Result.{on_ok_weaker}
use Rattle.meta_query_lines.proofs.ExplanationLemmas.{of_nothing, of_names}
use Rattle.meta_query_lines.proofs.explanation.push_request.Goals as goal

pub returns-in_default : goal.returns-in_default
returns-in_default c =
    on_ok_weaker c.push_text.result
    (λ e none. of_nothing c.args.tables.now _ c.args.line.now (string_bytes c.args.out.now) (string_bytes c.push_text.new.out)
    none c.in_default.ensures.none e) c.push_text.ensures

pub returns-in-Types : goal.returns-in-Types
returns-in-Types c =
    on_ok_weaker c.push_types_line.result
    (λ f none. f _ c.args.line.now (rw c.in-Types.is at c.in-Some.ensures.words) (rw c.in-Types.is at c.in-Some.ensures.named))
    c.push_types_line.ensures

pub returns-in-Find : goal.returns-in-Find
returns-in-Find c =
    on_ok_weaker c.push_find_line.result (λ f none. f _ c.args.line.now (rw c.in-Find.is at c.in-Some.ensures.words))
    c.push_find_line.ensures

pub returns-in-Names : goal.returns-in-Names
returns-in-Names c =
    on_ok_weaker c.push_names.result
    (λ h none. of_names c.args.tables.now _ c.args.line.now (string_bytes c.args.out.now) (string_bytes c.push_names.new.out)
    c.in-Names.name (rw c.in-Names.is at c.in-Some.ensures.words) (rw c.in-Names.is at c.in-Some.ensures.named) (rw c.opcodes.ensures at h)) c.push_names.ensures
