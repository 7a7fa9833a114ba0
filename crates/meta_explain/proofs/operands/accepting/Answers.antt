use Rattle.std.proofs.Common.{◌≡◌, ℕ, List, Option, None, replicate, take, sym, ◌∙◌, ap, subst}
use Rattle.std.proofs.lemmas.Bool.{false≢true}
use Rattle.std.proofs.lemmas.List.{take-replicate}
use Rattle.std.proofs.lemmas.Result.{IfOk-from_err}
use Rattle.meta_gen.specs.Constraint.{entry_of}
use Rattle.meta_explain.specs.Listed.{AreListed}
use Rattle.meta_explain.specs.Found.{Finds, IsBefore}
use Rattle.meta_explain.specs.Search.{Adds}
use Rattle.meta_explain.specs.Operands.{AcceptsSome}
use Rattle.meta_explain.specs.declared.found.Found.{Found}
use Rattle.meta_explain.proofs.Choosing.{is_opcode}
use Rattle.meta_explain.proofs.Listing.{listed_none}
use Rattle.meta_explain.proofs.Combining.{any_listed}
use Rattle.meta_explain.proofs.operands.accepting.Goals as goal

pub returns-in_default : goal.returns-in_default
returns-in_default c =
    let t = c.args.tables.now in
    let P = λ (x : Found). (x.opcode ≡ c.args.opcode) × AcceptsSome t c.args.opcode x.controls in
    subst (AreListed IsBefore P) (sym c.new-found.ensures.items) (listed_none IsBefore P
    (λ x (is, some). false≢true (c.in_default.ensures.opcode.1
    (is_opcode t.entries c.args.opcode some.accepts.entry some.accepts.is_opcode))))

pub push_opcode-requires : goal.push_opcode-requires
push_opcode-requires c = c.opcode_count-count.ensures.well_formed

pub returns : goal.returns
returns c =
    let t = c.args.tables.now in
    let e = entry_of c.in-Some.entry in
    let few = c.result_count.ensures.few in
    let small = c.value_count.ensures.few in
    let r : List (Option ℕ) = take c.result_count.result (replicate 7 None) in
    let v : List (Option ℕ) = take c.value_count.result (replicate 7 None) in
    any_listed t c.args.opcode e c.in-Some.ensures.entry r v
    (take-replicate c.result_count.result 7 None few ∙ ap (λ n. replicate n None) c.result_count.ensures.count)
    (take-replicate c.value_count.result 7 None small ∙ ap (λ n. replicate n None) c.value_count.ensures.count)
    c.push_opcode.new.found.items
    (subst (λ (old : List Found). Adds (λ x. (x.opcode ≡ c.args.opcode) × Finds t r v x) old c.push_opcode.new.found.items)
    c.new-found.ensures.items c.in_ok-push_opcode.ensures)

pub returns-in_err-push_opcode : goal.returns-in_err-push_opcode
returns-in_err-push_opcode c = IfOk-from_err c.from_residual.result _ c.from_residual.ensures.0
