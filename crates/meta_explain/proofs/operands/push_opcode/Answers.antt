use Rattle.std.proofs.Common.{◌≡◌, subst, arith, rules}
use Rattle.std.proofs.lemmas.Bool.{false≢true}
use Rattle.std.proofs.lemmas.Result.{on_ok_weaker}
use Rattle.meta_gen.specs.Constraint.{entry_of}
use Rattle.meta_gen.specs.Contents.{IsOpcode}
use Rattle.meta_explain.specs.Found.{Finds}
use Rattle.meta_explain.specs.Search.{IsFoundBy}
use Rattle.meta_explain.proofs.Adding.{adds_none, adds_same}
use Rattle.meta_explain.proofs.Choosing.{found_by, finds, found_results, found_values, found_opcode}
use Rattle.meta_explain.proofs.operands.push_opcode.Goals as goal

pub returns-in_default : goal.returns-in_default
returns-in_default c =
    let t = c.args.tables.now in
    let r = c.args.results.now in
    let v = c.args.values.now in
    adds_none (λ x. (x.opcode ≡ c.args.opcode) × Finds t r v x) c.args.found.now.items
    (λ x (is, f). false≢true (c.in_default.ensures.opcode.1 (subst (IsOpcode t) is (found_opcode t r v x f))))

pub returns-then-results-result_count : goal.returns-then-results-result_count
returns-then-results-result_count c =
    let t = c.args.tables.now in
    let r = c.args.results.now in
    let v = c.args.values.now in
    adds_none (λ x. (x.opcode ≡ c.args.opcode) × Finds t r v x) c.args.found.now.items
    (λ x (is, f). let same = found_results t c.args.opcode (entry_of c.in-Some.entry) r v c.in-Some.ensures.entry x is f in
    let count = c.result_count.ensures.count in let other = c.if-results-result_count.true in absurd (omega arith))

pub returns-then-values-value_count : goal.returns-then-values-value_count
returns-then-values-value_count c =
    let t = c.args.tables.now in
    let r = c.args.results.now in
    let v = c.args.values.now in
    adds_none (λ x. (x.opcode ≡ c.args.opcode) × Finds t r v x) c.args.found.now.items
    (λ x (is, f). let same = found_values t c.args.opcode (entry_of c.in-Some.entry) r v c.in-Some.ensures.entry x is f in
    let count = c.value_count.ensures.count in let other = c.if-values-value_count.true in absurd (omega arith))

pub returns : goal.returns
returns c =
    let t = c.args.tables.now in
    let r = c.args.results.now in
    let v = c.args.values.now in
    let op = c.args.opcode in
    let e = entry_of c.in-Some.entry in
    let at = c.in-Some.ensures.entry in
    on_ok_weaker c.push_all.result
    (adds_same (IsFoundBy t op e r v) (λ x. (x.opcode ≡ op) × Finds t r v x) c.args.found.now.items c.push_all.new.found.items
    (λ x f. (f.opcode, finds t op e r v at x (search rules) (search rules) f))
    (λ x (is, f). found_by t op e r v at x is f))
    c.push_all.ensures
