use Rattle.std.proofs.Common.{◌≡◌, ◌<◌, ◌≤◌, ◌∙◌, ℕ, zero, suc, List, Some, length, refl, sym, rules, arith}
use Rattle.std.proofs.lemmas.Bool.{false≢true}
use Rattle.std.proofs.lemmas.List.{length-set}
use Rattle.std.proofs.lemmas.Option.{slice_get_within}
use Rattle.meta_inst.specs.Tables.{at_opcode}
use Rattle.meta_gen.proofs.Inferring.{refused_control, refused_second, refused_place, all_given, more_given, rest_stays}
use Rattle.meta_gen.proofs.Inferring.{same_rest}
use Rattle.meta_gen.proofs.opcode_tables.OpcodeTables.infer_into.Goals as goal

-- an entry is an opcode's
is_opcode : {X : Type 0} (xs : List X) (op : ℕ) (x : X) → at_opcode xs op ≡ Some x → (0 < op) × (op ≤ length xs)
is_opcode xs zero x e = absurd (cc)
is_opcode xs (suc k) x e = let l = slice_get_within xs k x e in (omega arith, omega (arith, l))

pub returns-in_err-numbers-clause-none : goal.returns-in_err-numbers-clause-none
returns-in_err-numbers-clause-none c =
    let count = c.result_count-count.ensures.count in
    let inside = c.loop-k-test.true in
    rw c.from_residual-in_err-numbers.ensures (refused_place c.args.self.now c.args.opcode c.args.controls.ctrl c.args.controls.second _
    c.in_ok-entry.ensures.entry c.loop-k.k (omega arith) c.in_err-numbers.ensures.none)

pub loop-k-preserved : goal.loop-k-preserved
loop-k-preserved c =
    let inside = c.loop-k-test.true in
    let count = c.result_count-count.ensures.count in
    let long = c.loop-k.invariant.long in
    record {
      long = length-set c.loop-k.numbers c.loop-k.k c.in_ok-numbers.field-0 ∙ long;
      same = length-set c.loop-k.numbers c.loop-k.k c.in_ok-numbers.field-0 ∙ c.loop-k.invariant.same;
      given = more_given c.args.self.now _ _ c.loop-k.numbers c.loop-k.k _
          (omega arith) c.in_ok-numbers.ensures.some c.loop-k.invariant.given;
      rest = rest_stays c.loop-k.numbers c.args.out.now c.loop-k.k _ c.loop-k.invariant.rest;
    }

pub returns-clause-given : goal.returns-clause-given
returns-clause-given c =
    let past = c.loop-k-test.false in
    let within = c.loop-k.auto.k-end in
    let count = c.result_count-count.ensures.count in
    let long = c.loop-k.invariant.long in
    all_given c.args.self.now c.args.opcode c.args.controls.ctrl c.args.controls.second _ c.in_ok-entry.ensures.entry c.loop-k.numbers
    c.result_count-count.result
    (c.control_fits.ensures.0 c.if-not-control_fits.false) (c.control_fits-2.ensures.0 c.if-not-control_fits-2.false) count (omega arith)
    (λ j below. c.loop-k.invariant.given j (omega arith))

pub returns-clause-rest : goal.returns-clause-rest
returns-clause-rest c =
    let past = c.loop-k-test.false in
    let within = c.loop-k.auto.k-end in
    same_rest c.loop-k.numbers c.args.out.now c.result_count-count.result c.loop-k.invariant.same
    (λ j after inside. c.loop-k.invariant.rest j (omega arith))

pub loop-k-init : goal.loop-k-init
loop-k-init c =
    record { long = search rules; same = refl; given = λ j below. absurd (omega (arith, below)); rest = λ j after. refl }

-- ---- nothing is given, and nothing was written

pub returns-in_err-entry-clause-given : goal.returns-in_err-entry-clause-given
returns-in_err-entry-clause-given c = rw c.from_residual.ensures tt

pub returns-in_err-entry-clause-few : goal.returns-in_err-entry-clause-few
returns-in_err-entry-clause-few c = rw c.from_residual.ensures tt

pub returns-in_err-entry-clause-rest : goal.returns-in_err-entry-clause-rest
returns-in_err-entry-clause-rest c = rw c.from_residual.ensures tt

pub returns-in_err-entry-clause-unchanged : goal.returns-in_err-entry-clause-unchanged
returns-in_err-entry-clause-unchanged c = rw c.from_residual.ensures refl

pub returns-then-not-control_fits-clause-none : goal.returns-then-not-control_fits-clause-none
returns-then-not-control_fits-clause-none c =
    refused_control c.args.self.now c.args.opcode c.args.controls.ctrl c.args.controls.second _ c.in_ok-entry.ensures.entry
    (λ fits. false≢true (sym c.if-not-control_fits.true ∙ c.control_fits.ensures.1 fits))

pub returns-then-not-control_fits-2-clause-none : goal.returns-then-not-control_fits-2-clause-none
returns-then-not-control_fits-2-clause-none c =
    refused_second c.args.self.now c.args.opcode c.args.controls.ctrl c.args.controls.second _ c.in_ok-entry.ensures.entry
    (λ fits. false≢true (sym c.if-not-control_fits-2.true ∙ c.control_fits-2.ensures.1 fits))

pub returns-in_err-numbers-clause-given : goal.returns-in_err-numbers-clause-given
returns-in_err-numbers-clause-given c = rw c.from_residual-in_err-numbers.ensures tt

pub returns-in_err-numbers-clause-few : goal.returns-in_err-numbers-clause-few
returns-in_err-numbers-clause-few c = rw c.from_residual-in_err-numbers.ensures tt

pub returns-in_err-numbers-clause-rest : goal.returns-in_err-numbers-clause-rest
returns-in_err-numbers-clause-rest c = rw c.from_residual-in_err-numbers.ensures tt

pub returns-in_err-numbers-clause-unchanged : goal.returns-in_err-numbers-clause-unchanged
returns-in_err-numbers-clause-unchanged c = rw c.from_residual-in_err-numbers.ensures refl

pub returns-in_err-entry-clause-none : goal.returns-in_err-entry-clause-none
returns-in_err-entry-clause-none c =
    rw c.from_residual.ensures (λ numbers g. false≢true (c.in_err-entry.ensures.opcode.1
    (is_opcode c.args.self.now.entries c.args.opcode g.entry g.is_opcode)))

pub returns-clause-few : goal.returns-clause-few
returns-clause-few c = omega arith

pub overflow_add-offset : goal.overflow_add-offset
overflow_add-offset c = omega arith

pub offset_bounds-numbers-k : goal.offset_bounds-numbers-k
offset_bounds-numbers-k c = omega arith

pub bounds-numbers-k : goal.bounds-numbers-k
bounds-numbers-k c = omega arith
