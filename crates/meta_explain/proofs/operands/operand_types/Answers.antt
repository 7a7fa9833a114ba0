use Rattle.std.proofs.Common.{◌+◌, ℕ, List, [], All, sym, ◌∙◌, subst, arith}
use Rattle.std.proofs.lemmas.Bool.{false≢true}
use Rattle.std.proofs.lemmas.Result.{IfOk-weaker}
use Rattle.meta_types.specs.TypeNumber.{IsTypeNumber}
use Rattle.meta_inst.specs.Tables.{PassesAt}
use Rattle.meta_gen.specs.Constraint.{entry_of}
use Rattle.meta_explain.specs.Listed.{AreListed, IsLess}
use Rattle.meta_explain.specs.Parts.{numbers_of}
use Rattle.meta_explain.specs.Operands.{MayBe}
use Rattle.meta_explain.proofs.Choosing.{is_opcode}
use Rattle.meta_explain.proofs.Listing.{listed_none, listed_same, listed_all}
use Rattle.meta_explain.proofs.Combining.{may_pass, passing_may, some_first, some_second}
use Rattle.meta_explain.proofs.Typed.{fitting_types}
use Rattle.meta_explain.proofs.operands.operand_types.Goals as goal

none_all : All IsTypeNumber []
none_all = λ k d l. absurd (omega (arith, l))

pub returns-then-not-accepts_some-clause-listed : goal.returns-then-not-accepts_some-clause-listed
returns-then-not-accepts_some-clause-listed c =
    let P = MayBe c.args.tables.now c.args.opcode c.args.controls c.args.operand in
    subst (AreListed IsLess P) (sym c.new.ensures.items) (listed_none IsLess P
    (λ n m. false≢true (sym c.if-not-accepts_some.true ∙ c.accepts_some.ensures.1
    (record { results = m.results; values = m.values; accepts = m.accepts }))))

pub returns-then-not-accepts_some-clause-types : goal.returns-then-not-accepts_some-clause-types
returns-then-not-accepts_some-clause-types c = subst (All IsTypeNumber) (sym c.new.ensures.items) none_all

pub returns-in_default-clause-types : goal.returns-in_default-clause-types
returns-in_default-clause-types c = subst (All IsTypeNumber) (sym c.new-in_default.ensures.items) none_all

pub returns-in_default-clause-listed : goal.returns-in_default-clause-listed
returns-in_default-clause-listed c =
    let P = MayBe c.args.tables.now c.args.opcode c.args.controls c.args.operand in
    subst (AreListed IsLess P) (sym c.new-in_default.ensures.items) (listed_none IsLess P
    (λ n m. false≢true (c.in_default.ensures.opcode.1
    (is_opcode c.args.tables.now.entries c.args.opcode m.accepts.entry m.accepts.is_opcode))))

pub types_at-requires : goal.types_at-requires
types_at-requires c =
    let some = c.accepts_some.ensures.0 c.if-not-accepts_some.false in
    fitting_types c.args.tables.now (entry_of c.in-Some.entry) c.args.controls c.opcode_count-count.ensures.well_formed
    (some_first c.args.tables.now c.args.opcode c.args.controls (entry_of c.in-Some.entry) c.in-Some.ensures.entry some)
    (some_second c.args.tables.now c.args.opcode c.args.controls (entry_of c.in-Some.entry) c.in-Some.ensures.entry some)

pub returns-clause-types : goal.returns-clause-types
returns-clause-types c =
    let t = c.args.tables.now in
    let e = entry_of c.in-Some.entry in
    let some = c.accepts_some.ensures.0 c.if-not-accepts_some.false in
    let alone =
    fitting_types t e c.args.controls c.opcode_count-count.ensures.well_formed
    (some_first t c.args.opcode c.args.controls e c.in-Some.ensures.entry some)
    (some_second t c.args.opcode c.args.controls e c.in-Some.ensures.entry some) in
    let place = e.constraint_offset + c.args.operand in
    IfOk-weaker c.types_at.result _ _ (λ v h. listed_all IsLess (PassesAt t (numbers_of c.args.controls) place) IsTypeNumber v.items
    (λ n p. alone place n p) h) c.types_at.ensures

pub returns-clause-listed : goal.returns-clause-listed
returns-clause-listed c =
    let t = c.args.tables.now in
    let e = entry_of c.in-Some.entry in
    let at = c.in-Some.ensures.entry in
    let some = c.accepts_some.ensures.0 c.if-not-accepts_some.false in
    let k = c.args.operand in
    let results = c.result_count.ensures.count in
    let values = c.value_count.ensures.count in
    let inside = c.if-operand-result_count.false in
    let P = PassesAt t (numbers_of c.args.controls) (e.constraint_offset + k) in
    let Q = MayBe t c.args.opcode c.args.controls k in
    IfOk-weaker c.types_at.result _ _ (λ v h. listed_same IsLess P Q v.items
    (λ n p. passing_may t c.args.opcode c.args.controls e at some.results some.values some.accepts k n (omega arith) p)
    (λ n m. may_pass t c.args.opcode c.args.controls e at k n m) h)
    c.types_at.ensures
