use Rattle.std.proofs.Common.{◌≡◌, List, ℕ, Some, None, Vec, Global, true, false, sym, ap, ◌∙◌, subst, rules}
use Rattle.std.specs.Option.{option_map}
use Rattle.std.proofs.lemmas.Result.{IfOk-weaker}
use Rattle.meta_verify.specs.Defined.{definitions}
use Rattle.meta_asm.specs.Reading.{IsShortIn, ReadsIn}
use Rattle.meta_asm.proofs.ReaderLemmas.{read_some, read_none, short_small, as_application}
use Rattle.meta_asm.proofs.reader.read_line.Goals as goal

pub returns-then-branch-clause-line : goal.returns-then-branch-clause-line
returns-then-branch-clause-line c =
    let on : c.in_ok-is_short_form.field-0 ≡ true = search rules in
    let own = c.in_ok-is_short_form.ensures.short on in
    IfOk-weaker c.text_of.result _ _
    (λ o some. read_some (ReadsIn c.args.tables.now.opcodes (definitions c.args.checker.now) c.args.text.now) c.args.text.now o own
    some) c.text_of.ensures.some

pub returns-then-branch-clause-none : goal.returns-then-branch-clause-none
returns-then-branch-clause-none c =
    let on : c.in_ok-is_short_form.field-0 ≡ true = search rules in
    let own = c.in_ok-is_short_form.ensures.short on in
    let small = short_small c.args.tables.now.opcodes c.opcode_count-opcodes.ensures.well_formed.opcodes
    (definitions c.args.checker.now) c.args.text.now c.args.text.now own in
    IfOk-weaker c.text_of.result _ _ (λ o none. read_none _ c.args.text.now o small none) c.text_of.ensures.none

pub returns-in_default-clause-none : goal.returns-in_default-clause-none
returns-in_default-clause-none c = λ line h.
    let off : c.in_ok-is_short_form.field-0 ≡ false = search rules in
    let (m, a, right, manner, is) = as_application c.args.tables.now.opcodes (definitions c.args.checker.now) line c.args.text.now
    (c.in_ok-is_short_form.ensures.other off) h in
    let some = c.in_ok-line.ensures line m a right manner is in
    let none : option_map (λ (v : Vec ℕ Global). v.items) c.in_ok-line.field-0 ≡ None =
    ap (option_map (λ (v : Vec ℕ Global). v.items)) c.in_default.is in
    let e : None ≡ Some line = sym none ∙ some in
    absurd (cc)

pub returns-then-not-branch-clause-none : goal.returns-then-not-branch-clause-none
returns-then-not-branch-clause-none c = λ line h.
    let off : c.in_ok-is_short_form.field-0 ≡ false = search rules in
    let other : c.in_ok-is_short_form-2.field-0 ≡ false = search rules in
    let (m, a, right, manner, is) = as_application c.args.tables.now.opcodes (definitions c.args.checker.now) line c.args.text.now
    (c.in_ok-is_short_form.ensures.other off) h in
    let some = c.in_ok-line.ensures line m a right manner is in
    let there : option_map (λ (v : Vec ℕ Global). v.items) c.in_ok-line.field-0 ≡ Some c.in-Some.line.items =
    ap (option_map (λ (v : Vec ℕ Global). v.items)) c.in-Some.is in
    let same : c.in-Some.line.items ≡ line = cc in
    c.in_ok-is_short_form-2.ensures.other other
    (subst (λ (l : List ℕ). IsShortIn c.args.tables.now.opcodes (definitions c.args.checker.now) l c.args.text.now)
    (sym (c.deref.ensures.value ∙ same)) h)

pub returns-clause-line : goal.returns-clause-line
returns-clause-line c =
    let on : c.in_ok-is_short_form-2.field-0 ≡ true = search rules in
    let own = c.in_ok-is_short_form-2.ensures.short on in
    IfOk-weaker c.text_of-2.result _ _
    (λ o some. read_some (ReadsIn c.args.tables.now.opcodes (definitions c.args.checker.now) c.args.text.now) _ o
    (rw (c.deref.ensures.value, ← c.deref-2.ensures.value) at own) some) c.text_of-2.ensures.some

pub returns-clause-none : goal.returns-clause-none
returns-clause-none c =
    let on : c.in_ok-is_short_form-2.field-0 ≡ true = search rules in
    let own = c.in_ok-is_short_form-2.ensures.short on in
    let small = short_small c.args.tables.now.opcodes c.opcode_count-opcodes.ensures.well_formed.opcodes
    (definitions c.args.checker.now) c.deref-2.result.now c.args.text.now
    (rw (c.deref.ensures.value, ← c.deref-2.ensures.value) at own) in
    IfOk-weaker c.text_of-2.result _ _ (λ o none. read_none _ c.deref-2.result.now o small none) c.text_of-2.ensures.none
