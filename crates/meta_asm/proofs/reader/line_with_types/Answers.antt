use Rattle.std.proofs.Common.{◌≡◌, List, ℕ, Bor, Vec, Global, map, Option, Some, None, ap, ◌∙◌, subst}
use Rattle.std.specs.Option.{option_map}
use Rattle.meta_gen.specs.Constraint.{entry_of}
use Rattle.meta_verify.specs.Statement.{value_text, typed_text, list_text}
use Rattle.meta_verify.specs.Defined.{definitions}
use Rattle.meta_asm.specs.Written.{IsWritten}
use Rattle.meta_asm.specs.declared.written.Written.{Written}
use Rattle.meta_asm.proofs.LineLemmas.{values_have_no_space}
use Rattle.meta_asm.proofs.ReaderLemmas.{is_allowed, told, control_word_is, line_is}
use Rattle.meta_asm.proofs.reader.line_with_types.Goals as goal

pub returns-in_default : goal.returns-in_default
returns-in_default c = λ line m a states h out parts.
    let values = c.deref.ensures.value
    ∙ c.in_ok-values.ensures (map value_text a.values) (values_have_no_space a.values h.can.values) parts.values in
    let none = subst (λ (o : Option Written). IsWritten m a o) c.in_default.is
    (c.in_ok-written.ensures m a h.can h.plain h.some parts values) in
    absurd none

pub returns-in_default-infer_results2 : goal.returns-in_default-infer_results2
returns-in_default-infer_results2 c = λ line m a states h out parts.
    let values = c.deref.ensures.value
    ∙ c.in_ok-values.ensures (map value_text a.values) (values_have_no_space a.values h.can.values) parts.values in
    let w = subst (λ (o : Option Written). IsWritten m a o) c.in-Some.is (c.in_ok-written.ensures m a h.can h.plain h.some parts values) in
    absurd (is_allowed c.args.tables.now.opcodes (definitions c.args.checker.now) c.args.named.opcode
    (entry_of c.args.named.entry) m a _ _ h (c.control_of-control.ensures m a h out w) w.second
    c.in_default-infer_results2.ensures.unaccepted)

pub returns-in_default-2 : goal.returns-in_default-2
returns-in_default-2 c = λ line m a states h out parts.
    let values = c.deref.ensures.value
    ∙ c.in_ok-values.ensures (map value_text a.values) (values_have_no_space a.values h.can.values) parts.values in
    let w = subst (λ (o : Option Written). IsWritten m a o) c.in-Some.is (c.in_ok-written.ensures m a h.can h.plain h.some parts values) in
    let tell = told c.args.tables.now.opcodes (definitions c.args.checker.now) c.args.named.opcode
    (entry_of c.args.named.entry) m a _ _ _ h (c.control_of-control.ensures m a h out w) w.second
    c.in-Some-infer_results2.ensures.given in
    let results = c.in_ok-results.ensures m.opened a.results h.can.results tell parts.results in
    let none : option_map (λ (v : Vec ℕ Global). v.items) c.in_ok-results.field-0 ≡ None =
    ap (option_map (λ (v : Vec ℕ Global). v.items)) c.in_default-2.is in
    absurd (cc)

pub returns : goal.returns
returns c = λ line m a states h out parts.
    let values = c.in_ok-values.ensures (map value_text a.values) (values_have_no_space a.values h.can.values) parts.values in
    let w = subst (λ (o : Option Written). IsWritten m a o) c.in-Some.is
    (c.in_ok-written.ensures m a h.can h.plain h.some parts (c.deref.ensures.value ∙ values)) in
    let control = c.control_of-control.ensures m a h out w in
    let tell = told c.args.tables.now.opcodes (definitions c.args.checker.now) c.args.named.opcode
    (entry_of c.args.named.entry) m a _ _ _ h control w.second c.in-Some-infer_results2.ensures.given in
    let results = c.in_ok-results.ensures m.opened a.results h.can.results tell parts.results in
    let some : option_map (λ (v : Vec ℕ Global). v.items) c.in_ok-results.field-0 ≡ Some c.in-Some-2.results.items =
    ap (option_map (λ (v : Vec ℕ Global). v.items)) c.in-Some-2.is in
    let word : c.in-Some-2.results.items ≡ list_text (map typed_text a.results) = cc in
    let controls = control_word_is m.leaves_out a.control a.second
    (option_map (λ (t : Bor (List ℕ)). t.now) c.args.parts.control) _ c.in_ok-control.control.items h.can.control h.can.after
    parts.control control c.in_ok-control.ensures.written c.in_ok-control.ensures.known in
    ap (λ l. Some l) (line_is line c.in_ok-line_of.field-0.items c.args.parts.name.now c.deref-2.result.now c.deref-3.result.now
    c.deref-4.result.now a states parts.name (c.deref-2.ensures.value ∙ controls) (c.deref-3.ensures.value
    ∙ word) (c.deref-4.ensures.value ∙ values) c.in_ok-line_of.ensures)
