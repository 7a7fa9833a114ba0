use Rattle.std.proofs.Common.{◌≡◌, false, true, map, sym, ap, ◌∙◌, subst, rules}
use Rattle.meta_types.specs.TypeNumber.{type_with}
use Rattle.meta_inst.specs.Tables.{Allows}
use Rattle.meta_verify.specs.Environment.{first_undefined, first_redefined, HaveTypes}
use Rattle.meta_verify.specs.Numbers.{typed_value_of}
use Rattle.meta_verify.specs.Defined.{environment_of}
use Rattle.meta_verify.specs.declared.statement.TypedNumber.{TypedNumber}
use Rattle.meta_verify.proofs.CheckerLemmas.{is_undefined, is_redefined, is_refused, is_faultless, says_no}
use Rattle.meta_verify.proofs.mistake.mistake_of_application.Goals as goal

pub returns-in-Some-2-clause-mistake : goal.returns-in-Some-2-clause-mistake
returns-in-Some-2-clause-mistake c =
    let env = environment_of c.args.types.now in
    is_undefined c.args.tables.now.opcodes env c.args.application.now c.requires.numbers c.in-Some.opcode
    c.in-Some.ensures.found c.in-Some-2.value
    (sym c.in-Some-2.is ∙ c.in_ok-value.ensures.undefined ∙ ap (first_undefined env) c.deref.ensures.value)

pub returns-in-Some-3-clause-mistake : goal.returns-in-Some-3-clause-mistake
returns-in-Some-3-clause-mistake c =
    let env = environment_of c.args.types.now in
    is_redefined c.args.tables.now.opcodes env c.args.application.now c.requires.numbers c.in-Some.opcode
    c.in-Some.ensures.found c.in-Some-3.value
    (sym c.in_default-2.is ∙ c.in_ok-value.ensures.undefined ∙ ap (first_undefined env) c.deref.ensures.value)
    (sym c.in-Some-3.is ∙ c.in_ok-value-2.ensures ∙ ap (λ rs. first_redefined env (map typed_value_of rs)) c.deref-2.ensures.value)

pub returns-then-not-accepts2-clause-mistake : goal.returns-then-not-accepts2-clause-mistake
returns-then-not-accepts2-clause-mistake c =
    let env = environment_of c.args.types.now in
    let off : c.accepts2.result ≡ false = search rules in
    is_refused c.args.tables.now.opcodes env c.args.application.now c.requires.numbers c.in-Some.opcode
    c.in-Some.ensures.found c.look_up.new.numbers.items c.put_numbers.new.numbers.items
    (sym c.in_default-2.is ∙ c.in_ok-value.ensures.undefined ∙ ap (first_undefined env) c.deref.ensures.value)
    (sym c.in_default-3.is ∙ c.in_ok-value-2.ensures ∙ ap (λ rs. first_redefined env (map typed_value_of rs)) c.deref-2.ensures.value)
    (subst (λ vs. HaveTypes env vs (map type_with c.look_up.new.numbers.items)) c.deref.ensures.value
    (c.in_ok-value.ensures.types c.in_default-2.is))
    c.in_ok-value.ensures.known
    (c.in_ok-put_numbers.ensures ∙ ap (map (λ (r : TypedNumber). r.number)) c.deref-3.ensures.value)
    (λ allows. says_no c.accepts2.result _ c.accepts2.ensures.decoding off
    (subst (λ rs. Allows c.args.tables.now.opcodes c.in-Some.opcode c.args.application.now.control
    c.args.application.now.second rs c.deref-5.result.now) (sym c.deref-4.ensures.value)
    (subst (λ vs. Allows c.args.tables.now.opcodes c.in-Some.opcode c.args.application.now.control
    c.args.application.now.second c.put_numbers.new.numbers.items vs) (sym c.deref-5.ensures.value) allows)))

pub returns-clause-none : goal.returns-clause-none
returns-clause-none c =
    let env = environment_of c.args.types.now in
    let on : c.accepts2.result ≡ true = search rules in
    is_faultless c.args.tables.now.opcodes env c.args.application.now c.requires.numbers c.in-Some.opcode
    c.in-Some.ensures.found c.look_up.new.numbers.items c.put_numbers.new.numbers.items
    (sym c.in_default-2.is ∙ c.in_ok-value.ensures.undefined ∙ ap (first_undefined env) c.deref.ensures.value)
    (sym c.in_default-3.is ∙ c.in_ok-value-2.ensures ∙ ap (λ rs. first_redefined env (map typed_value_of rs)) c.deref-2.ensures.value)
    (subst (λ vs. HaveTypes env vs (map type_with c.look_up.new.numbers.items)) c.deref.ensures.value
    (c.in_ok-value.ensures.types c.in_default-2.is))
    c.in_ok-value.ensures.known
    (c.in_ok-put_numbers.ensures ∙ ap (map (λ (r : TypedNumber). r.number)) c.deref-3.ensures.value)
    (subst (λ rs. Allows c.args.tables.now.opcodes c.in-Some.opcode c.args.application.now.control
    c.args.application.now.second rs c.look_up.new.numbers.items) c.deref-4.ensures.value
    (subst (λ vs. Allows c.args.tables.now.opcodes c.in-Some.opcode c.args.application.now.control
    c.args.application.now.second c.deref-4.result.now vs) c.deref-5.ensures.value (c.accepts2.ensures.decoding.0 on)))
