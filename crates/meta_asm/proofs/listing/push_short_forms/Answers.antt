use Rattle.std.proofs.Common.{◌≡◌, Option, refl, sym, ◌∙◌, subst, arith}
use Rattle.meta_lines.specs.Lines.{lines_of}
use Rattle.meta_lines.proofs.LineLemmas.{few_lines}
use Rattle.meta_gen.specs.Reply.{AllowedReply}
use Rattle.meta_verify.specs.Environment.{Environment}
use Rattle.meta_verify.specs.Defined.{definitions}
use Rattle.meta_verify.specs.Wrong.{Feeds}
use Rattle.meta_verify.specs.declared.reason.Reason.{Reason}
use Rattle.meta_verify.proofs.VerdictLemmas.{at_front, left_next, few_so_far, AreRightSoFar, none_so_far, one_right, first_wrong}
use Rattle.meta_asm.proofs.ListingLemmas.{none_written, one_written, all_written}
use Rattle.meta_asm.proofs.listing.push_short_forms.Goals as goal

pub loop-line-init : goal.loop-line-init
loop-line-init c =
    let all : c.into_iter-line-iterator.result ≡ lines_of c.args.input.now = cc in
    record {
      left = sym all;
      right = subst (λ (e : Environment). AreRightSoFar c.args.tables.now.opcodes (lines_of c.args.input.now) 0 e)
          (sym c.requires.new) (none_so_far c.args.tables.now.opcodes (lines_of c.args.input.now));
      written = none_written c.args.tables.now.opcodes (lines_of c.args.input.now) _ _ c.requires.new c.requires.empty;
    }

pub overflow_add-number : goal.overflow_add-number
overflow_add-number c =
    let so_far = few_so_far (lines_of c.args.input.now) c.loop-line.number c.in-Some.line.now c.next.new.self (c.loop-line.invariant.left
    ∙ c.in-Some.ensures.steps) in
    let few = few_lines c.args.input.now in
    let within = c.requires.within in
    omega (arith, so_far, few, within)

pub returns-in-Some-2-clause-wrong : goal.returns-in-Some-2-clause-wrong
returns-in-Some-2-clause-wrong c =
    let R = AllowedReply c.args.tables.now.opcodes in
    let next = c.loop-line.invariant.left ∙ c.in-Some.ensures.steps in
    let (first, line, before) = first_wrong c.args.tables.now.opcodes (lines_of c.args.input.now) c.loop-line.number
    (definitions c.loop-line.checker) (definitions c.push_short_form.new.checker) c.in-Some.line.now c.next.new.self c.in-Some-2.reason
    c.loop-line.invariant.right next
    (subst (λ (o : Option Reason). Feeds R (definitions c.loop-line.checker) c.in-Some.line.now o
    (definitions c.push_short_form.new.checker)) c.in-Some-2.is c.in_ok-reason.ensures.fed) in
    record { place = c.loop-line.number; number = refl; first = first; line = line; before = before }

pub loop-line-preserved : goal.loop-line-preserved
loop-line-preserved c =
    let R = AllowedReply c.args.tables.now.opcodes in
    let next = c.loop-line.invariant.left ∙ c.in-Some.ensures.steps in
    record {
      left = left_next (lines_of c.args.input.now) c.loop-line.number c.in-Some.line.now c.next.new.self next;
      right = one_right c.args.tables.now.opcodes (lines_of c.args.input.now) c.loop-line.number (definitions c.loop-line.checker)
          (definitions c.push_short_form.new.checker) c.in-Some.line.now c.next.new.self c.loop-line.invariant.right next
          (subst (λ (o : Option Reason). Feeds R (definitions c.loop-line.checker) c.in-Some.line.now o
          (definitions c.push_short_form.new.checker)) c.in_default.is c.in_ok-reason.ensures.fed);
      written = one_written c.args.tables.now.opcodes (lines_of c.args.input.now) c.loop-line.number (definitions c.loop-line.checker)
          (definitions c.push_short_form.new.checker) c.in-Some.line.now _ _ c.loop-line.invariant.written
          (at_front (lines_of c.args.input.now) c.loop-line.number c.in-Some.line.now c.next.new.self next)
          (c.in_ok-reason.ensures.added c.in_default.is);
    }

pub returns-clause-right : goal.returns-clause-right
returns-clause-right c =
    all_written c.args.tables.now.opcodes (lines_of c.args.input.now) c.loop-line.number _ _ c.loop-line.invariant.written
    (c.loop-line.invariant.left ∙ c.in-None.ensures.steps.0)
