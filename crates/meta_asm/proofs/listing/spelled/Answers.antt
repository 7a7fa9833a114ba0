use Rattle.std.proofs.Common.{◌≡◌, Bool, true, false, List, ℕ, sym, ◌∙◌, subst, string_bytes, arith, rules}
use Rattle.meta_lines.specs.Lines.{lines_of}
use Rattle.meta_lines.proofs.LineLemmas.{few_lines}
use Rattle.meta_gen.specs.Reply.{AllowedReply}
use Rattle.meta_verify.specs.Defined.{definitions}
use Rattle.meta_verify.proofs.VerdictLemmas.{at_front, left_next, few_so_far}
use Rattle.meta_asm.specs.Manners.{IsMannerIn}
use Rattle.meta_asm.specs.Listing.{IsSpelled}
use Rattle.meta_asm.proofs.ListingLemmas.{none_read, one_read, all_read, first_unread}
use Rattle.meta_asm.proofs.listing.spelled.Goals as goal

pub loop-line-init : goal.loop-line-init
loop-line-init c =
    let all : c.into_iter-line-iterator.result ≡ lines_of c.args.input.now = cc in
    record {
      left = sym all;
      read = none_read c.args.tables.now.opcodes (lines_of c.args.input.now) _ _ c.new-checker.ensures c.new-text.ensures.bytes;
    }

pub overflow_add-number : goal.overflow_add-number
overflow_add-number c =
    let so_far = few_so_far (lines_of c.args.input.now) c.loop-line.number c.in-Some.line.now c.next.new.self (c.loop-line.invariant.left
    ∙ c.in-Some.ensures.steps) in
    let few = few_lines c.args.input.now in
    let within = c.requires.within in
    omega (arith, so_far, few, within)

pub returns-then-not-branch : goal.returns-then-not-branch
returns-then-not-branch c =
    let next = c.loop-line.invariant.left ∙ c.in-Some.ensures.steps in
    let off : c.in_ok-push_read_line.field-0 ≡ false = search rules in
    let first = first_unread c.args.tables.now.opcodes (lines_of c.args.input.now) c.loop-line.number
    (definitions c.loop-line.checker) c.in-Some.line.now _ c.loop-line.invariant.read
    (at_front (lines_of c.args.input.now) c.loop-line.number c.in-Some.line.now c.next.new.self next)
    (c.in_ok-push_read_line.ensures.some off) (c.in_ok-push_read_line.ensures.unread off) in
    subst (λ (b : Bool). IsSpelled (AllowedReply c.args.tables.now.opcodes) (IsMannerIn c.args.tables.now.opcodes) c.args.input.now b
    (string_bytes c.rejection.result.text)) (sym c.rejection.ensures.rejects)
    (c.loop-line.number, first, c.rejection.ensures.text ∙ c.in_ok-wrong_line.ensures)

pub loop-line-preserved : goal.loop-line-preserved
loop-line-preserved c =
    let next = c.loop-line.invariant.left ∙ c.in-Some.ensures.steps in
    let on : c.in_ok-push_read_line.field-0 ≡ true = search rules in
    record {
      left = left_next (lines_of c.args.input.now) c.loop-line.number c.in-Some.line.now c.next.new.self next;
      read = one_read c.args.tables.now.opcodes (lines_of c.args.input.now) c.loop-line.number (definitions c.loop-line.checker)
          (definitions c.push_read_line.new.checker) c.in-Some.line.now _ _ c.loop-line.invariant.read
          (at_front (lines_of c.args.input.now) c.loop-line.number c.in-Some.line.now c.next.new.self next)
          (c.in_ok-push_read_line.ensures.added on);
    }

pub returns : goal.returns
returns c =
    let all = all_read c.args.tables.now.opcodes (lines_of c.args.input.now) c.loop-line.number _ _ c.loop-line.invariant.read
    (c.loop-line.invariant.left ∙ c.in-None.ensures.steps.0) in
    let R = AllowedReply c.args.tables.now.opcodes in
    let M = IsMannerIn c.args.tables.now.opcodes in
    subst (λ (b : Bool). IsSpelled R M c.args.input.now b (string_bytes c.accepted.result.text)) (sym c.accepted.ensures.accepts)
    (subst (λ (t : List ℕ). IsSpelled R M c.args.input.now false t) (sym c.accepted.ensures.text) all)
