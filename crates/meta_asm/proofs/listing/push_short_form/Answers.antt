use Rattle.std.proofs.Common.{◌≡◌, true, false, ap, string_bytes, rules}
use Rattle.std.proofs.lemmas.Result.{IfOk-weaker}
use Rattle.meta_verify.specs.Defined.{definitions}
use Rattle.meta_asm.proofs.ListingLemmas.{skip_added, short_added}
use Rattle.meta_asm.proofs.listing.push_short_form.Goals as goal

pub returns-then-not-branch-clause-added : goal.returns-then-not-branch-clause-added
returns-then-not-branch-clause-added c =
    let off : c.in_ok-push_line.field-0 ≡ false = search rules in
    IfOk-weaker c.feed.result _ _
    (λ answer fed. skip_added c.args.tables.now.opcodes (definitions c.args.checker.now)
    (definitions c.feed.new.self) c.args.line.now _ _ answer (c.in_ok-push_line.ensures.wrong off) fed
    (ap string_bytes (c.in_ok-push_line.ensures.kept off)))
    c.feed.ensures.fed

pub returns-clause-added : goal.returns-clause-added
returns-clause-added c =
    let on : c.in_ok-push_line.field-0 ≡ true = search rules in
    let (text, short, added) = c.in_ok-push_line.ensures.written on in
    IfOk-weaker c.feed-2.result _ _
    (λ answer fed. λ none. short_added c.args.tables.now.opcodes (definitions c.args.checker.now)
    (definitions c.feed-2.new.self) c.args.line.now text _ _ _ answer short fed added c.in_ok-push_str.ensures.bytes)
    c.feed-2.ensures.fed
