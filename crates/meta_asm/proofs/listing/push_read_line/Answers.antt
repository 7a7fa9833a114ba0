use Rattle.std.proofs.Common.{◌++◌, List, ℕ, inl, refl, ap, ◌∙◌, subst, string_bytes, Option, IfSome}
use Rattle.meta_verify.specs.Defined.{definitions}
use Rattle.meta_asm.specs.Reading.{ReadsIn}
use Rattle.meta_asm.proofs.ListingLemmas.{line_added, empty_is, filled_is}
use Rattle.meta_asm.proofs.listing.push_read_line.Goals as goal

pub returns-then-is_empty-clause-added : goal.returns-then-is_empty-clause-added
returns-then-is_empty-clause-added c = λ e. inl (empty_is c.args.text.now _ c.is_empty.ensures c.if-is_empty.true, refl, refl)

pub returns-in_default-clause-some : goal.returns-in_default-clause-some
returns-in_default-clause-some c = λ e. filled_is c.args.text.now _ c.is_empty.ensures c.if-is_empty.false

pub returns-clause-added : goal.returns-clause-added
returns-clause-added c = λ e.
    let read = subst (λ (o : Option (List ℕ)). IfSome o (λ l. ReadsIn c.args.tables.now.opcodes
    (definitions c.args.checker.now) c.args.text.now l)) c.in-Some.is c.in_ok-line.ensures.line in
    line_added c.args.tables.now.opcodes (definitions c.args.checker.now) (definitions c.feed.new.self) c.in-Some.line c.args.text.now _ _
    _ _ read (filled_is c.args.text.now _ c.is_empty.ensures c.if-is_empty.false)
    (rw c.as_bytes.ensures at c.in_ok-_none.ensures.fed) (c.in_ok-push_str.ensures.bytes
    ∙ ap (λ (t : List ℕ). string_bytes c.args.out.now ++ t) c.as_str.ensures) c.in_ok-push_str-2.ensures.bytes
