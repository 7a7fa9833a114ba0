use Rattle.std.proofs.Common.{◌≡◌, ◌++◌, List, ℕ, Bor, true, false, is_some, refl, ap, ◌∙◌, rules}
use Rattle.std.proofs.lemmas.Result.{IfOk-weaker}
use Rattle.meta_asm.proofs.ResultLemmas.{is_written, isnt_written, put_together}
use Rattle.meta_asm.proofs.results.push_result.Goals as goal

pub returns-then-is_some : goal.returns-then-is_some
returns-then-is_some c = λ opened r typed number e.
    let some : is_some c.cut.result.1 ≡ true = search rules in (
      refl,
      c.in_ok-extend_from_slice.ensures.items
          ∙ ap (λ (t : List ℕ). c.args.word.now.items ++ t)
          (is_written (λ (t : Bor (List ℕ)). t.now) c.args.text.now c.cut.result.0.now c.cut.result.1 c.cut.ensures r typed some opened e),
    )

pub returns : goal.returns
returns c =
    IfOk-weaker c.push_type.result _ _
    (λ found named. λ opened r typed number e.
    let none : is_some c.cut.result.1 ≡ false = search rules in
    let closed =
    isnt_written (λ (t : Bor (List ℕ)). t.now) c.args.text.now c.cut.result.0.now c.cut.result.1 c.cut.ensures r typed none opened e in
    put_together c.args.word.now.items c.extend_from_slice.new.self.items c.push.new.self.items c.push_type.new.word.items c.args.text.now
    r c.args.number found typed (number closed.0) closed.1 c.in_ok-extend_from_slice.ensures.items c.in_ok-push.ensures.items named)
    c.push_type.ensures
