use Rattle.std.proofs.Common.{◌≡◌, ◌≤◌, ◌+◌, ◌-◌, [], take, drop, string_bytes, sym, ap, subst, rules}
use Rattle.std.specs.Char.Iter.{escape_byte_rest}
use Rattle.meta_command_line.proofs.Plain.{one_more_letter, all_escaped}
use Rattle.meta_command_line.proofs.usage.push_escaped.Goals as goal

pub loop-letter-preserved : goal.loop-letter-preserved
loop-letter-preserved c =
    let same : c.from.result ≡ c.in-Some.letter = search rules in (
      subst (λ n. n ≤ 4) (sym c.in-Some.ensures.steps.0) c.loop-letter.invariant.0,
      one_more_letter (string_bytes c.loop-letter.shown) _ c.from.result c.in-Some.letter
          (escape_byte_rest c.loop-letter.letter-iterator) _ _ same c.in_ok-push.ensures.bytes
          c.in-Some.ensures.steps.1.0 c.loop-letter.invariant.1,
    )

pub returns : goal.returns
returns c =
    let s = c.loop-letter.letter-iterator in
    let none : escape_byte_rest s ≡ [] = ap (λ n. take n (drop s.from s.bytes)) c.in-None.ensures.steps.1.0 in
    all_escaped _ _ (escape_byte_rest s) c.args.byte none c.loop-letter.invariant.1
