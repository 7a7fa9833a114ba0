use Rattle.std.proofs.Common.{◌≡◌, ℕ, List, ◌++◌, ◌-◌, suc, ap, ◌∙◌, codes, string_bytes, arith}
use Rattle.std.specs.Fmt.{decimal}
use Rattle.std.specs.List.{flat_map, range_with_len}
use Rattle.meta_lists.proofs.Joined.{two}
use Rattle.meta_rust_text.specs.Arguments.{numbered_names}
use Rattle.meta_rust_text.proofs.Pieces.{next_number, no_number, names_from_first}
use Rattle.meta_rust_text.proofs.arguments.numbered_names.Goals as goal

pub loop-number-preserved : goal.loop-number-preserved
loop-number-preserved c =
    let number = c.loop-number.number in
    let stem = c.args.stem.now in
    let added = two (string_bytes c.loop-number.text) (codes ", ")
    (stem ++ decimal number) c.in_ok-push_str.ensures.bytes c.in_ok-push_numbered_name-2.ensures in
    next_number (λ n. codes ", " ++ (stem ++ decimal n)) number c.args.count _ _ _ c.loop-number-test.true added c.loop-number.invariant

pub returns : goal.returns
unfolding numbered_names
returns c =
    let name : ℕ → List ℕ = λ n. c.args.stem.now ++ decimal n in
    let rest : List ℕ = flat_map (λ n. codes ", " ++ name n) (range_with_len 1 (c.args.count - 1)) in
    let more : suc (c.args.count - 1) ≡ c.args.count = omega (arith, c.if-count-eq0.false) in
    no_number (λ n. codes ", " ++ name n) c.loop-number.number c.args.count _ _
    (omega (arith, c.loop-number-test.false)) c.loop-number.invariant
    ∙ ap (λ o. o ++ rest) (c.in_ok-push_numbered_name.ensures ∙ ap (λ o. o ++ name 0) c.new-text.ensures.bytes)
    ∙ names_from_first name (codes ", ") c.args.count more
