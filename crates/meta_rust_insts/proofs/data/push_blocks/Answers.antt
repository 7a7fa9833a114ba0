use Rattle.std.proofs.Common.{◌≡◌, ◌==◌, ◌++◌, string_bytes, ap, sym, ◌∙◌, false, rules, arith}
use Rattle.std.proofs.lemmas.List.{append-nil}
use Rattle.std.proofs.lemmas.Bool.Decides.{nat_tests}
use Rattle.meta_rust_insts.specs.DataText.{blocks_text}
use Rattle.meta_rust_insts.proofs.data.push_blocks.Goals as goal

pub returns-in-0 : goal.returns-in-0
unfolding blocks_text
returns-in-0 c = sym (append-nil (string_bytes c.args.out.now))
    ∙ ap (λ t. string_bytes c.args.out.now ++ t) (sym (ap blocks_text c.in-0.is))

pub returns-in-1 : goal.returns-in-1
unfolding blocks_text
returns-in-1 c = rw c.in-1.is c.push_text.ensures

pub returns-in_default : goal.returns-in_default
unfolding blocks_text
returns-in_default c =
    let not_0 : (c.args.count == 0) ≡ false = grind (arith, nat_tests) in
    let not_1 : (c.args.count == 1) ≡ false = grind (arith, nat_tests) in
    rw (not_0, not_1) (search rules)
