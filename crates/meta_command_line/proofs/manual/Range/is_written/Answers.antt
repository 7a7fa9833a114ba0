use Rattle.std.proofs.Common.{◌≡◌, ◌≤◌, ◌<◌, ◌^◌, sym, subst, arith, rules}
use Rattle.std.specs.Fmt.{decimal}
use Rattle.std.proofs.lemmas.Bool.{leb-true, le-leb}
use Rattle.meta_command_line.proofs.Numbers.{written_least}
use Rattle.meta_command_line.proofs.manual.Range.is_written.Goals as goal

pub returns-in-Some : goal.returns-in-Some
returns-in-Some c =
    let lower : c.from-in-Some.result ≡ c.args.self.now.least = search rules in
    let upper : c.from.result ≡ c.args.self.now.most = search rules in
    let is : c.args.word.now ≡ decimal c.in-Some.number = search rules in
    let few : c.args.self.now.most < 2 ^ 64 = omega arith in
    let within : c.in-Some.number ≤ c.args.self.now.most = subst (λ n. c.in-Some.number ≤ n) upper c.in-Some.ensures.within in (
      λ t. record {
        number = c.in-Some.number;
        written = is;
        least = subst (λ n. n ≤ c.in-Some.number) lower (leb-true _ _ t);
        most = within;
      },
      λ h. le-leb _ _ (subst (λ n. n ≤ c.in-Some.number) (sym lower)
          (written_least c.args.self.now c.args.word.now c.in-Some.number few within is h)),
    )
