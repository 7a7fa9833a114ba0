use Rattle.std.proofs.Common.{◌≡◌, ◌∙◌, sym, ap, subst, true, false, ◌∷◌, ◌++◌, [], arith}
use Rattle.std.proofs.lemmas.Grind.{common_steps}
use Rattle.meta_settings.specs.Marked.{stands_in}
use Rattle.meta_settings.proofs.Firsts.{pushed}
use Rattle.meta_settings.proofs.first_named.FirstNamed.add.Goals as goal

pub returns-then-self-number : goal.returns-then-self-number
returns-then-self-number c = λ named e.
    let stands = sym (c.self.invariant c.args.number c.ranges.number.fits) ∙ c.if-self-number.true in
    e ∙ sym ((pushed c.args.number named).before (subst (λ numbers. stands_in c.args.number numbers ≡ true) (c.self.view_is ∙ e) stands))

pub returns : goal.returns
returns c = λ named e.
    let stands = sym (c.self.invariant c.args.number c.ranges.number.fits) ∙ c.if-self-number.false in
    c.in_ok-push.ensures.items ∙ ap (λ numbers. numbers ++ c.args.number ∷ []) (c.self.view_is ∙ e)
    ∙ sym ((pushed c.args.number named).first (subst (λ numbers. stands_in c.args.number numbers ≡ false) (c.self.view_is ∙ e) stands))

pub invariant_of-self-2 : goal.invariant_of-self-2
invariant_of-self-2 c = grind (arith, common_steps)
