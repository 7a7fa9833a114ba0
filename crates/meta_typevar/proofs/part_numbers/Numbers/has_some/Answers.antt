use Rattle.std.proofs.Common.{◌≡◌, ◌∙◌, ap, sym, refl, List, [], ℕ}
use Rattle.std.specs.List.{filter}
use Rattle.std.proofs.lemmas.List.{take_all}
use Rattle.meta_typevar.specs.Image.{has_some}
use Rattle.meta_typevar.specs.MaskSets.{holds}
use Rattle.meta_typevar.proofs.Held.{held_same, some_held}
use Rattle.meta_typevar.proofs.part_numbers.Numbers.has_some.Goals as goal

pub loop-n-init : goal.loop-n-init
loop-n-init c = refl

pub loop-n-preserved : goal.loop-n-preserved
loop-n-preserved c = held_same c.self.inside.mask c.self.inside.all.now c.loop-n.n-index c.loop-n-test.true
    c.if-self-n.false ∙ c.loop-n.invariant

pub returns-then-self-n : goal.returns-then-self-n
returns-then-self-n c = sym (ap has_some (sym c.self.view_is)
    ∙ some_held c.self.inside.mask c.self.inside.all.now c.loop-n.n-index c.loop-n-test.true c.if-self-n.true)

pub returns : goal.returns
returns c =
    let all = take_all c.loop-n.n-index c.self.inside.all.now c.loop-n-test.false in
    let none : c.args.self.now ≡ [] = sym c.self.view_is
    ∙ ap (λ (l : List ℕ). filter (holds c.self.inside.mask) l) (sym all) ∙ c.loop-n.invariant in
    sym (ap has_some none)
