use Rattle.std.proofs.Common.{rules, ◌≡◌}
use Rattle.std.proofs.lemmas.Bool.Decides.{Decides-at}
use Rattle.meta_operands.specs.Structure.{same_structure}
use Rattle.meta_operands.specs.Laws.{structures_Decides}
use Rattle.meta_operands.proofs.structure.FormatStructurePartialEq.eq.Goals as goal

pub returns-then-self-other-4-clause-meaning : goal.returns-then-self-other-4-clause-meaning
returns-then-self-other-4-clause-meaning c =
    let test : c.eq.result ≡ same_structure c.args.self.now c.args.other.now = search rules in
    Decides-at _ _ test (structures_Decides _ _)
