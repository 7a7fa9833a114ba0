use Rattle.std.proofs.Common.{subst}
use Rattle.meta_file_describe.specs.Described.{AreBuiltAlike}
use Rattle.meta_file_describe.proofs.checking.is_described.Goals as goal

pub returns-in-Ok-clause-alike : goal.returns-in-Ok-clause-alike
returns-in-Ok-clause-alike c = λ e declares alike.
    c.are_declared_alike.ensures.alike
    (subst (AreBuiltAlike c.args.built.now.declared) (c.one_declaration.ensures _ e _ declares c.in-Ok.ensures.said) alike)
