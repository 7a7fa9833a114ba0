use Rattle.meta_gen.proofs.Inferring.{same_as, none_as}
use Rattle.meta_gen.proofs.constraint.given.Goals as goal

pub returns-in-Controlling-clause-some : goal.returns-in-Controlling-clause-some
returns-in-Controlling-clause-some c =
    same_as _ _ c.demanded.result c.in-Controlling.which _ c.demanded.ensures c.in-Controlling.is c.of.ensures

pub returns-in-By-clause-none : goal.returns-in-By-clause-none
returns-in-By-clause-none c =
    none_as _ _ c.demanded.result c.in-By.which c.in-By.derived_func _ _ c.demanded.ensures c.in-By.is
    c.of-in-By.ensures c.given_by.ensures.none
