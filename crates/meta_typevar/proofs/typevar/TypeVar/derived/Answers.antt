use Rattle.meta_typevar.proofs.Variables.{derives_known, derives_failed, derives_added, grows_none, grows_one}
use Rattle.meta_typevar.proofs.typevar.TypeVar.derived.Goals as goal

pub returns-in-Some-clause-derives : goal.returns-in-Some-clause-derives
returns-in-Some-clause-derives c = derives_known _ _ _ _ c.find.ensures.registry c.in-Some.ensures.found

pub returns-in_err-content-clause-derives : goal.returns-in_err-content-clause-derives
returns-in_err-content-clause-derives c =
    derives_failed _ _ _ _ c.find.ensures.registry c.requires.of c.in_default.ensures.none c.from_residual-in_err-content.ensures.0

pub returns-clause-derives : goal.returns-clause-derives
returns-clause-derives c = derives_added _ _ _ _ _ _ c.find.ensures.registry c.requires.of c.in_default.ensures.none
    c.in_ok-content.ensures c.add_derived.ensures.number c.add_derived.ensures.added c.add_derived.ensures.err

pub returns-in-Some-clause-grows : goal.returns-in-Some-clause-grows
returns-in-Some-clause-grows c = grows_none _

pub returns-in_err-content-clause-grows : goal.returns-in_err-content-clause-grows
returns-in_err-content-clause-grows c = grows_none _

pub returns-clause-grows : goal.returns-clause-grows
returns-clause-grows c = grows_one c.add_derived.result _ _ _ c.add_derived.ensures.added c.add_derived.ensures.err
