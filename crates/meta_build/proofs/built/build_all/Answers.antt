use Rattle.std.proofs.Common.{rules}
use Rattle.meta_build.proofs.built.build_all.Goals as goal

pub returns-in_err-groups-clause-refused : goal.returns-in_err-groups-clause-refused
returns-in_err-groups-clause-refused c = search rules
