use Rattle.std.proofs.Common.{rules}
use Rattle.meta_rust_insts.proofs.data_impl.push_arm.Goals as goal

pub returns-in-Arguments : goal.returns-in-Arguments
returns-in-Arguments c = search rules

pub returns-in-ArgumentsMut : goal.returns-in-ArgumentsMut
returns-in-ArgumentsMut c = search rules
