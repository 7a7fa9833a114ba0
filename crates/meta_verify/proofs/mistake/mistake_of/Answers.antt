use Rattle.std.proofs.Common.{sym, subst, IfSome, IfNone}
use Rattle.meta_gen.specs.Reply.{AllowedReply}
use Rattle.meta_verify.specs.Numbers.{stated}
use Rattle.meta_verify.specs.Defined.{environment_of}
use Rattle.meta_verify.specs.Wrong.{IsMistake, IsFaultless}
use Rattle.meta_verify.proofs.CheckerLemmas.{parameter_mistake, parameter_faultless}
use Rattle.meta_verify.proofs.mistake.mistake_of.Goals as goal

pub returns-in-Parameter-clause-mistake : goal.returns-in-Parameter-clause-mistake
returns-in-Parameter-clause-mistake c =
    subst (λ s. IfSome c.mistake_of_parameter.result
    (λ reason. IsMistake (AllowedReply c.args.tables.now.opcodes) (environment_of c.args.types.now)
    (stated s) reason)) (sym c.in-Parameter.is)
    (parameter_mistake (environment_of c.args.types.now) c.in-Parameter.parameter
    (AllowedReply c.args.tables.now.opcodes) c.mistake_of_parameter.result c.mistake_of_parameter.ensures)

pub returns-in-Parameter-clause-none : goal.returns-in-Parameter-clause-none
returns-in-Parameter-clause-none c =
    subst (λ s. IfNone c.mistake_of_parameter.result
    (IsFaultless (AllowedReply c.args.tables.now.opcodes) (environment_of c.args.types.now) (stated s))) (sym c.in-Parameter.is)
    (parameter_faultless (environment_of c.args.types.now) c.in-Parameter.parameter
    (AllowedReply c.args.tables.now.opcodes) c.mistake_of_parameter.result c.mistake_of_parameter.ensures)
