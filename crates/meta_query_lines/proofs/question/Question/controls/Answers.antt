use Rattle.std.proofs.Common.{◌++◌, All, map, subst}
use Rattle.meta_types.specs.TypeParts.{number_of}
use Rattle.meta_types.specs.TypeNumber.{IsTypeNumber}
use Rattle.meta_gen.specs.Question.{Question}
use Rattle.meta_query_lines.proofs.QuestionLemmas.{known_numbers}
use Rattle.meta_query_lines.proofs.question.Question.controls.Goals as goal

pub returns-clause-operands_known : goal.returns-clause-operands_known
returns-clause-operands_known c =
    subst (λ (q : Question). All IsTypeNumber (map number_of q.results ++ map number_of q.values)) c.self.view_is
    (known_numbers c.self.inside.results.items c.self.inside.values.items c.self.invariant.1 c.self.invariant.2)
