use Rattle.std.proofs.Common.{sym, ap, ◌∙◌, map}
use Rattle.meta_types.specs.TypeParts.{number_of}
use Rattle.meta_gen.specs.Question.{Question}
use Rattle.meta_lines.proofs.TypeListLemmas.{numbers_back}
use Rattle.meta_query_lines.proofs.question.Question.values.Goals as goal

pub returns : goal.returns
returns c = c.deref.ensures.value ∙ sym (numbers_back c.self.inside.values.items c.self.invariant.2)
    ∙ ap (λ (q : Question). map number_of q.values) c.self.view_is
