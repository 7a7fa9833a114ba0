use Rattle.std.proofs.Common.{sym, ap, ◌∙◌, map}
use Rattle.meta_types.specs.TypeParts.{number_of}
use Rattle.meta_gen.specs.Question.{Question}
use Rattle.meta_lines.proofs.TypeListLemmas.{numbers_back}
use Rattle.meta_query_lines.proofs.question.Question.results.Goals as goal

pub returns : goal.returns
returns c = c.deref.ensures.value ∙ sym (numbers_back c.self.inside.results.items c.self.invariant.1)
    ∙ ap (λ (q : Question). map number_of q.results) c.self.view_is
