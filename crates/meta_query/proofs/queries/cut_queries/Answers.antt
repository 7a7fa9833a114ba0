use Rattle.std.proofs.Common.{inr, refl}
use Rattle.meta_query.proofs.Marks.{cut_at}
use Rattle.meta_query.proofs.queries.cut_queries.Goals as goal

pub returns-in-Some : goal.returns-in-Some
returns-in-Some c =
    cut_at c.args.input.now c.in-Some.at c.split_at.result.0.now c.split_at.result.1.now
    c.split_at-in-Some.result.1.now c.in-Some.ensures.some
    c.split_at.ensures.front c.split_at.ensures.back c.split_at-in-Some.ensures.back

pub returns-in-None : goal.returns-in-None
returns-in-None c = inr (record { no_mark = c.in-None.ensures.none; text_is = refl; queries_are = refl })
