use Rattle.std.proofs.lemmas.Bool.Decides.{Decides-eqb}
use Rattle.std.proofs.lemmas.Slice.Eq.{starts_is}
use Rattle.meta_query.specs.Recheck.{mark}
use Rattle.meta_query.proofs.Marks.{mark_after}
use Rattle.meta_query.proofs.queries.is_mark_at.Goals as goal

pub returns : goal.returns
returns c =
    let told = starts_is Decides-eqb c.split_at.result.1.now mark c.starts_with.result c.starts_with.ensures.value in
    mark_after c.args.input.now c.split_at.result.1.now c.args.at c.starts_with.result
    (c.begins_line.ensures.0 c.if-not-begins_line.false) c.split_at.ensures.back told.0 told.1
