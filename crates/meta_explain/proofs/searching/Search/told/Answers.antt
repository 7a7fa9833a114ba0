use Rattle.std.proofs.lemmas.Option.{IfSome_then}
use Rattle.meta_explain.specs.Parts.{numbers_of}
use Rattle.meta_explain.proofs.searching.Search.told.Goals as goal

pub returns-in-Some : goal.returns-in-Some
returns-in-Some c = λ x f. c.in-Some.ensures (numbers_of x.controls) f.results_pass

pub returns : goal.returns
returns c = IfSome_then c.told_at-2.result c.told_at-2.ensures (λ n tells x f. tells (numbers_of x.controls) f.values_pass)
