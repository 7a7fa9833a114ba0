use Rattle.std.proofs.Common.{◌∙◌, None, Some}
use Rattle.std.specs.Fmt.{decimal}
use Rattle.std.proofs.lemmas.Bool.Decides.{Decides-eqb}
use Rattle.std.proofs.lemmas.Slice.Eq.{strip_prefix_is}
use Rattle.meta_rust_names.proofs.Numbers.{after_front, no_front}
use Rattle.meta_rust_names.proofs.names.is_stem_numbered.Goals as goal

pub returns-in-Some : goal.returns-in-Some
returns-in-Some c =
    c.is_number_below.ensures ∙ after_front c.args.stem.now c.in-Some.digits.now c.args.word.now decimal c.args.count
    (strip_prefix_is Decides-eqb c.args.word.now c.args.stem.now (Some c.in-Some.digits) c.in-Some.ensures.cases)

pub returns-in-None : goal.returns-in-None
returns-in-None c =
    no_front c.args.stem.now c.args.word.now decimal c.args.count
    (strip_prefix_is Decides-eqb c.args.word.now c.args.stem.now None c.in-None.ensures.cases)
