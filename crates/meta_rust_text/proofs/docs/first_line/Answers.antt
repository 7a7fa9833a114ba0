use Rattle.std.proofs.Common.{refl, rules, tests}
use Rattle.std.specs.Str.{trim}
use Rattle.std.proofs.lemmas.Iterator.{YieldsList-from_map_by}
use Rattle.std.proofs.lemmas.Iterator.Consumers.{YieldsList-at}
use Rattle.std.proofs.lemmas.Iterator.Search.{find_from_yields_List}
use Rattle.std.proofs.lemmas.Iterator.Splits.{YieldsList-from_lines}
use Rattle.meta_rust_text.specs.Docs.{has_text, first_line}
use Rattle.meta_rust_text.proofs.Pieces.{lent_or_nothing}
use Rattle.meta_rust_text.proofs.docs.first_line.Goals as goal

pub returns : goal.returns
unfolding first_line
returns c =
    lent_or_nothing c.find.result c.unwrap_or.result _ _ c.unwrap_or.ensures refl
    (find_from_yields_List has_text _ _ c.find.result c.find.ensures.ran
    (YieldsList-from_map_by _ (λ line. line.now) trim (YieldsList-at c.map.ensures.source
    (YieldsList-from_lines c.args.doc.now c.lines.ensures.rest)) c.map.ensures.closure (λ x r q k. search (rules, tests)))
    (λ x b q k. search (rules, tests)))
