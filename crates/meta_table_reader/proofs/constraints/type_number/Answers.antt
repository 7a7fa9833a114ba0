use Rattle.std.proofs.Common.{map, sym, ap, ◌∙◌}
use Rattle.meta_types.specs.TypeParts.{number_of}
use Rattle.meta_types.specs.ValueTypes.{type_parts_of}
use Rattle.meta_types.proofs.Typed.{typed}
use Rattle.meta_table_reader.specs.Words.{small_letter}
use Rattle.meta_table_reader.proofs.TypesRead.{come_back}
use Rattle.meta_table_reader.proofs.constraints.type_number.Goals as goal

pub returns-in-Some : goal.returns-in-Some
returns-in-Some c = λ t is e.
    let name = c.as_slice.ensures.value ∙ c.in_ok-small.ensures ∙ ap (map small_letter) e ∙ come_back t is in
    c.number.ensures ∙ ap number_of (c.names_differ.ensures (type_parts_of c.in-Some.found) t (typed c.in-Some.found) is
    (c.in-Some.ensures.found ∙ name))

pub returns : goal.returns
returns c = λ t is e.
    let name = c.as_slice.ensures.value ∙ c.in_ok-small.ensures ∙ ap (map small_letter) e ∙ come_back t is in
    absurd (c.in-None.ensures.none t is (sym name))
