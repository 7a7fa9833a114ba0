use Rattle.std.proofs.Common.{inl, refl}
use Rattle.std.proofs.lemmas.Result.{on_ok_weaker}
use Rattle.meta_types.specs.TypeParts.{name_of}
use Rattle.meta_types.specs.ValueTypes.{type_parts_of}
use Rattle.meta_types.proofs.Typed.{typed}
use Rattle.meta_query_lines.proofs.results.push_word.Goals as goal

pub returns-in-Some : goal.returns-in-Some
returns-in-Some c =
    on_ok_weaker c.write.result
    (λ e. (name_of (type_parts_of c.in-Some.t), inl (type_parts_of c.in-Some.t, typed c.in-Some.t, c.in-Some.ensures.found, refl), e))
    c.write.ensures.bytes
