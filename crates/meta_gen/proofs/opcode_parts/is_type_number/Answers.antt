use Rattle.meta_gen.proofs.PartsTested.{type_found}
use Rattle.meta_gen.proofs.opcode_parts.is_type_number.Goals as goal

pub returns : goal.returns
returns c = type_found c.args.number c.from_number.result c.is_some.result c.is_some.ensures c.from_number.ensures.found
    c.from_number.ensures.none c.each_type_is_one_value.ensures.is_type
