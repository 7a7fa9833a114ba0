use Rattle.meta_table_text.specs.Version.{offset_shown}
use Rattle.meta_table_reader.proofs.Offsets.{shown_small}
use Rattle.meta_table_reader.proofs.entries.type_set_place.Goals as goal

pub returns : goal.returns
returns c = λ offset rest shown e.
    let (place, left) = c.place-shown.ensures (offset_shown c.args.version offset) rest (shown_small c.args.version offset shown) e in
    (c.offset_of.ensures offset shown place, left)
