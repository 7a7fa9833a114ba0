use Rattle.std.proofs.Common.{◌++◌, sym, ap, ◌∙◌, subst}
use Rattle.meta_table_text.specs.OpcodeText.{second_line}
use Rattle.meta_table_reader.specs.Shown.{IsShownSecond}
use Rattle.meta_table_reader.proofs.EntryBlocks.{second_one, shown_two, shown_three, second_two, second_three}
use Rattle.meta_table_reader.proofs.entries.second_place.Goals as goal

pub returns-in-One : goal.returns-in-One
returns-in-One c = λ e rest shown is. (
  sym (subst (λ v. IsShownSecond v e.second_offset) c.in-One.is shown),
  is
      ∙ ap (λ v. second_line v e ++ rest) c.in-One.is ∙ second_one e rest,
)

pub returns-in-Two : goal.returns-in-Two
returns-in-Two c = λ e rest shown is. c.type_set_place.ensures e.second_offset rest
    (shown_two c.args.version e.second_offset c.in-Two.is shown) (is ∙ second_two c.args.version e rest c.in-Two.is)

pub returns-in-Three : goal.returns-in-Three
returns-in-Three c = λ e rest shown is. c.type_set_place-in-Three.ensures e.second_offset rest
    (shown_three c.args.version e.second_offset c.in-Three.is shown) (is ∙ second_three c.args.version e rest c.in-Three.is)
