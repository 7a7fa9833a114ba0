use Rattle.std.proofs.Common.{arith}
use Rattle.std.specs.Fmt.{decimal}
use Rattle.meta_lines.proofs.NumberLemmas.{one_value}
use Rattle.meta_table_reader.proofs.Ends.{number_lacks}
use Rattle.meta_table_reader.proofs.cursor.Cursor.number.Goals as goal

pub returns-in-Some-clause-item : goal.returns-in-Some-clause-item
returns-in-Some-clause-item c = λ n rest small other stops e.
    let (digits, left) = c.until.ensures.item (decimal n) rest (number_lacks c.args.stop other n small) stops e in (
      one_value c.in-Some.number n c.until.result.now (let most = c.in-Some.ensures.within in omega (arith, most)) small
          c.in-Some.ensures.some digits,
      left,
    )

pub returns-in-None-clause-item : goal.returns-in-None-clause-item
returns-in-None-clause-item c = λ n rest small other stops e.
    let (digits, left) = c.until.ensures.item (decimal n) rest (number_lacks c.args.stop other n small) stops e in
    absurd (c.in-None.ensures.none n (omega (arith, small)) digits)
