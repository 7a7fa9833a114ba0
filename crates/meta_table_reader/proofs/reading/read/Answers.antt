use Rattle.std.proofs.Common.{◌∙◌}
use Rattle.std.proofs.lemmas.Result.{IfOk-weaker}
use Rattle.meta_table_reader.proofs.ReadIn.{some_reads, none_reads}
use Rattle.meta_table_reader.proofs.reading.read.Goals as goal

pub returns-clause-some : goal.returns-clause-some
returns-clause-some c = IfOk-weaker c.read_in.result _ _
    (λ o is. some_reads c.version_of-version.result c.args.text.now o is) c.read_in.ensures.some

pub returns-clause-none : goal.returns-clause-none
returns-clause-none c =
    IfOk-weaker c.read_in.result _ _
    (λ o none. none_reads c.version_of-version.result c.args.text.now o
    (λ w rest e. c.version_of-version.ensures w rest (c.new-cursor.ensures ∙ e)) none)
    c.read_in.ensures.none
