use Rattle.std.proofs.Common.{◌≡◌, codes, ap, sym, arith}
use Rattle.std.proofs.lemmas.Slice.Eq.{text_from_reads}
use Rattle.meta_query_lines.specs.Form.{command_named}
use Rattle.meta_query_lines.proofs.form.command_of.Goals as goal

pub returns-in-accept : goal.returns-in-accept
returns-in-accept c =
    let is : c.args.word.now ≡ codes "accept" = text_from_reads c.args.word.now (codes "accept") (omega arith)
    (omega arith, (omega arith, (omega arith, (omega arith, (omega arith, (omega arith, tt)))))) in
    ap command_named (sym is)

pub returns-in-setting : goal.returns-in-setting
returns-in-setting c =
    let is : c.args.word.now ≡ codes "setting" = text_from_reads c.args.word.now (codes "setting") (omega arith)
    (omega arith, (omega arith, (omega arith, (omega arith, (omega arith, (omega arith, (omega arith, tt))))))) in
    ap command_named (sym is)
