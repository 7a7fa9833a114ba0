use Rattle.std.proofs.lemmas.Str.{IsUtf8-from_ascii}
use Rattle.std.proofs.lemmas.Str.Ascii.{IsAscii-from_all}
use Rattle.meta_asm.proofs.reader.text_of.Goals as goal

pub returns-in-Err-clause-none : goal.returns-in-Err-clause-none
returns-in-Err-clause-none c = λ small. c.in-Err.ensures.cases.0
    (IsUtf8-from_ascii c.args.line.now (IsAscii-from_all c.args.line.now small))
