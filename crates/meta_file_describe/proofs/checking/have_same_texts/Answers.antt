use Rattle.std.proofs.Common.{arith}
use Rattle.meta_file_describe.proofs.Alike.{texts_alike}
use Rattle.meta_file_describe.proofs.BuiltAlike.{texts_of_both}
use Rattle.meta_file_describe.proofs.checking.have_same_texts.Goals as goal

pub returns-then-instructions-clause-alike : goal.returns-then-instructions-clause-alike
returns-then-instructions-clause-alike c = λ h.
    let one = c.declarations-declarations.ensures.built in
    let other = c.declarations-others.ensures.built in
    c.in_ok-builder.ensures.1 (texts_alike c.one_built.ensures _ _ one other (texts_of_both _ _ one h)).2

pub returns-else-instructions-clause-alike : goal.returns-else-instructions-clause-alike
returns-else-instructions-clause-alike c = λ h.
    let one = c.declarations-declarations.ensures.built in
    let other = c.declarations-others.ensures.built in
    let same = texts_alike c.one_built.ensures _ _ one other (texts_of_both _ _ one h) in
    let settings = c.in_ok-settings.ensures.1 same.0 in
    let instructions = c.in_ok-instructions.ensures.1 same.1 in
    grind (arith, c.if-instructions.either, settings, instructions)
