use Rattle.std.proofs.Common.{◌≡◌, Some, None, sym, ◌∙◌}
use Rattle.meta_asm.specs.ShortWritten.{manner_in}
use Rattle.meta_asm.proofs.print.push_applied.Goals as goal

pub returns-in_default-of-clause-unnamed : goal.returns-in_default-of-clause-unnamed
returns-in_default-of-clause-unnamed c = λ e op at.
    let no : Some c.args.application.now.name.now ≡ None = sym c.in-Some.ensures.found.holds ∙ c.in_default-of.ensures.none in
    absurd (cc)

pub returns-clause-written : goal.returns-clause-written
returns-clause-written c = λ e. record {
  manner = manner_in c.in-Some-of.manner;
  has_manner = record {
    opcode = c.in-Some.opcode;
    named = c.in-Some.ensures.found;
    entry = c.in-Some-of.ensures.manner.0;
    is_entry = c.in-Some-of.ensures.manner.1;
    is = c.in-Some-of.ensures.manner.2;
  };
  is = c.in_ok-push_application.ensures;
}
