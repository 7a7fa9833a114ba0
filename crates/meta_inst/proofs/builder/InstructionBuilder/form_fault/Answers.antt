use Rattle.std.proofs.Common.{ℕ, refl, rules}
use Rattle.meta_types.specs.Name.{IsName}
use Rattle.meta_inst.specs.InstructionFaults.{HasBadName, HasBadOutput, HasFormatMismatch, NameRule, OutputRule, MismatchRule}
use Rattle.meta_inst.proofs.OwnFaults.{begun, kept_name, kept_output}
use Rattle.meta_inst.proofs.builder.InstructionBuilder.form_fault.Goals as goal

pub returns-then-not-is_name-clause-found : goal.returns-then-not-is_name-clause-found
returns-then-not-is_name-clause-found c = λ vars.
    let bad : HasBadName c.args.self.now = search rules in
    record { position = NameRule; shows = (refl, bad); first = begun vars c.args.formats.now c.args.self.now c.args.number }

pub returns-in-Some-clause-found : goal.returns-in-Some-clause-found
returns-in-Some-clause-found c = λ vars.
    let named : IsName c.args.self.now.name = search rules in
    let bad : HasBadOutput c.args.self.now c.in-Some.place = search rules in
    record {
      position = OutputRule;
      shows = (c.in-Some.place, refl, bad);
      first = kept_name vars c.args.formats.now c.args.self.now named c.args.number;
    }

pub returns-then-not-matches_format-clause-found : goal.returns-then-not-matches_format-clause-found
returns-then-not-matches_format-clause-found c = λ vars.
    let named : IsName c.args.self.now.name = search rules in
    let good : (place : ℕ) → HasBadOutput c.args.self.now place → ⊥ = search rules in
    let bad : HasFormatMismatch c.args.formats.now c.args.self.now = search rules in
    record {
      position = MismatchRule;
      shows = (refl, bad);
      first = kept_output vars c.args.formats.now c.args.self.now
          (kept_name vars c.args.formats.now c.args.self.now named) good c.args.number;
    }
