use Rattle.std.proofs.Common.{rules, sym}
use Rattle.meta_rust_text.proofs.ConstructorTemplates.{imm_method_same}
use Rattle.meta_rust_text.proofs.imm_builders.push_extending.Goals as goal

pub returns : goal.returns
returns c =
    rw (
      sym (imm_method_same c.args.methods.now c.args.mark.now c.args.suffix.now c.args.extension.now c.args.signed.now),
      sym c.methods.view_is,
    ) (search rules)
