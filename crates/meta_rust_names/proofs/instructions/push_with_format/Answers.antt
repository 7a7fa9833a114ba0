use Rattle.std.proofs.Common.{◌++◌, ℕ, slice_get, refl, ap, ◌∙◌}
use Rattle.meta_rust_names.specs.Instructions.{with_format}
use Rattle.meta_rust_names.proofs.Absent.{absent_adds_nothing}
use Rattle.meta_rust_names.proofs.instructions.push_with_format.Goals as goal

pub returns-then-not-is_of : goal.returns-then-not-is_of
returns-then-not-is_of c =
    let found = with_format c.args.vars.now c.args.instruction.now c.args.place in
    absent_adds_nothing found c.args.formats.now c.format-format.result c.args.out.now.items c.is_of.result refl c.is_of.ensures
    c.if-not-is_of.true
    ∙ ap (λ (k : ℕ). c.args.out.now.items ++ found (slice_get c.args.formats.now k)) c.format-format.ensures
