use Rattle.std.proofs.Common.{refl}
use Rattle.meta_types.specs.declared.fault.Place.TheVariants.{Format}
use Rattle.meta_rust_names.specs.Known.{known}
use Rattle.meta_rust_names.specs.Formats.{format_found, format_refused}
use Rattle.meta_rust_names.proofs.Absent.{absent_adds_nothing}
use Rattle.meta_rust_names.proofs.formats.push_format_at.Goals as goal

pub returns-then-not-is_of : goal.returns-then-not-is_of
unfolding format_refused
returns-then-not-is_of c =
    absent_adds_nothing (format_found (known c.args.methods.now) (known c.args.imm_methods.now) (Format c.args.id)) c.args.formats.now
    c.args.id c.args.out.now.items c.is_of.result refl c.is_of.ensures c.if-not-is_of.true
