use Rattle.meta_rust_text.proofs.types.write_types.Goals as goal

pub returns : goal.returns
returns g c = c.write_made.ensures _ c.types_text.ensures
