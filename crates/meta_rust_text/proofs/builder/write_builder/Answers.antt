use Rattle.meta_rust_text.proofs.builder.write_builder.Goals as goal

pub returns : goal.returns
returns g c = c.write_made.ensures _ c.builder_text.ensures
