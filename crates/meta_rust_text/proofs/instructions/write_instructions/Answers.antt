use Rattle.meta_rust_text.proofs.instructions.write_instructions.Goals as goal

pub returns : goal.returns
returns g c = c.write_made.ensures _ c.instructions_text.ensures
