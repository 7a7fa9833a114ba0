use Rattle.meta_rust_text.proofs.builder_items.push_method.Goals as goal

pub push_inst_builder-requires-clause-inputs : goal.push_inst_builder-requires-clause-inputs
push_inst_builder-requires-clause-inputs c = c.requires.inputs

pub push_inst_builder-requires-clause-outputs : goal.push_inst_builder-requires-clause-outputs
push_inst_builder-requires-clause-outputs c = c.requires.outputs
