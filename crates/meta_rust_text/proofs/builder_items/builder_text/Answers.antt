use Rattle.meta_rust_text.proofs.BuiltOperands.{each_of_registry}
use Rattle.meta_rust_text.proofs.builder_items.builder_text.Goals as goal

pub push_each_instruction-requires : goal.push_each_instruction-requires
push_each_instruction-requires c =
    each_of_registry c.args.built.now.declared c.declarations-declarations.result.now c.variables-vars.result.now
    c.args.built.now.instructions c.instructions.result.now
    c.declarations-declarations.ensures.declarations c.variables-vars.ensures.vars c.instructions.ensures.instructions
    c.variables-vars.ensures.fits c.instructions.ensures.built
