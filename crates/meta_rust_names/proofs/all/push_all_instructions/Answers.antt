use Rattle.std.proofs.Common.{◌++◌, ap, ◌∙◌}
use Rattle.std.proofs.lemmas.Result.{on_ok_weaker}
use Rattle.meta_build.specs.AllDeclared.{Declared}
use Rattle.meta_rust_names.specs.Known.{known}
use Rattle.meta_rust_text.proofs.BuiltOperands.{each_of_registry}
use Rattle.meta_rust_names.proofs.Lent.{instructions_lent}
use Rattle.meta_rust_names.proofs.all.push_all_instructions.Goals as goal

pub push_instructions-requires : goal.push_instructions-requires
push_instructions-requires c =
    each_of_registry c.args.built.now.declared c.declarations-declarations.result.now c.variables-vars.result.now
    c.args.built.now.instructions c.instructions.result.now
    c.declarations-declarations.ensures.declarations c.variables-vars.ensures.vars c.instructions.ensures.instructions
    c.variables-vars.ensures.fits c.instructions.ensures.built

pub returns : goal.returns
returns c =
    let lent = c.declarations-declarations.ensures.declarations in
    on_ok_weaker c.push_instructions.result
    (λ added. added ∙ ap (λ names. c.args.out.now.items ++ names)
    (instructions_lent c.args.built.now (known c.args.others.now.formats) (known c.args.others.now.imm_methods) c.variables-vars.result.now
    c.formats-formats.result.now c.instructions.result.now c.requires.formats c.requires.imm_methods
    (c.variables-vars.ensures.vars ∙ ap (λ (d : Declared). d.set.vars) lent)
    (c.formats-formats.ensures.formats ∙ ap (λ (d : Declared). d.set.formats) lent)
    c.instructions.ensures.instructions))
    c.push_instructions.ensures
