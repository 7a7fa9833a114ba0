use Rattle.std.proofs.Common.{◌++◌, ap, ◌∙◌, List}
use Rattle.std.proofs.lemmas.Result.{on_ok_weaker}
use Rattle.meta_inst.specs.Built.{BuiltInstruction}
use Rattle.meta_build.specs.AllDeclared.{Declared}
use Rattle.meta_rust_names.specs.Known.{known}
use Rattle.meta_rust_names.specs.Methods.{is_among, instruction_methods}
use Rattle.meta_rust_names.proofs.Lent.{formats_lent}
use Rattle.meta_rust_names.proofs.all.push_all_formats.Goals as goal

pub returns : goal.returns
returns c =
    on_ok_weaker c.push_formats.result
    (λ added. added ∙ ap (λ names. c.args.out.now.items ++ names)
    (formats_lent c.args.built.now (known c.in_ok-methods.methods) (known c.args.imm.now) c.formats-formats.result.now c.formats.result.now
    (λ text. c.in_ok-methods.ensures text
    ∙ ap (λ (cs : List BuiltInstruction). is_among (instruction_methods cs) text) c.instructions.ensures.instructions)
    c.requires
    (c.formats-formats.ensures.formats ∙ ap (λ (d : Declared). d.set.formats) c.declarations.ensures.declarations)
    c.formats.ensures.formats))
    c.push_formats.ensures
