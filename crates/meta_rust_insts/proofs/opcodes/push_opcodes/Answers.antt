use Rattle.std.proofs.Common.{◌≡◌, sym, ap, ◌∙◌, subst, List}
use Rattle.meta_operands.specs.declared.format.InstructionFormat.{InstructionFormat}
use Rattle.meta_inst.specs.Built.{BuiltInstruction}
use Rattle.meta_inst.specs.InstructionSet.{AreOfRegistries}
use Rattle.meta_build.specs.AllDeclared.{Declared}
use Rattle.meta_rust_insts.specs.OpcodesText.{HaveFormats}
use Rattle.meta_rust_insts.proofs.InTable.{have_formats}
use Rattle.meta_rust_insts.proofs.opcodes.push_opcodes.Goals as goal

pub push_part-requires : goal.push_part-requires
push_part-requires c =
    let d = c.args.built.now.declared.set in
    let declared = c.declarations-declarations.ensures.declarations in
    let fits : AreOfRegistries d.vars d.formats d.instructions =
    subst (λ (e : Declared). AreOfRegistries e.set.vars e.set.formats e.set.instructions) declared
    c.instructions-instructions.ensures.fits in
    let table : c.formats.result.now ≡ d.formats = c.formats.ensures.formats ∙ ap (λ (e : Declared). e.set.formats) declared in
    let have : HaveFormats d.formats c.args.built.now.instructions =
    have_formats d c.args.built.now.instructions c.instructions-instructions-2.ensures.built fits in
    subst (λ (fs : List InstructionFormat). HaveFormats fs c.instructions-instructions-2.result.now) (sym table)
    (subst (λ (cs : List BuiltInstruction). HaveFormats d.formats cs) (sym c.instructions-instructions-2.ensures.instructions) have)
