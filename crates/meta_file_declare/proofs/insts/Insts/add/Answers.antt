use Rattle.meta_file_types.specs.Registered.{Extends}
use Rattle.meta_file_types.specs.Held.{registered, Holds}
use Rattle.meta_file_declare.proofs.AddedItems.{format_right, format_types, format_added, format_wrong, registry_same}
use Rattle.meta_file_declare.proofs.AddedItems.{inst_right, inst_types, inst_added, inst_wrong}
use Rattle.meta_file_declare.proofs.insts.Insts.add.Goals as goal

pub returns-in-Format-clause-right : goal.returns-in-Format-clause-right
returns-in-Format-clause-right g c = format_right g.above c.args.item.now c.in-Format.item _ c.add_format.result c.in-Format.is
    c.add_format.ensures

pub returns-in-Format-clause-insts : goal.returns-in-Format-clause-insts
returns-in-Format-clause-insts g c =
    format_added c.args.types.now c.add_format.new.self g.above c.args.place c.args.item.now c.in-Format.item c.add_format.result
    c.in-Format.is
    c.add_format.ensures

pub returns-in-Format-clause-extends : goal.returns-in-Format-clause-extends
returns-in-Format-clause-extends g c =
    format_types (λ s. Extends (registered c.args.types.now g.above.types) (registered c.args.types.now s)) g.above c.args.place
    c.args.item.now c.in-Format.item c.add_format.result c.in-Format.is (registry_same c.args.types.now g.above.types)

pub returns-in-Format-clause-wrong : goal.returns-in-Format-clause-wrong
returns-in-Format-clause-wrong g c = format_wrong g.above c.args.item.now c.in-Format.item _ c.add_format.result c.in-Format.is
    c.add_format.ensures

pub returns-in-Inst-clause-right : goal.returns-in-Inst-clause-right
returns-in-Inst-clause-right g c = inst_right g.above c.args.item.now c.in-Inst.item _ c.add_inst.result c.in-Inst.is
    c.add_inst.ensures.means

pub returns-in-Inst-clause-types : goal.returns-in-Inst-clause-types
returns-in-Inst-clause-types g c =
    inst_types (Holds c.add_inst.new.types) g.above c.args.place c.args.item.now c.in-Inst.item _ c.add_inst.result c.in-Inst.is
    c.add_inst.ensures.means c.add_inst.ensures.holds

pub returns-in-Inst-clause-insts : goal.returns-in-Inst-clause-insts
returns-in-Inst-clause-insts g c =
    inst_added c.add_inst.new.types c.add_inst.new.self g.above c.args.place c.args.item.now c.in-Inst.item c.add_inst.result c.in-Inst.is
    c.add_inst.ensures.means

pub returns-in-Inst-clause-extends : goal.returns-in-Inst-clause-extends
returns-in-Inst-clause-extends g c =
    inst_types (λ s. Extends (registered c.args.types.now g.above.types) (registered c.add_inst.new.types s)) g.above c.args.place
    c.args.item.now c.in-Inst.item _ c.add_inst.result c.in-Inst.is c.add_inst.ensures.means c.add_inst.ensures.extends

pub returns-in-Inst-clause-wrong : goal.returns-in-Inst-clause-wrong
returns-in-Inst-clause-wrong g c = inst_wrong g.above c.args.item.now c.in-Inst.item _ c.add_inst.result c.in-Inst.is
    c.add_inst.ensures.means
