-- Declarations have one value of whole tables.
use Rattle.std.proofs.Common.{◌≡◌, ◌<◌, ℕ, List, Some, sym, ap, ◌∙◌, arith}
use Rattle.meta_lists.proofs.Places.{get_there, same_places}
use Rattle.meta_typevar.specs.Registry.{HoldTypeSets}
use Rattle.meta_inst.specs.InstructionSet.{InstructionSet}
use Rattle.meta_inst.specs.Tables.{TableContents}
use Rattle.meta_settings.specs.GroupDeclaration.{GroupDeclaration}
use Rattle.meta_settings.specs.Layout.{Layout}
use Rattle.meta_settings.specs.LaidOut.{built_of}
use Rattle.meta_setting_tables.specs.GroupTables.{GroupContents, AreTablesOfGroup}
use Rattle.meta_build.specs.AllDeclared.{Declared}
use Rattle.meta_gen.specs.TablesOf.{AreTablesOf}
use Rattle.meta_gen.specs.WholeTables.{WholeTables, AreTablesOfGroups, AreWholeTablesOf}
use Rattle.meta_gen.proofs.OneWhole.{same_whole}

-- an instruction set has one value of tables, and so has a group
abbrev OneOfSet : Type 0
OneOfSet = (d : InstructionSet) (one other : TableContents) → HoldTypeSets d.vars → AreTablesOf d one → AreTablesOf d other → one ≡ other

abbrev OneOfGroup : Type 0
OneOfGroup = (g : Layout) (one other : GroupContents) → AreTablesOfGroup g one → AreTablesOfGroup g other → one ≡ other

-- so have groups
one_groups : OneOfGroup → (groups : List GroupDeclaration) (one other : List GroupContents) → AreTablesOfGroups groups one
    → AreTablesOfGroups groups other → one ≡ other
one_groups law groups one other a b =
    same_places one other (a.count ∙ sym b.count) (λ k l.
    let (s, at_s) = get_there one k l in
    let (t, at_t) = get_there other k (omega (arith, l, a.count, b.count)) in
    let (g, at_g) = get_there groups k (omega (arith, l, a.count)) in
    at_s ∙ ap Some (law (built_of g) s t (a.each k g s at_g at_s) (b.each k g t at_g at_t)) ∙ sym at_t)

-- and declarations
pub one_declared : OneOfSet → OneOfGroup → (d : Declared) (one other : WholeTables) → HoldTypeSets d.set.vars → AreWholeTablesOf d one
    → AreWholeTablesOf d other → one ≡ other
one_declared set_law group_law d one other typed a b =
    same_whole one other (set_law d.set one.opcodes other.opcodes typed a.opcodes b.opcodes)
    (one_groups group_law d.groups one.groups other.groups a.groups b.groups)
