-- Parts have at most one well-formed table.
use Rattle.std.proofs.Common.{◌≡◌, ◌<◌, ℕ, List, All, Some, sym, ap, ◌∙◌, arith}
use Rattle.meta_lists.proofs.Everywhere.{at_place}
use Rattle.meta_lists.proofs.Places.{get_there, same_places}
use Rattle.meta_typevar.specs.declared.masks.Masks.{Masks}
use Rattle.meta_inst.specs.Tables.{TableContents}
use Rattle.meta_gen.specs.WellFormedOpcodes.{IsWellFormedOpcodes, HaveParts}
use Rattle.meta_gen.specs.declared.constraint.Constraint.{Constraint}
use Rattle.meta_gen.specs.declared.constraint.OpcodeConstraints.{OpcodeConstraints}
use Rattle.meta_setting_tables.specs.declared.parts.GroupParts.{GroupParts}
use Rattle.meta_setting_tables.specs.GroupTables.{GroupContents}
use Rattle.meta_setting_tables.specs.WellFormed.{IsWellFormedGroup}
use Rattle.meta_setting_tables.specs.Parts.{HasGroupParts}
use Rattle.meta_gen.specs.declared.parts.TableParts.{TableParts}
use Rattle.meta_gen.specs.Parts.{HaveGroupParts, HasParts}
use Rattle.meta_gen.specs.WellFormed.{IsWellFormed}
use Rattle.meta_gen.specs.WholeTables.{WholeTables}

-- the parts of opcodes, and of a group, have one table at most
abbrev OneOfOpcodes : Type 0
OneOfOpcodes = (names formats : List (List ℕ)) (type_sets : List Masks) (operand_constraints : List Constraint)
    (constraints : List OpcodeConstraints) (one other : TableContents) → IsWellFormedOpcodes one → IsWellFormedOpcodes other
    → HaveParts one names formats type_sets operand_constraints constraints
    → HaveParts other names formats type_sets operand_constraints constraints → one ≡ other

abbrev OneOfGroup : Type 0
OneOfGroup = (parts : GroupParts) (one other : GroupContents) → IsWellFormedGroup one → IsWellFormedGroup other → HasGroupParts parts one
    → HasGroupParts parts other → one ≡ other

-- so have those of groups
one_groups : OneOfGroup → (parts : List GroupParts) (one other : List GroupContents) → All IsWellFormedGroup one
    → All IsWellFormedGroup other → HaveGroupParts parts one → HaveGroupParts parts other → one ≡ other
one_groups law parts one other good good_too have have_too =
    same_places one other (have.count ∙ sym have_too.count) (λ j l.
    let (s, at_s) = get_there one j l in
    let (t, at_t) = get_there other j (omega (arith, l, have.count, have_too.count)) in
    let (p, at_p) = get_there parts j (omega (arith, l, have.count)) in
    let same : s ≡ t = law p s t (at_place IsWellFormedGroup one j s good at_s) (at_place IsWellFormedGroup other j t good_too at_t)
    (have.each j p s at_p at_s) (have_too.each j p t at_p at_t) in
    at_s ∙ ap Some same ∙ sym at_t)

-- whole tables with the same parts are the same
pub same_whole : (one other : WholeTables) → one.opcodes ≡ other.opcodes → one.groups ≡ other.groups → one ≡ other
same_whole one other opcodes groups = λ i. record { opcodes = opcodes i; groups = groups i }

-- so parts of whole tables have one table at most
pub one_whole : OneOfOpcodes → OneOfGroup → (parts : TableParts) (one other : WholeTables) → IsWellFormed one → IsWellFormed other
    → HasParts parts one → HasParts parts other → one ≡ other
one_whole opcodes_law group_law parts one other good good_too has has_too =
    let opcodes = opcodes_law parts.names.items parts.formats.items parts.type_sets.items parts.operand_constraints.items
    parts.constraints.items one.opcodes other.opcodes good.opcodes good_too.opcodes has.opcodes has_too.opcodes in
    let groups = one_groups group_law parts.groups.items one.groups other.groups good.groups good_too.groups has.groups has_too.groups in
    same_whole one other opcodes groups
