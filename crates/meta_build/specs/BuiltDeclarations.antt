-- What is built of declarations.
--     AreBuilt b      the parts are what is built of the declarations, which have no fault
use Rattle.std.specs.Prelude.{◌≡◌, ◌≤◌, ℕ, List, length, map}
use Rattle.meta_typevar.specs.Registry.{IsRegistry}
use Rattle.meta_typevar.specs.TypeSetParts.{TypeSetParts}
use Rattle.meta_inst.specs.Built.{BuiltInstruction}
use Rattle.meta_inst.specs.InstructionSet.{AreOfRegistries}
use Rattle.meta_settings.specs.Layout.{Layout}
use Rattle.meta_settings.specs.LaidOut.{built_of}
use Rattle.meta_build.specs.AllDeclared.{Declared, AreValid}
use Rattle.meta_build.specs.BuiltInstructions.{AreInstructionsOf}
use Rattle.meta_build.specs.FormatsByName.{AreFormatsByName}
use Rattle.meta_build.specs.Needed.{AreSetsByNeed}

-- the declarations, and what is built of them: the instructions, the formats in use, the groups
-- of settings, and the type sets that are needed
pub record BuiltDeclarations : Type 0 where
  pub declared : Declared
  pub instructions : List BuiltInstruction
  pub formats : List ℕ
  pub groups : List Layout
  pub type_sets : List TypeSetParts

-- the variables are a registry and the instructions are of it and of the formats; the declarations have no fault, each instruction and each
-- group is built in its order, the formats are those in use by their names, and the type sets are those that the instructions need, each
-- once, in order of first need, at most 4,095
pub record AreBuilt (b : BuiltDeclarations) : Type 0 where
  pub registry : IsRegistry b.declared.set.vars
  pub fits : AreOfRegistries b.declared.set.vars b.declared.set.formats b.declared.set.instructions
  pub valid : AreValid b.declared
  pub instructions : AreInstructionsOf b.declared.set b.instructions
  pub formats : AreFormatsByName b.declared.set b.formats
  pub groups : b.groups ≡ map built_of b.declared.groups
  pub type_sets : AreSetsByNeed b.declared.set b.type_sets
  pub few : length b.type_sets ≤ 4095
