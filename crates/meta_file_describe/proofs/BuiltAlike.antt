-- Declarations of which the same is built.
use Rattle.std.proofs.Common.{◌≡◌, ◌∙◌, ℕ, List, length, map, slice_get, Some, refl, sym, ap, subst}
use Rattle.std.proofs.lemmas.List.{length-map}
use Rattle.meta_lists.proofs.Mapped.{get_map, get_mapped}
use Rattle.meta_inst.specs.InstructionSet.{InstructionSet}
use Rattle.meta_settings.specs.GroupDeclaration.{GroupDeclaration}
use Rattle.meta_settings.specs.Layout.{Layout}
use Rattle.meta_settings.specs.LaidOut.{built_of}
use Rattle.meta_setting_tables.specs.GroupTables.{GroupContents, AreTablesOfGroup}
use Rattle.meta_build.specs.AllDeclared.{Declared, AreValidGroups}
use Rattle.meta_build.specs.BuiltDeclarations.{BuiltDeclarations, AreBuilt}
use Rattle.meta_gen.specs.TablesOf.{AreTablesOf}
use Rattle.meta_gen.specs.WholeTables.{WholeTables, AreTablesOfGroups, AreWholeTablesOf}
use Rattle.meta_rust_insts.specs.FormatsText.{formats_text}
use Rattle.meta_rust_insts.specs.DataText.{data_text}
use Rattle.meta_rust_text.specs.BuilderText.{builder_text}
use Rattle.meta_rust_text.specs.InstructionsText.{instructions_text}
use Rattle.meta_file_describe.specs.Described.{HaveSameTables, HaveSameTexts, AreBuiltAlike}

-- ---- tables

-- beside a group of the one stands a group of the other, of which the same is built
beside : (ds es : List GroupDeclaration) → map built_of ds ≡ map built_of es → (k : ℕ) (g : GroupDeclaration) → slice_get es k ≡ Some g
    → (h : GroupDeclaration) × (slice_get ds k ≡ Some h) × (built_of h ≡ built_of g)
beside ds es same k g at =
    get_mapped built_of ds k (built_of g) (ap (λ (x : List Layout). slice_get x k) same ∙ get_map built_of es k g at)

group_tables : (ds es : List GroupDeclaration) (ts : List GroupContents) → map built_of ds ≡ map built_of es → AreValidGroups es
    → AreTablesOfGroups ds ts → AreTablesOfGroups es ts
group_tables ds es ts same valid h = record {
  valid = valid;
  count = h.count ∙ sym (length-map ds built_of) ∙ ap (λ (x : List Layout). length x) same ∙ length-map es built_of;
  each = λ k g t at_g at_t.
      let (own, at, is) = beside ds es same k g at_g in
      subst (λ (x : Layout). AreTablesOfGroup x t) is (h.each k own t at at_t);
}

-- the tables of the one are those of the other
pub tables_stay : (d e : Declared) (t : WholeTables) → AreBuiltAlike d e → AreWholeTablesOf d t → AreWholeTablesOf e t
tables_stay d e t alike h = record {
  opcodes = subst (λ (x : InstructionSet). AreTablesOf x t.opcodes) alike.set h.opcodes;
  groups = group_tables d.groups e.groups t.groups alike.groups alike.valid.groups h.groups;
}

pub tables_of_both : (d e : Declared) (t : WholeTables) → AreBuiltAlike d e → AreWholeTablesOf d t → HaveSameTables d e
tables_of_both d e t alike h = record { tables = t; of_one = h; of_other = tables_stay d e t alike h }

-- ---- texts

-- what is built of the one, as it is built of the other
abbrev built_as : BuiltDeclarations → List GroupDeclaration → BuiltDeclarations
built_as b groups = record {
  declared = record { set = b.declared.set; groups = groups };
  instructions = b.instructions;
  formats = b.formats;
  groups = b.groups;
  type_sets = b.type_sets;
}

same_instructions : (b : BuiltDeclarations) (groups : List GroupDeclaration) → instructions_text b ≡ instructions_text (built_as b groups)
unfolding instructions_text formats_text data_text
same_instructions b groups = refl

same_builder : (b : BuiltDeclarations) (groups : List GroupDeclaration) → builder_text b ≡ builder_text (built_as b groups)
unfolding builder_text
same_builder b groups = refl

is_built_as : (b : BuiltDeclarations) (groups : List GroupDeclaration) → AreBuilt b
    → AreBuiltAlike b.declared (record { set = b.declared.set; groups = groups }) → AreBuilt (built_as b groups)
is_built_as b groups h alike = record {
  registry = h.registry;
  fits = h.fits;
  valid = alike.valid;
  instructions = h.instructions;
  formats = h.formats;
  groups = h.groups ∙ alike.groups;
  type_sets = h.type_sets;
  few = h.few;
}

texts_as : (b : BuiltDeclarations) (groups : List GroupDeclaration) → AreBuilt b
    → AreBuiltAlike b.declared (record { set = b.declared.set; groups = groups })
    → HaveSameTexts b.declared (record { set = b.declared.set; groups = groups })
texts_as b groups h alike = record {
  one = b;
  other = built_as b groups;
  of_one = record { built = h; declared = refl };
  of_other = record { built = is_built_as b groups h alike; declared = refl };
  settings = refl;
  instructions = same_instructions b groups;
  builder = same_builder b groups;
}

pub texts_of_both : (b : BuiltDeclarations) (e : Declared) → AreBuilt b → AreBuiltAlike b.declared e → HaveSameTexts b.declared e
texts_of_both b e h alike =
    let same : (let x : Declared = record { set = b.declared.set; groups = e.groups } in x) ≡ e =
    λ i. record { set = alike.set i; groups = e.groups } in
    subst (λ (x : Declared). HaveSameTexts b.declared x) same
    (texts_as b e.groups h (subst (λ (x : Declared). AreBuiltAlike b.declared x) (sym same) alike))
