-- Declarations explain an input with one output at most.
use Rattle.std.proofs.Common.{◌≡◌, ℕ, List, Option, Some, sym, ◌∙◌, subst}
use Rattle.meta_typevar.specs.Registry.{HoldTypeSets}
use Rattle.meta_inst.specs.Built.{BuiltInstruction}
use Rattle.meta_build.specs.AllDeclared.{Declared}
use Rattle.meta_build.specs.BuiltDeclarations.{BuiltDeclarations, AreBuilt}
use Rattle.meta_gen.specs.WholeTables.{WholeTables, AreWholeTablesOf}
use Rattle.meta_lines.specs.Lines.{lines_of}
use Rattle.meta_query_lines.specs.Explained.{AreExplained, IsExplainedOutput}

-- where declarations have one building and one tables, and tables explain lines with one text
pub same_explained_output : ((a b : BuiltDeclarations) → AreBuilt a → AreBuilt b → a.declared ≡ b.declared → a ≡ b)
    → ((d : Declared) (t u : WholeTables) → HoldTypeSets d.set.vars → AreWholeTablesOf d t → AreWholeTablesOf d u → t ≡ u)
    → ((t : WholeTables) (told : Option (List BuiltInstruction)) (lines : List (List ℕ)) (a b : List ℕ) → AreExplained t told lines a
    → AreExplained t told lines b → a ≡ b)
    → (d : Declared) (input a b : List ℕ) → IsExplainedOutput d input a → IsExplainedOutput d input b → a ≡ b
same_explained_output one_building one_tables one_text d input a b h g =
    let built : h.built ≡ g.built = one_building h.built g.built h.are_built g.are_built (h.is_of ∙ sym g.is_of) in
    let sets : HoldTypeSets d.set.vars = subst (λ (x : Declared). HoldTypeSets x.set.vars) h.is_of h.are_built.registry.sets in
    let tables : h.tables ≡ g.tables = one_tables d h.tables g.tables sets h.are_tables g.are_tables in
    let moved : AreExplained g.tables (Some h.built.instructions) (lines_of input) a =
    subst (λ t. AreExplained t (Some h.built.instructions) (lines_of input) a) tables h.answers in
    one_text g.tables (Some g.built.instructions) (lines_of input) a b
    (subst (λ (x : BuiltDeclarations). AreExplained g.tables (Some x.instructions) (lines_of input) a) built moved) g.answers
