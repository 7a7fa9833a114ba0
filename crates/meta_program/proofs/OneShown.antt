-- At most one text is written of tables in a version.
use Rattle.std.proofs.Common.{◌≡◌, ℕ, Bool, true, false, List, refl, sym, ◌∙◌, subst}
use Rattle.meta_build.specs.AllDeclared.{Declared}
use Rattle.meta_gen.specs.WholeTables.{WholeTables, AreWholeTablesOf}
use Rattle.meta_table_text.specs.declared.version.Version.{Version}
use Rattle.meta_program.specs.TablesIn.{AreShownIn, IsShownIn}

-- the same tables fit a version or they don't, and are shown so
shown_once : (version : Version) (t : WholeTables) (a b : Bool) (out other : List ℕ) → AreShownIn version t a out
    → AreShownIn version t b other → (a ≡ b) × (out ≡ other)
shown_once version t false false out other h g = (refl, h.1 ∙ sym g.1)
shown_once version t false true out other h g = absurd (g.0 h.0)
shown_once version t true false out other h g = absurd (h.0 g.0)
shown_once version t true true out other h g = (refl, h.1 ∙ sym g.1)

pub one_shown : (d : Declared) → ((one other : WholeTables) → AreWholeTablesOf d one → AreWholeTablesOf d other → one ≡ other)
    → (version : Version) (a b : Bool) (out other : List ℕ) → IsShownIn version d a out → IsShownIn version d b other
    → (a ≡ b) × (out ≡ other)
one_shown d one_table version a b out other h g =
    let own = subst (λ (t : WholeTables). AreShownIn version t a out) (one_table h.tables g.tables h.are g.are) h.shown in
    shown_once version g.tables a b out other own g.shown
