use Rattle.std.proofs.Common.{subst}
use Rattle.meta_typevar.specs.Registry.{HoldTypeSets}
use Rattle.meta_build.specs.AllDeclared.{Declared}
use Rattle.meta_file_describe.proofs.Alike.{same_tables, tables_alike}
use Rattle.meta_file_describe.proofs.BuiltAlike.{tables_stay}
use Rattle.meta_file_describe.proofs.checking.have_same_tables.Goals as goal

pub returns-clause-same : goal.returns-clause-same
returns-clause-same c =
    let sets = subst (λ (d : Declared). HoldTypeSets d.set.vars) c.declarations.ensures.declarations c.vars-vars.ensures.sets in
    let others = subst (λ (d : Declared). HoldTypeSets d.set.vars) c.declarations-2.ensures.declarations c.vars-others.ensures.sets in
    let one = c.in_ok-tables.ensures.tables in
    let other = c.in_ok-others.ensures.tables in (
      λ t. same_tables _ _ _ _ one other (c.same.ensures.0 t),
      λ h. c.same.ensures.1 (tables_alike c.one_table_of_declarations.ensures _ _ _ _ sets others one other h),
    )

pub returns-clause-alike : goal.returns-clause-alike
returns-clause-alike c = λ h.
    let others = subst (λ (d : Declared). HoldTypeSets d.set.vars) c.declarations-2.ensures.declarations c.vars-others.ensures.sets in
    let stay = tables_stay _ _ _ h c.in_ok-tables.ensures.tables in
    c.same.ensures.1 (c.one_table_of_declarations.ensures _ _ _ others stay c.in_ok-others.ensures.tables)
