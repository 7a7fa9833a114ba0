-- The tables of built groups, one group after another.
use Rattle.std.proofs.Common.{◌≡◌, ◌⊎◌, inl, inr, ℕ, ◌+◌, List, [], ◌∷◌, ◌++◌, All, length, map, slice_get, Some, option_map, sym, ap, ◌∙◌}
use Rattle.std.proofs.Common.{subst, arith}
use Rattle.std.proofs.lemmas.List.{length-append, length-map}
use Rattle.std.proofs.lemmas.List.Elements.{All-push, All-same}
use Rattle.std.proofs.lemmas.Option.{slice_get-map, same_Some}
use Rattle.meta_lists.proofs.Pushed.{get_pushed}
use Rattle.meta_lists.proofs.Mapped.{get_mapped}
use Rattle.meta_settings.specs.GroupDeclaration.{GroupDeclaration}
use Rattle.meta_settings.specs.GroupFaults.{IsValidGroup}
use Rattle.meta_settings.specs.Layout.{Layout}
use Rattle.meta_settings.specs.LaidOut.{built_of}
use Rattle.meta_build.specs.AllDeclared.{AreValidGroups}
use Rattle.meta_setting_tables.specs.BuiltLayout.{IsBuiltLayout}
use Rattle.meta_setting_tables.specs.GroupTables.{GroupContents, AreTablesOfGroup}
use Rattle.meta_setting_tables.specs.WellFormed.{IsWellFormedGroup}
use Rattle.meta_gen.specs.WholeTables.{AreTablesOfGroups}

-- these are the tables of the first n groups
pub record GroupsTo (groups : List Layout) (n : ℕ) (tables : List GroupContents) : Type 0 where
  pub count : length tables ≡ n
  pub each : (k : ℕ) (g : Layout) (t : GroupContents) → slice_get groups k ≡ Some g → slice_get tables k ≡ Some t → AreTablesOfGroup g t
  pub well_formed : All IsWellFormedGroup tables

pub groups_next : (groups : List Layout) (n : ℕ) (g : Layout) (t : GroupContents) (old new : List GroupContents)
    → slice_get groups n ≡ Some g → AreTablesOfGroup g t → IsWellFormedGroup t → new ≡ old ++ t ∷ [] → GroupsTo groups n old
    → GroupsTo groups (n + 1) new
groups_next groups n g t old new at is good more so = record {
  count = (let long = ap length more ∙ length-append old (t ∷ []) in let was = so.count in omega (arith, long, was));
  each = λ k h u at' there. place k h u at' (get_pushed old t k u (sym (ap (λ w. slice_get w k) more) ∙ there));
  well_formed = All-same IsWellFormedGroup new (old ++ t ∷ []) more (All-push IsWellFormedGroup old t so.well_formed good);
}
  where
    place : (k : ℕ) (h : Layout) (u : GroupContents) → slice_get groups k ≡ Some h
        → (slice_get old k ≡ Some u) ⊎ ((k ≡ length old) × (t ≡ u)) → AreTablesOfGroup h u
    place k h u at' (inl was) = so.each k h u at' was
    place k h u at' (inr end) =
        let here : k ≡ n = end.0 ∙ so.count in
        subst (λ (h : Layout). AreTablesOfGroup h u) (same_Some g h (sym at ∙ ap (slice_get groups) (sym here) ∙ at'))
        (subst (AreTablesOfGroup g) end.1 is)

-- the tables of what is built are those of the declared groups
pub groups_done : (groups : List GroupDeclaration) (built : List Layout) (tables : List GroupContents) → AreValidGroups groups
    → built ≡ map built_of groups → length tables ≡ length built → ((k : ℕ) (g : Layout) (t : GroupContents) → slice_get built k ≡ Some g
    → slice_get tables k ≡ Some t → AreTablesOfGroup g t) → AreTablesOfGroups groups tables
groups_done groups built tables valid are count each = record {
  valid = valid;
  count = count ∙ ap length are ∙ length-map groups built_of;
  each = λ k g t at there. each k (built_of g) t (ap (λ w. slice_get w k) are ∙ slice_get-map built_of groups k
      ∙ ap (option_map built_of) at) there;
}

-- each group that is built of a valid one has tables
pub layouts : (groups : List GroupDeclaration) (built : List Layout) → AreValidGroups groups → built ≡ map built_of groups
    → ((d : GroupDeclaration) → IsValidGroup d → IsBuiltLayout (built_of d)) → (k : ℕ) (g : Layout) → slice_get built k ≡ Some g
    → IsBuiltLayout g
layouts groups built valid are law k g at =
    let (d, at_d, is) = get_mapped built_of groups k g (ap (λ w. slice_get w k) (sym are) ∙ at) in
    subst IsBuiltLayout is (law d (valid k d at_d))
