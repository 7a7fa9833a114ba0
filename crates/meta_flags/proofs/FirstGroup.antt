-- What the tables of declarations serve.
use Rattle.std.proofs.Common.{◌≡◌, ℕ, ◌≤◌, inl, inr, List, length, slice_get, Option, None, Some, option_map, refl, sym, ap, ◌∙◌, arith}
use Rattle.std.specs.Prelude.{IfSome, IfNone}
use Rattle.std.proofs.lemmas.Bool.{cases_lt}
use Rattle.std.proofs.lemmas.Option.{slice_get_past, slice_get_within, none-some}
use Rattle.meta_lists.proofs.Places.{get_there}
use Rattle.meta_settings.specs.GroupDeclaration.{GroupDeclaration}
use Rattle.meta_settings.specs.LaidOut.{built_of}
use Rattle.meta_setting_tables.specs.GroupTables.{GroupContents, AreTablesOfGroup}
use Rattle.meta_build.specs.AllDeclared.{Declared}
use Rattle.meta_gen.specs.WholeTables.{WholeTables, AreWholeTablesOf, HasNoGroup}
use Rattle.meta_flags.specs.Served.{served_in, served_of, initial}
use Rattle.meta_flags.specs.FlagAnswers.{initial_of}
use Rattle.meta_flags.specs.FlagsOutput.{first_served}
use Rattle.meta_flags.specs.Held.{FlagContents, served_by, state_of}

-- where the lists are as long, and one has no first element, neither has the other
no_first : {X Y : Type 0} (xs : List X) (ys : List Y) → length xs ≡ length ys → slice_get xs 0 ≡ None → slice_get ys 0 ≡ None
no_first {X} xs ys same none = slice_get_past ys 0 (empty (length xs) refl)
  where
    empty : (n : ℕ) → length xs ≡ n → length ys ≤ 0
    empty n e = elim (cases_lt 0 n) [
      | inl some ↦ let (x, at) = get_there xs 0 (omega (arith, some, e)) in absurd (none-some x (sym none ∙ at))
      | inr few ↦ omega (arith, few, e, same)
    ]

module _ (d : Declared) (t : WholeTables) (made : AreWholeTablesOf d t) (law : (g : GroupDeclaration) (s : GroupContents)
    → AreTablesOfGroup (built_of g) s → served_in s ≡ served_of (built_of g)) where
  -- what the first group of the tables serves is what is declared
  pub same_first : (o : Option FlagContents) → IfSome o (λ f. slice_get t.groups 0 ≡ Some f.group) → IfNone o (HasNoGroup t 0)
      → served_by o ≡ first_served d.groups
  same_first None there none =
      sym (ap (option_map (λ (g : GroupDeclaration). served_of (built_of g))) (no_first t.groups d.groups made.groups.count none))
  same_first (Some f) there none =
      let count = made.groups.count in
      let within = slice_get_within t.groups 0 f.group there in
      let (g, at) = get_there d.groups 0 (omega (arith, count, within)) in
      ap Some (law g f.group (made.groups.each 0 g f.group at there))
      ∙ sym (ap (option_map (λ (g : GroupDeclaration). served_of (built_of g))) at)

-- the values are the defaults of what is served
pub same_initial : (o : Option FlagContents) → IfSome o (λ f. f.state ≡ initial (served_in f.group)) → state_of o ≡ initial_of (served_by o)
same_initial None is = refl
same_initial (Some f) is = is
