-- Items that are made of groups declare these groups, and no instruction set.
use Rattle.std.proofs.Common.{◌≡◌, ℕ, zero, suc, ◌+◌, ⊎_elim, List, [], ◌∷◌, ◌++◌, All, map, refl, sym, ◌∙◌, subst}
use Rattle.std.specs.List.{AllZip}
use Rattle.std.proofs.lemmas.Option.{same_Some}
use Rattle.meta_lists.proofs.Mapped.{get_mapped}
use Rattle.meta_lists.proofs.Places.{get_cases}
use Rattle.meta_inst.specs.InstructionSet.{InstructionSet}
use Rattle.meta_file_syntax.specs.declared.items.Item.{Item}
use Rattle.meta_file_syntax.specs.declared.items.Item.TheVariants as item
use Rattle.meta_settings.specs.Layout.{Layout}
use Rattle.meta_file_types.specs.Registered.{Registered, IsRegistryOf}
use Rattle.meta_file_declare.specs.Registered.{IsFormatIn, IsBuilderIn}
use Rattle.meta_file_declare.specs.Held.{meant_formats}
use Rattle.meta_file_declare.specs.SaidOfInsts.{Above, after, nothing_said, said_from, said}
use Rattle.meta_file_declare.specs.Places.{IsOfGroup, AreOfGroups}
use Rattle.meta_file_declare.specs.AllItems.{registry_of, DeclaresSet, Declares}
use Rattle.meta_file_describe.specs.Wording.{name_for}
use Rattle.meta_file_describe.specs.SettingItems.{item_of_setting, item_of_preset, items_of_group, items_of_groups}
use Rattle.meta_file_describe.proofs.DeclaredAgain.{group_again}
use Rattle.meta_file_describe.proofs.Sayable.{IsSayable}
use Rattle.meta_file_describe.proofs.GroupsAgain.{said_again}
use Rattle.meta_file_describe.proofs.RightAgain.{setting_of_group, right_again}

-- ---- items of groups alone

adds_nothing : (a : Above) (place : ℕ) (i : Item) → IsOfGroup i → after a place i ≡ a
adds_nothing a place (item.Group n) h = refl
adds_nothing a place (item.Type i) h = absurd h
adds_nothing a place (item.Alias i) h = absurd h
adds_nothing a place (item.Kind i) h = absurd h
adds_nothing a place (item.Format i) h = absurd h
adds_nothing a place (item.Inst i) h = absurd h
adds_nothing a place (item.Bool i) h = refl
adds_nothing a place (item.Num i) h = refl
adds_nothing a place (item.Enum i) h = refl
adds_nothing a place (item.Preset i) h = refl

nothing_from : (a : Above) (place : ℕ) (items : List Item) → AreOfGroups items → said_from a place items ≡ a
nothing_from a place [] h = refl
nothing_from a place (i ∷ items) h =
    nothing_from (after a place i) (place + 1) items (λ k x at. h (suc k) x at) ∙ adds_nothing a place i (h 0 i refl)

-- a registry of nothing
none_registered : IsRegistryOf (let r : Registered = record { vars = []; symbols = [] } in r) []
none_registered = record { count = refl; apart = λ s n m h g. absurd (cc); variables = λ s n h. absurd (cc) }

-- they declare the empty instruction set
pub none_declared : (items : List Item) → AreOfGroups items
    → DeclaresSet items (record { vars = []; formats = []; instructions = [] })
none_declared items of =
    let none : said items ≡ nothing_said = nothing_from nothing_said 0 items of in
    let set : InstructionSet = record { vars = []; formats = []; instructions = [] } in
    let r = registry_of items set in
    record {
      vars = subst
          (λ (a : Above). IsRegistryOf (let s : Registered = record { vars = []; symbols = a.types.symbols } in s) a.types.roots)
          (sym none) none_registered;
      formats = subst (λ (a : Above). AllZip (IsFormatIn r) (meant_formats a.insts.formats) []) (sym none) tt;
      instructions = subst (λ (a : Above). AllZip (IsBuilderIn r) a.insts.insts []) (sym none) tt;
    }

-- ---- those that are made of groups

of_more : (i : Item) (items : List Item) → IsOfGroup i → AreOfGroups items → AreOfGroups (i ∷ items)
of_more i items h of zero x at = subst IsOfGroup (same_Some i x at) h
of_more i items h of (suc k) x at = of k x at

of_joined : (xs ys : List Item) → AreOfGroups xs → AreOfGroups ys → AreOfGroups (xs ++ ys)
of_joined xs ys h g k x at = ⊎_elim (λ left. h k x left) (λ right. g right.0 x right.2) (get_cases xs ys k x at)

of_mapped : {X : Type 0} (f : X → Item) → ((x : X) → IsOfGroup (f x)) → (xs : List X) → AreOfGroups (map f xs)
of_mapped f h xs k x at = let from = get_mapped f xs k x at in subst IsOfGroup from.2 (h from.0)

of_group : (g : Layout) → AreOfGroups (items_of_group g)
of_group g =
    let ss = map item_of_setting g.settings in
    let ps = map (item_of_preset g) g.presets in
    of_more (item.Group (name_for g.name)) (ss ++ ps) tt
    (of_joined ss ps (of_mapped item_of_setting (λ s. setting_of_group s s.specific) g.settings)
    (of_mapped (item_of_preset g) (λ p. tt) g.presets))

-- each of them is of a group
pub of_groups_again : (gs : List Layout) → AreOfGroups (items_of_groups gs)
of_groups_again [] k x at = absurd (cc)
of_groups_again (g ∷ gs) k x at = of_joined (items_of_group g) (items_of_groups gs) (of_group g) (of_groups_again gs) k x at

-- they declare these groups, each anew, and nothing else
pub declared_again : (gs : List Layout) → All IsSayable gs
    → Declares (items_of_groups gs) (record { set = record { vars = []; formats = []; instructions = [] }; groups = map group_again gs })
declared_again gs h = record {
  right = right_again gs h;
  set = none_declared (items_of_groups gs) (of_groups_again gs);
  groups = sym (said_again gs h);
}
