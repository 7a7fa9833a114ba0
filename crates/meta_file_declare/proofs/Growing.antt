-- What one item more declares.
use Rattle.std.proofs.Common.{◌≡◌, ℕ, suc, ◌+◌, ◌≤◌, List, [], ◌∷◌, ◌++◌, Bool, true, false, Option, Some, None, length, take, drop}
use Rattle.std.proofs.Common.{slice_get, refl, sym, ap, ◌∙◌, subst, arith}
use Rattle.std.specs.Prelude.{option_map, if◌then◌else◌}
use Rattle.std.specs.List.{filter_map, position_or_len}
use Rattle.std.specs.Option.{option_or}
use Rattle.std.proofs.lemmas.List.{append-nil, append_assoc, drop_all}
use Rattle.std.proofs.lemmas.List.Elements.{filter_map-append}
use Rattle.meta_lists.proofs.Places.{take_next, drop_next}
use Rattle.meta_file_syntax.specs.declared.name.Name.{Name}
use Rattle.meta_file_syntax.specs.declared.items.Item.{Item}
use Rattle.meta_file_syntax.specs.declared.items.Item.TheVariants as item
use Rattle.meta_settings.specs.GroupDeclaration.{SettingDeclaration, PresetDeclaration, GroupDeclaration}
use Rattle.meta_file_declare.specs.Named.{Known, boolean_declared, preset_declared, known_below}
use Rattle.meta_file_declare.specs.Places.{is_group, before_group}
use Rattle.meta_file_declare.specs.Wrong.{last_entries}
use Rattle.meta_file_declare.specs.Said.{setting_of, presets_below, groups_of, bool_setting, num_setting, enum_setting, preset_of}
use Rattle.meta_file_declare.specs.OpenGroup.{known_of, GroupsSoFar, groups_so_far, closed_by, with_item, groups_after}
use Rattle.meta_file_declare.proofs.Kept.{name_of_boolean, name_of_other, name_of_preset}

-- ---- the entries of the last group

-- those after one more item
abbrev pub more_entries : Option (List Item) → Item → Option (List Item)
more_entries above (item.Group n) = Some []
more_entries above (item.Type i) = option_map (λ es. es ++ item.Type i ∷ []) above
more_entries above (item.Alias i) = option_map (λ es. es ++ item.Alias i ∷ []) above
more_entries above (item.Kind i) = option_map (λ es. es ++ item.Kind i ∷ []) above
more_entries above (item.Format i) = option_map (λ es. es ++ item.Format i ∷ []) above
more_entries above (item.Inst i) = option_map (λ es. es ++ item.Inst i ∷ []) above
more_entries above (item.Bool i) = option_map (λ es. es ++ item.Bool i ∷ []) above
more_entries above (item.Num i) = option_map (λ es. es ++ item.Num i ∷ []) above
more_entries above (item.Enum i) = option_map (λ es. es ++ item.Enum i ∷ []) above
more_entries above (item.Preset i) = option_map (λ es. es ++ item.Preset i ∷ []) above

by_last : (o : Option (List Item)) (b : Bool) (is : List Item) (i : Item)
    → option_or (more_entries o i) (if b then Some (is ++ i ∷ []) else None) ≡ more_entries (option_or o (if b then Some is else None)) i
by_last None true is (item.Group n) = refl
by_last None true is (item.Type i) = refl
by_last None true is (item.Alias i) = refl
by_last None true is (item.Kind i) = refl
by_last None true is (item.Format i) = refl
by_last None true is (item.Inst i) = refl
by_last None true is (item.Bool i) = refl
by_last None true is (item.Num i) = refl
by_last None true is (item.Enum i) = refl
by_last None true is (item.Preset i) = refl
by_last None false is (item.Group n) = refl
by_last None false is (item.Type i) = refl
by_last None false is (item.Alias i) = refl
by_last None false is (item.Kind i) = refl
by_last None false is (item.Format i) = refl
by_last None false is (item.Inst i) = refl
by_last None false is (item.Bool i) = refl
by_last None false is (item.Num i) = refl
by_last None false is (item.Enum i) = refl
by_last None false is (item.Preset i) = refl
by_last (Some es) b is (item.Group n) = refl
by_last (Some es) b is (item.Type i) = refl
by_last (Some es) b is (item.Alias i) = refl
by_last (Some es) b is (item.Kind i) = refl
by_last (Some es) b is (item.Format i) = refl
by_last (Some es) b is (item.Inst i) = refl
by_last (Some es) b is (item.Bool i) = refl
by_last (Some es) b is (item.Num i) = refl
by_last (Some es) b is (item.Enum i) = refl
by_last (Some es) b is (item.Preset i) = refl

pub last_more : (is : List Item) (i : Item) → last_entries (is ++ i ∷ []) ≡ more_entries (last_entries is) i
last_more [] (item.Group n) = refl
last_more [] (item.Type i) = refl
last_more [] (item.Alias i) = refl
last_more [] (item.Kind i) = refl
last_more [] (item.Format i) = refl
last_more [] (item.Inst i) = refl
last_more [] (item.Bool i) = refl
last_more [] (item.Num i) = refl
last_more [] (item.Enum i) = refl
last_more [] (item.Preset i) = refl
last_more (j ∷ is) i = ap (λ (o : Option (List Item)). option_or o (if is_group j then Some (is ++ i ∷ []) else None)) (last_more is i)
    ∙ by_last (last_entries is) (is_group j) is i

-- ---- the names that are known

known_is : (a b : Known) → a.booleans ≡ b.booleans → a.presets ≡ b.presets → a ≡ b
known_is a b h g =
    ap (λ (x : List (List ℕ)). let r : Known = record { booleans = x; presets = a.presets } in r) h
    ∙ ap (λ (x : List (List ℕ)). let r : Known = record { booleans = b.booleans; presets = x } in r) g

-- an entry more in the group that is open
known_with : (g : GroupDeclaration) (es : List Item) (i : Item) → is_group i ≡ false → known_of g ≡ known_below es
    → known_of (with_item g i) ≡ known_below (es ++ i ∷ [])
known_with g es (item.Group n) e h = cc
known_with g es (item.Type i) e h = known_is _ _
    (ap (λ (k : Known). k.booleans) h ∙ sym (append-nil _) ∙ sym (filter_map-append boolean_declared es (item.Type i ∷ [])))
    (ap (λ (k : Known). k.presets) h ∙ sym (append-nil _) ∙ sym (filter_map-append preset_declared es (item.Type i ∷ [])))
known_with g es (item.Alias i) e h = known_is _ _
    (ap (λ (k : Known). k.booleans) h ∙ sym (append-nil _) ∙ sym (filter_map-append boolean_declared es (item.Alias i ∷ [])))
    (ap (λ (k : Known). k.presets) h ∙ sym (append-nil _) ∙ sym (filter_map-append preset_declared es (item.Alias i ∷ [])))
known_with g es (item.Kind i) e h = known_is _ _
    (ap (λ (k : Known). k.booleans) h ∙ sym (append-nil _) ∙ sym (filter_map-append boolean_declared es (item.Kind i ∷ [])))
    (ap (λ (k : Known). k.presets) h ∙ sym (append-nil _) ∙ sym (filter_map-append preset_declared es (item.Kind i ∷ [])))
known_with g es (item.Format i) e h = known_is _ _
    (ap (λ (k : Known). k.booleans) h ∙ sym (append-nil _) ∙ sym (filter_map-append boolean_declared es (item.Format i ∷ [])))
    (ap (λ (k : Known). k.presets) h ∙ sym (append-nil _) ∙ sym (filter_map-append preset_declared es (item.Format i ∷ [])))
known_with g es (item.Inst i) e h = known_is _ _
    (ap (λ (k : Known). k.booleans) h ∙ sym (append-nil _) ∙ sym (filter_map-append boolean_declared es (item.Inst i ∷ [])))
    (ap (λ (k : Known). k.presets) h ∙ sym (append-nil _) ∙ sym (filter_map-append preset_declared es (item.Inst i ∷ [])))
known_with g es (item.Bool i) e h = known_is _ _
    (name_of_boolean g (bool_setting i) refl ∙ ap (λ (k : Known). k.booleans ++ (bool_setting i).name ∷ []) h
    ∙ sym (filter_map-append boolean_declared es (item.Bool i ∷ [])))
    (ap (λ (k : Known). k.presets) h ∙ sym (append-nil _) ∙ sym (filter_map-append preset_declared es (item.Bool i ∷ [])))
known_with g es (item.Num i) e h = known_is _ _
    (name_of_other g (num_setting i) refl ∙ ap (λ (k : Known). k.booleans) h ∙ sym (append-nil _)
    ∙ sym (filter_map-append boolean_declared es (item.Num i ∷ [])))
    (ap (λ (k : Known). k.presets) h ∙ sym (append-nil _) ∙ sym (filter_map-append preset_declared es (item.Num i ∷ [])))
known_with g es (item.Enum i) e h = known_is _ _
    (name_of_other g (enum_setting i) refl ∙ ap (λ (k : Known). k.booleans) h ∙ sym (append-nil _)
    ∙ sym (filter_map-append boolean_declared es (item.Enum i ∷ [])))
    (ap (λ (k : Known). k.presets) h ∙ sym (append-nil _) ∙ sym (filter_map-append preset_declared es (item.Enum i ∷ [])))
known_with g es (item.Preset i) e h = known_is _ _
    (ap (λ (k : Known). k.booleans) h ∙ sym (append-nil _) ∙ sym (filter_map-append boolean_declared es (item.Preset i ∷ [])))
    (name_of_preset g (preset_of (known_of g) i) ∙ ap (λ (k : Known). k.presets ++ (preset_of (known_of g) i).name ∷ []) h
    ∙ sym (filter_map-append preset_declared es (item.Preset i ∷ [])))

-- what is known of the group that is open is what its entries name
abbrev pub AreKnown : Option GroupDeclaration → Option (List Item) → Type 0
AreKnown g above = option_map known_of g ≡ option_map known_below above

-- an entry more
known_entry : (g : Option GroupDeclaration) (above : Option (List Item)) (i : Item) → is_group i ≡ false → AreKnown g above
    → AreKnown (option_map (λ (o : GroupDeclaration). with_item o i) g) (option_map (λ (es : List Item). es ++ i ∷ []) above)
known_entry None None i e h = refl
known_entry None (Some es) i e h = cc
known_entry (Some g) None i e h = cc
known_entry (Some g) (Some es) i e h = ap (λ (k : Known). Some k) (known_with g es i e cc)

pub known_more : (done : List GroupDeclaration) (g : Option GroupDeclaration) (above : Option (List Item)) (i : Item) → AreKnown g above
    → AreKnown (groups_after (groups_so_far done g) i).open_group (more_entries above i)
known_more done g above (item.Group n) h = refl
known_more done g above (item.Type i) h = known_entry g above (item.Type i) refl h
known_more done g above (item.Alias i) h = known_entry g above (item.Alias i) refl h
known_more done g above (item.Kind i) h = known_entry g above (item.Kind i) refl h
known_more done g above (item.Format i) h = known_entry g above (item.Format i) refl h
known_more done g above (item.Inst i) h = known_entry g above (item.Inst i) refl h
known_more done g above (item.Bool i) h = known_entry g above (item.Bool i) refl h
known_more done g above (item.Num i) h = known_entry g above (item.Num i) refl h
known_more done g above (item.Enum i) h = known_entry g above (item.Enum i) refl h
known_more done g above (item.Preset i) h = known_entry g above (item.Preset i) refl h

-- ---- the groups

-- a group with some entries, to which others come
abbrev continued : GroupDeclaration → List Item → List Item → GroupDeclaration
continued g above entries = record {
  name = g.name;
  settings = g.settings ++ filter_map setting_of entries;
  presets = g.presets ++ presets_below above entries;
}

-- the groups so far with the items that are left: those before the next group belong to the one that is open
abbrev pub resumed : List GroupDeclaration → Option GroupDeclaration → Option (List Item) → List Item → List GroupDeclaration
resumed done None above rest = done ++ groups_of rest
resumed done (Some g) None rest = done ++ g ∷ groups_of rest
resumed done (Some g) (Some above) rest = done ++ continued g above (before_group rest) ∷ groups_of rest

group_is : (g : GroupDeclaration) (settings : List SettingDeclaration) (presets : List PresetDeclaration) → settings ≡ g.settings
    → presets ≡ g.presets
    → (let r : GroupDeclaration = record { name = g.name; settings = settings; presets = presets } in r) ≡ g
group_is g settings presets h k =
    ap (λ (x : List SettingDeclaration). let r : GroupDeclaration = record { name = g.name; settings = x; presets = presets } in r) h
    ∙ ap (λ (x : List PresetDeclaration). let r : GroupDeclaration = record { name = g.name; settings = g.settings; presets = x } in r) k

-- nothing comes to it
ended : (g : GroupDeclaration) (above : List Item) → continued g above [] ≡ g
ended g above = group_is g _ _ (append-nil g.settings) (append-nil g.presets)

-- one entry comes to it, and then others
continued_more : (g : GroupDeclaration) (above : List Item) (i : Item) (more : List Item) → is_group i ≡ false
    → known_of g ≡ known_below above
    → continued (with_item g i) (above ++ i ∷ []) more ≡ continued g above (i ∷ more)
continued_more g above (item.Group n) more e h = cc
continued_more g above (item.Type i) more e h = refl
continued_more g above (item.Alias i) more e h = refl
continued_more g above (item.Kind i) more e h = refl
continued_more g above (item.Format i) more e h = refl
continued_more g above (item.Inst i) more e h = refl
continued_more g above (item.Bool i) more e h =
    group_is (continued g above (item.Bool i ∷ more)) _ _ (append_assoc g.settings (bool_setting i ∷ []) (filter_map setting_of more)) refl
continued_more g above (item.Num i) more e h =
    group_is (continued g above (item.Num i ∷ more)) _ _ (append_assoc g.settings (num_setting i ∷ []) (filter_map setting_of more)) refl
continued_more g above (item.Enum i) more e h =
    group_is (continued g above (item.Enum i ∷ more)) _ _ (append_assoc g.settings (enum_setting i ∷ []) (filter_map setting_of more)) refl
continued_more g above (item.Preset i) more e h =
    let later = presets_below (above ++ item.Preset i ∷ []) more in
    group_is (continued g above (item.Preset i ∷ more)) _ _ refl
    (append_assoc g.presets (preset_of (known_of g) i ∷ []) later ∙ ap (λ (k : Known). g.presets ++ preset_of k i ∷ later) h)

-- the items before the first group
one_taken : (n : ℕ) (i : Item) (is : List Item) → take (1 + n) (i ∷ is) ≡ i ∷ take n is
one_taken n i is = let e : 1 + n ≡ suc n = omega arith in rw e

after_entry : (i : Item) (is : List Item) → is_group i ≡ false → before_group (i ∷ is) ≡ i ∷ before_group is
after_entry (item.Group n) is e = cc
after_entry (item.Type i) is e = one_taken (position_or_len is_group is) (item.Type i) is
after_entry (item.Alias i) is e = one_taken (position_or_len is_group is) (item.Alias i) is
after_entry (item.Kind i) is e = one_taken (position_or_len is_group is) (item.Kind i) is
after_entry (item.Format i) is e = one_taken (position_or_len is_group is) (item.Format i) is
after_entry (item.Inst i) is e = one_taken (position_or_len is_group is) (item.Inst i) is
after_entry (item.Bool i) is e = one_taken (position_or_len is_group is) (item.Bool i) is
after_entry (item.Num i) is e = one_taken (position_or_len is_group is) (item.Num i) is
after_entry (item.Enum i) is e = one_taken (position_or_len is_group is) (item.Enum i) is
after_entry (item.Preset i) is e = one_taken (position_or_len is_group is) (item.Preset i) is

pub no_group_more : (i : Item) (is : List Item) → is_group i ≡ false → groups_of (i ∷ is) ≡ groups_of is
no_group_more (item.Group n) is e = cc
no_group_more (item.Type i) is e = refl
no_group_more (item.Alias i) is e = refl
no_group_more (item.Kind i) is e = refl
no_group_more (item.Format i) is e = refl
no_group_more (item.Inst i) is e = refl
no_group_more (item.Bool i) is e = refl
no_group_more (item.Num i) is e = refl
no_group_more (item.Enum i) is e = refl
no_group_more (item.Preset i) is e = refl

-- an entry comes to the group that is open
entry_step : (done : List GroupDeclaration) (g : Option GroupDeclaration) (above : Option (List Item)) (i : Item) (rest : List Item)
    → is_group i ≡ false → AreKnown g above
    → resumed done (option_map (λ (o : GroupDeclaration). with_item o i) g) (option_map (λ (es : List Item). es ++ i ∷ []) above) rest
    ≡ resumed done g above (i ∷ rest)
entry_step done None above i rest e h = ap (λ (gs : List GroupDeclaration). done ++ gs) (sym (no_group_more i rest e))
entry_step done (Some g) None i rest e h = cc
entry_step done (Some g) (Some es) i rest e h =
    let known : known_of g ≡ known_below es = cc in
    ap (λ (o : GroupDeclaration). done ++ o ∷ groups_of rest) (continued_more g es i (before_group rest) e known)
    ∙ ap (λ (is : List Item). done ++ continued g es is ∷ groups_of rest) (sym (after_entry i rest e))
    ∙ ap (λ (gs : List GroupDeclaration). done ++ continued g es (before_group (i ∷ rest)) ∷ gs) (sym (no_group_more i rest e))

-- `group` closes the one that is open
group_step : (done : List GroupDeclaration) (g : Option GroupDeclaration) (above : Option (List Item)) (n : Name) (rest : List Item)
    → AreKnown g above
    → resumed (groups_after (groups_so_far done g) (item.Group n)).done (groups_after (groups_so_far done g) (item.Group n)).open_group
    (Some []) rest
    ≡ resumed done g above (item.Group n ∷ rest)
group_step done None above n rest h = refl
group_step done (Some g) None n rest h = cc
group_step done (Some g) (Some es) n rest h =
    append_assoc done (g ∷ []) (groups_of (item.Group n ∷ rest))
    ∙ ap (λ (o : GroupDeclaration). done ++ o ∷ groups_of (item.Group n ∷ rest)) (sym (ended g es))

pub step : (done : List GroupDeclaration) (g : Option GroupDeclaration) (above : Option (List Item)) (i : Item) (rest : List Item)
    → AreKnown g above
    → resumed (groups_after (groups_so_far done g) i).done (groups_after (groups_so_far done g) i).open_group (more_entries above i) rest
    ≡ resumed done g above (i ∷ rest)
step done g above (item.Group n) rest h = group_step done g above n rest h
step done g above (item.Type i) rest h = entry_step done g above (item.Type i) rest refl h
step done g above (item.Alias i) rest h = entry_step done g above (item.Alias i) rest refl h
step done g above (item.Kind i) rest h = entry_step done g above (item.Kind i) rest refl h
step done g above (item.Format i) rest h = entry_step done g above (item.Format i) rest refl h
step done g above (item.Inst i) rest h = entry_step done g above (item.Inst i) rest refl h
step done g above (item.Bool i) rest h = entry_step done g above (item.Bool i) rest refl h
step done g above (item.Num i) rest h = entry_step done g above (item.Num i) rest refl h
step done g above (item.Enum i) rest h = entry_step done g above (item.Enum i) rest refl h
step done g above (item.Preset i) rest h = entry_step done g above (item.Preset i) rest refl h

-- ---- the items so far

-- the groups so far with the items that are left are those that all items declare
pub record AreGroupsSoFar (items : List Item) (place : ℕ) (done : List GroupDeclaration) (g : Option GroupDeclaration) : Type 0 where
  pub known : AreKnown g (last_entries (take place items))
  pub groups : resumed done g (last_entries (take place items)) (drop place items) ≡ groups_of items

-- an item more
pub one_more : (items : List Item) (place : ℕ) (done : List GroupDeclaration) (g : Option GroupDeclaration) (i : Item) (new : GroupsSoFar)
    → AreGroupsSoFar items place done g → slice_get items place ≡ Some i → new ≡ groups_after (groups_so_far done g) i
    → AreGroupsSoFar items (place + 1) new.done new.open_group
one_more items place done g i new h at e =
    let above = last_entries (take place items) in
    let last : last_entries (take (place + 1) items) ≡ more_entries above i =
    ap last_entries (take_next items place i at) ∙ last_more (take place items) i in
    let known : AreKnown (groups_after (groups_so_far done g) i).open_group (more_entries above i) = known_more done g above i h.known in
    let groups = step done g above i (drop (place + 1) items) h.known ∙ ap (resumed done g above) (sym (drop_next items place i at))
    ∙ h.groups in
    record {
      known = subst (λ (s : GroupsSoFar). AreKnown s.open_group (last_entries (take (place + 1) items))) (sym e)
          (subst (AreKnown (groups_after (groups_so_far done g) i).open_group) (sym last) known);
      groups = subst (λ (s : GroupsSoFar). resumed s.done s.open_group (last_entries (take (place + 1) items)) (drop (place + 1) items)
          ≡ groups_of items) (sym e)
          (ap (λ (o : Option (List Item)). resumed (groups_after (groups_so_far done g) i).done
          (groups_after (groups_so_far done g) i).open_group o
          (drop (place + 1) items)) last ∙ groups);
    }

-- after all of them
all_closed : (done : List GroupDeclaration) (g : Option GroupDeclaration) (above : Option (List Item)) → AreKnown g above
    → resumed done g above [] ≡ closed_by done g
all_closed done None above h = append-nil done
all_closed done (Some g) None h = cc
all_closed done (Some g) (Some es) h = ap (λ (o : GroupDeclaration). done ++ o ∷ []) (ended g es)

pub groups_said : (items : List Item) (place : ℕ) (done : List GroupDeclaration) (g : Option GroupDeclaration) → length items ≤ place
    → AreGroupsSoFar items place done g → closed_by done g ≡ groups_of items
groups_said items place done g l h =
    let above = last_entries (take place items) in
    sym (all_closed done g above h.known) ∙ sym (ap (resumed done g above) (drop_all place items l)) ∙ h.groups

pub no_groups : (items : List Item) → AreGroupsSoFar items 0 [] None
no_groups items = record { known = refl; groups = refl }
