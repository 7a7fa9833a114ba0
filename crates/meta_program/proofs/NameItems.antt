-- The names of what items declare that Rust refuses have their items.
use Rattle.std.proofs.Common.{◌≡◌, ℕ, List, All, Some, slice_get, sym, ap, ◌∙◌}
use Rattle.meta_types.specs.declared.fault.Place.{Place}
use Rattle.meta_types.specs.declared.fault.Place.TheVariants.{Instruction, Format, Group, Entry}
use Rattle.meta_settings.specs.declared.proto.ProtoSpecificSetting.{ProtoSpecificSetting}
use Rattle.meta_settings.specs.declared.proto.ProtoSpecificSetting.TheVariants.{Bool as ABool, Enum as AnEnum, Num as ANum}
use Rattle.meta_settings.specs.declared.setting.SpecificSetting.TheVariants.{Enum}
use Rattle.meta_settings.specs.Layout.{PlacedSetting, Layout}
use Rattle.meta_settings.specs.LaidOut.{placed_specific, built_of}
use Rattle.meta_build.specs.BuiltDeclarations.{BuiltDeclarations, AreBuilt}
use Rattle.meta_file_syntax.specs.declared.items.Item.{Item}
use Rattle.meta_file_declare.specs.AllItems.{Declares}
use Rattle.meta_file_declare.proofs.FaultItems.{item_there}
use Rattle.meta_lists.proofs.Everywhere.{everywhere, at_place}
use Rattle.meta_lists.proofs.Mapped.{get_mapped}
use Rattle.meta_rust_names.specs.declared.refused.Part.{Part}
use Rattle.meta_rust_names.specs.declared.refused.Part.TheVariants as part
use Rattle.meta_rust_names.specs.declared.refused.RefusedName.{RefusedName}
use Rattle.meta_rust_names.specs.AllRefused.{refused_names}
use Rattle.meta_program.specs.Places.{setting_of, place_in_group, place_of_part}
use Rattle.meta_program.specs.NamedItems.{DeclaresLaid, DeclaresValue, DeclaresInGroup, DeclaresNamed, NameHasItem}
use Rattle.meta_program.proofs.NamesThere.{IsPartOf, IsThere, IsNamedThere, all_there}
use Rattle.meta_program.proofs.LaidDeclared.{laid_declared}

-- an enum is built of an enum with its values
enum_of : (k : ℕ) (p : ProtoSpecificSetting) (values : List (List ℕ)) → placed_specific k p ≡ Enum values → p ≡ AnEnum values
enum_of k (ABool default) values e = absurd (cc)
enum_of k (AnEnum others) values e = let same : others ≡ values = cc in ap (λ (vs : List (List ℕ)). AnEnum vs) same
enum_of k (ANum default) values e = absurd (cc)

module _ (items : List Item) (b : BuiltDeclarations) (declares : Declares items b.declared) (built : AreBuilt b) where
  -- the setting at a place of a group
  setting_item : (g n : ℕ) (x : Layout) (s : PlacedSetting) → slice_get b.groups g ≡ Some x → slice_get x.settings n ≡ Some s
      → (k : ℕ) × (place_in_group items g (Some n) ≡ Some k) × DeclaresLaid items b.groups k g n
  setting_item g n x s at stands = laid_declared items b.declared.groups b.groups g n x s declares.groups built.groups at stands

  -- its value
  value_of : (k g n v : ℕ) (x : Layout) (s : PlacedSetting) (values : List (List ℕ)) (value : List ℕ) → slice_get b.groups g ≡ Some x
      → slice_get x.settings n ≡ Some s → s.specific ≡ Enum values → slice_get values v ≡ Some value → DeclaresLaid items b.groups k g n
      → DeclaresValue items b.groups k g n v
  value_of k g n v x s values value at stands has there laid =
      let same_layout : laid.layout ≡ x = let e = sym laid.built ∙ at in cc in
      let same : laid.placed ≡ s =
      let e = sym laid.stands ∙ ap (λ (y : Layout). slice_get y.settings n) same_layout ∙ stands in cc in
      record {
        laid = laid;
        values = values;
        value = value;
        has = enum_of laid.boolean laid.setting.specific values
            (ap (λ (y : PlacedSetting). y.specific) (sym laid.is) ∙ ap (λ (y : PlacedSetting). y.specific) same ∙ has);
        stands = there;
      }

  in_group : (g : ℕ) (x : Layout) (p : Part) → slice_get b.groups g ≡ Some x → IsPartOf x p
      → (k : ℕ) × (place_in_group items g (setting_of p) ≡ Some k) × DeclaresInGroup items b k g p
  in_group g x part.Name at h =
      let declared = get_mapped built_of b.declared.groups g x (ap (λ (ls : List Layout). slice_get ls g) (sym built.groups) ∙ at) in
      item_there items b.declared declares (Group g) (declared.0, declared.1)
  in_group g x (part.Input n) at h = absurd h
  in_group g x (part.InputType n) at h = absurd h
  in_group g x (part.InputDoc n) at h = absurd h
  in_group g x (part.Output n) at h = absurd h
  in_group g x (part.OutputDoc n) at h = absurd h
  in_group g x part.Doc at h = absurd h
  in_group g x part.Control at h = absurd h
  in_group g x part.ControlDoc at h = absurd h
  in_group g x (part.Field n) at h = absurd h
  in_group g x (part.FieldType n) at h = absurd h
  in_group g x (part.Setting n) at h = setting_item g n x h.0 at h.1
  in_group g x (part.SettingType n) at h = setting_item g n x h.0 at h.1
  in_group g x (part.Value n v) at h =
      let found = setting_item g n x h.0 at h.1 in
      (found.0, found.1, value_of found.0 g n v x h.0 h.2 h.4 at h.1 h.3 h.5 found.2)

  item_of : (place : Place) (p : Part) → IsThere b place p
      → (k : ℕ) × (place_of_part items place (setting_of p) ≡ Some k) × DeclaresNamed items b k place p
  item_of (Instruction i) p h =
      let of = built.instructions.each h.0 h.2 h.3 in item_there items b.declared declares (Instruction i) (h.0, h.1, of.builder, of.at)
  item_of (Format f) p h = item_there items b.declared declares (Format f) h
  item_of (Group g) p h = in_group g h.0 p h.1 h.2
  item_of (Entry g e) p h = absurd h

pub names_have_items : (items : List Item) (b : BuiltDeclarations) → Declares items b.declared → AreBuilt b
    → All (NameHasItem items b) (refused_names b)
names_have_items items b declares built =
    everywhere (refused_names b) (λ k name at. has_item name (at_place (IsNamedThere b) (refused_names b) k name (all_there b) at))
  where
    has_item : (name : RefusedName) → IsNamedThere b name → NameHasItem items b name
    has_item name there =
        let found = item_of items b declares built name.place name.part there in
        record { place = found.0; item = found.1; declares = found.2 }
