-- The messages of names have the lines of their items.
use Rattle.std.proofs.Common.{◌≡◌, ℕ, List, All, Contains, Option, Some, None, slice_get, map, refl, sym, ap, ◌∙◌, subst}
use Rattle.std.specs.Prelude.{option_map, option_and_then}
use Rattle.std.proofs.lemmas.Option.{same_Some, slice_get_within, get_or_from_slice_get}
use Rattle.meta_lists.proofs.Everywhere.{everywhere, at_place}
use Rattle.meta_lists.proofs.Mapped.{get_map, get_mapped}
use Rattle.meta_build.specs.AllDeclared.{Declared}
use Rattle.meta_file_syntax.specs.declared.items.Item.{Item}
use Rattle.meta_file_declare.specs.AllItems.{Declares as DeclaresItems}
use Rattle.meta_file_load.specs.Why.{located}
use Rattle.meta_rust_names.specs.declared.refused.RefusedName.{RefusedName}
use Rattle.meta_rust_names.specs.AllRefused.{refused_names}
use Rattle.meta_program.specs.File.{Declares}
use Rattle.meta_program.proofs.Texts.{IsReadExactly, one_reading}
use Rattle.meta_program.specs.ShownPath.{shown_path}
use Rattle.meta_program.specs.Told.{why_said, told, AreTold}
use Rattle.meta_program.specs.NamedItems.{NameHasItem, HasItsLine}
use Rattle.meta_program.specs.declared.plan.Names.{Names}
use Rattle.meta_program.proofs.NameItems.{names_have_items}

-- what was made of a line that is there
line_there : {X : Type 0} (f : ℕ → X) (o : Option ℕ) (x : X) → option_map f o ≡ Some x → (line : ℕ) × (o ≡ Some line) × (f line ≡ x)
line_there f None x e = absurd (cc)
line_there f (Some line) x e = (line, refl, same_Some (f line) x e)

module _ (path : List ℕ) (names : Names) (text : List ℕ) (d : Declared) (messages : List (List ℕ))
    (t : AreTold path names text d messages) where
  line_of : (name : RefusedName) (message : List ℕ) → Contains (refused_names t.built) name → NameHasItem t.items t.built name
      → told (shown_path path) names t.items t.lines name ≡ Some message → HasItsLine path names text d message
  line_of name message refused has e =
      let f : ℕ → List ℕ = λ line. located (shown_path path) line (why_said names name) in
      let at : option_map f (slice_get t.lines has.place) ≡ Some message =
      ap (λ (o : Option ℕ). option_map f (option_and_then (slice_get t.lines) o)) (sym has.item) ∙ e in
      let found = line_there f (slice_get t.lines has.place) message at in
      record {
        items = t.items;
        lines = t.lines;
        read = t.read;
        built = t.built;
        are_built = t.are_built;
        of = t.of;
        name = name;
        refused = refused;
        has = has;
        line = found.0;
        stands = found.1;
        is = sym found.2;
      }

  contained : (k : ℕ) (name : RefusedName) → slice_get (refused_names t.built) k ≡ Some name → Contains (refused_names t.built) name
  contained k name at =
      (k, slice_get_within (refused_names t.built) k name at, get_or_from_slice_get (refused_names t.built) k name name at)

  message_line : (k : ℕ) (message : List ℕ) → All (NameHasItem t.items t.built) (refused_names t.built)
      → slice_get messages k ≡ Some message → HasItsLine path names text d message
  message_line k message all at =
      let here : slice_get (map (told (shown_path path) names t.items t.lines) (refused_names t.built)) k ≡ Some (Some message) =
      ap (λ (os : List (Option (List ℕ))). slice_get os k) (sym t.are) ∙ get_map (λ (m : List ℕ). Some m) messages k message at in
      let from = get_mapped (told (shown_path path) names t.items t.lines) (refused_names t.built) k (Some message) here in
      let has = at_place (NameHasItem t.items t.built) (refused_names t.built) k from.0 all from.1 in
      line_of from.0 message (contained k from.0 from.1) has from.2

pub messages_have_lines : IsReadExactly → (path text : List ℕ) (names : Names) (d : Declared) (messages : List (List ℕ)) → Declares text d
    → AreTold path names text d messages → All (HasItsLine path names text d) messages
messages_have_lines exactly path text names d messages h t =
    let declares : DeclaresItems t.items d =
    subst (λ (is : List Item). DeclaresItems is d) (one_reading exactly text h.items t.items h.reads t.read.reads) h.declared in
    let of_built = subst (λ (e : Declared). DeclaresItems t.items e) (sym t.of) declares in
    everywhere messages
    (λ k message at. message_line path names text d messages t k message (names_have_items t.items t.built of_built t.are_built) at)
