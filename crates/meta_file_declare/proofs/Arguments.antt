-- Each name of a preset has its argument.
use Rattle.std.proofs.Common.{◌≡◌, ◌∙◌, ℕ, Bool, true, false, cond, List, [], ◌∷◌, Option, Some, None, map, take, refl, sym, ap}
use Rattle.std.specs.Prelude.{is_none, option_map}
use Rattle.std.specs.List.{slice_get, filter_map, find, cons_option}
use Rattle.std.proofs.lemmas.Option.{slice_get_within}
use Rattle.meta_file_syntax.specs.declared.name.Name.{Name}
use Rattle.meta_file_syntax.specs.declared.items.PresetItem.{PresetItem}
use Rattle.meta_file_syntax.specs.declared.items.Item.{Item}
use Rattle.meta_file_syntax.specs.declared.items.Item.TheVariants as item
use Rattle.meta_file_syntax.specs.Named.{name_bytes}
use Rattle.meta_settings.specs.declared.index.PresetType.{PresetType}
use Rattle.meta_build.specs.AllDeclared.{Declared}
use Rattle.meta_file_types.specs.declared.refused.Reason.TheVariants.{NoEntry}
use Rattle.meta_file_declare.specs.Texts.{names_in}
use Rattle.meta_file_declare.specs.Named.{Known, meant}
use Rattle.meta_file_declare.specs.Wrong.{wrong_if, wrong_with, known_after}
use Rattle.meta_file_declare.specs.Said.{preset_of}
use Rattle.meta_file_declare.specs.AllItems.{Declares}
use Rattle.meta_file_declare.proofs.Folding.{groups_right}

-- one name that stands for something, before others that do
one_found : (known : Known) (n : Name) (later : Option Name) (meanings : List (Option PresetType)) (found : List PresetType)
    (o : Option PresetType)
    → meant known (name_bytes n) ≡ o → (later ≡ None → map (λ (a : PresetType). Some a) found ≡ meanings)
    → cond (is_none o) (Some n) later ≡ None
    → map (λ (a : PresetType). Some a) (cons_option o found) ≡ meant known (name_bytes n) ∷ meanings
one_found known n later meanings found None e rest h = cc
one_found known n later meanings found (Some a) e rest h =
    ap (λ (os : List (Option PresetType)). Some a ∷ os) (rest h) ∙ ap (λ (o : Option PresetType). o ∷ meanings) (sym e)

found_in : (known : Known) (names : List Name) → find (λ (n : Name). is_none (meant known (name_bytes n))) names ≡ None
    → map (λ (a : PresetType). Some a) (filter_map (meant known) (names_in names)) ≡ map (meant known) (names_in names)
found_in known [] h = refl
found_in known (n ∷ ns) h =
    one_found known n (find (λ (m : Name). is_none (meant known (name_bytes m))) ns) (map (meant known) (names_in ns))
    (filter_map (meant known) (names_in ns)) (meant known (name_bytes n)) refl (found_in known ns) h

-- nothing is wrong with its names
right_names : (b : Bool) (o : Option Name) → wrong_if b (option_map NoEntry o) ≡ None → o ≡ None
right_names true None h = refl
right_names true (Some n) h = cc
right_names false o h = cc

pub arguments_found : (items : List Item) (d : Declared) (k : ℕ) (i : PresetItem) (known : Known) → Declares items d
    → slice_get items k ≡ Some (item.Preset i) → known_after (take k items) ≡ Some known
    → map (λ (a : PresetType). Some a) (preset_of known i).args ≡ map (meant known) (names_in i.args)
arguments_found items d k i known s at knows =
    let none = groups_right items k (item.Preset i) at (s.right k (slice_get_within items k (item.Preset i) at)) in
    let here : wrong_with (Some known) (item.Preset i) ≡ None = ap (λ (o : Option Known). wrong_with o (item.Preset i)) (sym knows)
    ∙ none in
    found_in known i.args (right_names _ _ here)
