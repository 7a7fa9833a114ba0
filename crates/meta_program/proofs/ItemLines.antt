-- The item that is wrong, that a fault is about or that declares what has a name is among the items, and has a line.
use Rattle.std.proofs.Common.{◌≡◌, ◌∙◌, ◌<◌, ℕ, List, All, Some, Ok, Err, length, slice_get, take, sym, subst, arith}
use Rattle.std.specs.Prelude.{Result}
use Rattle.std.proofs.lemmas.Option.{option_and_then_some, same_Some, slice_get_within}
use Rattle.meta_lists.proofs.Everywhere.{everywhere, at_place}
use Rattle.meta_lists.proofs.Places.{get_there}
use Rattle.meta_types.specs.declared.fault.Place.{Place}
use Rattle.meta_types.specs.declared.fault.Place.TheVariants.{Instruction, Format, Group, Entry}
use Rattle.meta_types.specs.declared.fault.DefinitionError.{DefinitionError}
use Rattle.meta_build.specs.AllDeclared.{Declared}
use Rattle.meta_build.specs.BuiltDeclarations.{BuiltDeclarations, AreBuilt}
use Rattle.meta_file_syntax.specs.declared.items.Item.{Item}
use Rattle.meta_file_syntax.specs.declared.items.Item.TheVariants as item
use Rattle.meta_file_reader.specs.declared.fault.ReadError.{ReadError}
use Rattle.meta_file_reader.specs.declared.fault.ReadError.TheVariants as reads
use Rattle.meta_file_reader.specs.declared.fault.Refusal.{Refusal}
use Rattle.meta_file_reader.specs.Refused.{GivesItems}
use Rattle.meta_file_types.specs.declared.refused.Reason.{Reason}
use Rattle.meta_file_declare.specs.AllItems.{Declares as DeclaresItems, IsFirstWrong, wrong_below}
use Rattle.meta_file_declare.specs.Places.{place_of_fault}
use Rattle.meta_file_declare.specs.Faults.{DeclaresAt, HasItsItem}
use Rattle.meta_rust_names.specs.declared.refused.Part.{Part}
use Rattle.meta_rust_names.specs.declared.refused.Part.TheVariants as part
use Rattle.meta_rust_names.specs.declared.refused.RefusedName.{RefusedName}
use Rattle.meta_rust_names.specs.AllRefused.{refused_names}
use Rattle.meta_program.specs.File.{Declares, AreReadOf}
use Rattle.meta_program.specs.Told.{HasLine}
use Rattle.meta_program.specs.NamedItems.{DeclaresInGroup, DeclaresNamed, NameHasItem}
use Rattle.meta_program.proofs.Texts.{IsReadExactly, one_reading}
use Rattle.meta_program.proofs.NameItems.{names_have_items}

-- a text that reads as items isn't refused
pub never_refused : {X : Type 0} (view : X → List Item) (text : List ℕ) (items : List Item) (result : Result X ReadError) (r : Refusal)
    → result ≡ Err (reads.Refused r) → GivesItems view text result (Ok items) → ⊥
never_refused view text items (Ok x) r is h = absurd (cc)
never_refused view text items (Err reads.Memory) r is h = absurd (cc)
never_refused view text items (Err (reads.Refused q)) r is h = let no = h.1 in absurd (cc)

-- the first wrong item
pub wrong_within : (items : List Item) (place : ℕ) (reason : Reason) → IsFirstWrong items place reason → place < length items
wrong_within items place reason h =
    option_and_then_some (wrong_below (take place items)) (slice_get items place) reason h.wrong
    (λ i at wrong. slice_get_within items place i at)

-- the item that declares what stands at a place
declared_within : (items : List Item) (d : Declared) (k : ℕ) (p : Place) → DeclaresAt items d k p → k < length items
declared_within items d k (Instruction i) h = slice_get_within items k (item.Inst h.2.inst) h.2.at
declared_within items d k (Format f) h = slice_get_within items k (item.Format h.format) h.at
declared_within items d k (Group g) h = slice_get_within items k (item.Group h.name) h.at
declared_within items d k (Entry g e) h = slice_get_within items k h.item h.at

-- the item that a fault is about
pub fault_within : (items : List Item) (d : Declared) (e : DefinitionError) (k : ℕ) → HasItsItem items d e
    → place_of_fault items e ≡ Some k → k < length items
fault_within items d e k h is =
    let same : h.place ≡ k = same_Some h.place k (sym h.item ∙ is) in
    let within : h.place < length items = declared_within items d h.place h.named h.declares in
    omega (arith, same, within)

-- the item that declares what has a name
in_group_within : (items : List Item) (b : BuiltDeclarations) (k g : ℕ) (p : Part) → DeclaresInGroup items b k g p → k < length items
in_group_within items b k g part.Name h = declared_within items b.declared k (Group g) h
in_group_within items b k g (part.Input n) h = absurd h
in_group_within items b k g (part.InputType n) h = absurd h
in_group_within items b k g (part.InputDoc n) h = absurd h
in_group_within items b k g (part.Output n) h = absurd h
in_group_within items b k g (part.OutputDoc n) h = absurd h
in_group_within items b k g part.Doc h = absurd h
in_group_within items b k g part.Control h = absurd h
in_group_within items b k g part.ControlDoc h = absurd h
in_group_within items b k g (part.Field n) h = absurd h
in_group_within items b k g (part.FieldType n) h = absurd h
in_group_within items b k g (part.Setting n) h = slice_get_within items k h.item h.at
in_group_within items b k g (part.SettingType n) h = slice_get_within items k h.item h.at
in_group_within items b k g (part.Value n v) h = let laid = h.laid in slice_get_within items k laid.item laid.at

named_within : (items : List Item) (b : BuiltDeclarations) (k : ℕ) (p : Place) (q : Part) → DeclaresNamed items b k p q → k < length items
named_within items b k (Instruction i) q h = declared_within items b.declared k (Instruction i) h
named_within items b k (Format f) q h = declared_within items b.declared k (Format f) h
named_within items b k (Group g) q h = in_group_within items b k g q h
named_within items b k (Entry g e) q h = absurd h

-- its line, if each item has one
has_line : (items : List Item) (lines : List ℕ) (b : BuiltDeclarations) (name : RefusedName) → length lines ≡ length items
    → NameHasItem items b name → HasLine items lines name
has_line items lines b name each h =
    let within : h.place < length items = named_within items b h.place name.place name.part h.declares in
    let there = get_there lines h.place (omega (arith, within, each)) in
    record { place = h.place; line = there.0; item = h.item; stands = there.1 }

-- that of each name which Rust refuses in what a text declares
pub names_have_lines : IsReadExactly → (text : List ℕ) (items : List Item) (lines : List ℕ) (b : BuiltDeclarations)
    → Declares text b.declared → AreBuilt b → AreReadOf text items lines → length lines ≡ length items
    → (names : List RefusedName) → names ≡ refused_names b → All (HasLine items lines) names
names_have_lines exactly text items lines b declares built read each names is =
    let same = one_reading exactly text declares.items items declares.reads read.reads in
    let said : DeclaresItems items b.declared =
    subst (λ (js : List Item). DeclaresItems js b.declared) same declares.declared in
    let all = names_have_items items b said built in
    everywhere names (λ k name at. has_line items lines b name each
    (at_place (NameHasItem items b) (refused_names b) k name all
    (subst (λ (ns : List RefusedName). slice_get ns k ≡ Some name) is at)))
