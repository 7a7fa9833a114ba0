-- The messages on the names of a file that Rust refuses.
--     why_said names name                      why, as a warning or a refusal
--     told path names items lines name         the message, `PATH:LINE: WHY`, if there is an item
--     HasLine items lines name                 there is an item, and it has a line
--     AreTold path names text d messages       the messages of all such names
use Rattle.std.specs.Prelude.{◌≡◌, ℕ, List, ◌++◌, Option, Some, option_map, option_and_then, slice_get, map, codes}
use Rattle.meta_file_syntax.specs.declared.items.Item.{Item}
use Rattle.meta_build.specs.AllDeclared.{Declared}
use Rattle.meta_build.specs.BuiltDeclarations.{BuiltDeclarations, AreBuilt}
use Rattle.meta_file_load.specs.Why.{located}
use Rattle.meta_rust_names.specs.Texts.{refused_text}
use Rattle.meta_rust_names.specs.declared.refused.RefusedName.{RefusedName}
use Rattle.meta_rust_names.specs.AllRefused.{refused_names}
use Rattle.meta_program.specs.File.{AreReadOf}
use Rattle.meta_program.specs.Places.{place_of_name}
use Rattle.meta_program.specs.ShownPath.{shown_path}
use Rattle.meta_program.specs.declared.plan.Names.{Names}
use Rattle.meta_program.specs.declared.plan.Names.TheVariants.{Warn, Refuse}

-- which part of an item has the name, and why Rust refuses it
abbrev pub why_said : Names → RefusedName → List ℕ
why_said Warn name = codes "warning: " ++ refused_text name
why_said Refuse name = refused_text name

-- the message, after the path as it is shown: which part of the item in its line has a name that Rust refuses, and why
abbrev pub told : List ℕ → Names → List Item → List ℕ → RefusedName → Option (List ℕ)
told path names items lines name =
    option_map (λ line. located path line (why_said names name)) (option_and_then (slice_get lines) (place_of_name items name))

-- an item declares what has the name, and this is its line
pub record HasLine (items : List Item) (lines : List ℕ) (name : RefusedName) : Type 0 where
  pub place : ℕ
  pub line : ℕ
  pub item : place_of_name items name ≡ Some place
  pub stands : slice_get lines place ≡ Some line

-- these are the messages, in order, of all names that Rust refuses, of the declarations that the text makes: each has one
pub record AreTold (path : List ℕ) (names : Names) (text : List ℕ) (d : Declared) (messages : List (List ℕ)) : Type 0 where
  pub items : List Item
  pub lines : List ℕ
  pub read : AreReadOf text items lines
  pub built : BuiltDeclarations
  pub are_built : AreBuilt built
  pub of : built.declared ≡ d
  pub are : map Some messages ≡ map (told (shown_path path) names items lines) (refused_names built)
