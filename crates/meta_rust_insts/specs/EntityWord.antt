-- The word by which a mapper's method names the entities of a Rust type.
--     last_part path         what stands after the last `::` of a path: `StackSlot` of `ir::StackSlot`
--     snake_case name        `stack_slot` of `StackSlot`
--     entity_word path       the word: `stack_slot` of `ir::StackSlot`, and `block_call` of `ir::Block` and `ir::BlockCall`
use Rattle.std.specs.Prelude.{ℕ, ◌&&◌, ◌||◌, Bool, false, List, [], ◌∷◌, ◌++◌, take, drop, if◌then◌else◌, codes}
use Rattle.std.specs.Char.{is_ascii_uppercase, to_ascii_lowercase}
use Rattle.meta_operands.specs.Texts.{same_text}

-- whether the bytes begin with `::`
abbrev pub begins_with_mark : List ℕ → Bool
begins_with_mark bytes = same_text (take 2 bytes) (codes "::")

-- what stands after the last `::` of these bytes, and the other part if they have no `::`
abbrev pub after_last : List ℕ → List ℕ → List ℕ
after_last other [] = other
after_last other (c ∷ cs) = after_last (if begins_with_mark (c ∷ cs) then drop 2 (c ∷ cs) else other) cs

-- the last part of a path, which is the whole path if it has no `::`
abbrev pub last_part : List ℕ → List ℕ
last_part path = after_last path path

-- what stands before a letter: a `_` before a capital, if a capital came before it
abbrev pub mark_before : Bool → ℕ → List ℕ
mark_before later c = if later && is_ascii_uppercase c then codes "_" else []

-- the rest of a name in small letters, after a capital or before the first, with a `_` before each capital but the first
abbrev pub snake_from : Bool → List ℕ → List ℕ
snake_from later [] = []
snake_from later (c ∷ cs) = mark_before later c ++ (to_ascii_lowercase c ∷ snake_from (later || is_ascii_uppercase c) cs)

-- the name in small letters, with a `_` before each capital but the first
abbrev pub snake_case : List ℕ → List ℕ
snake_case name = snake_from false name

-- blocks are mapped with their arguments, whether they have any or not
abbrev pub with_arguments : List ℕ → List ℕ
with_arguments word = if same_text word (codes "block") then codes "block_call" else word

abbrev pub entity_word : List ℕ → List ℕ
entity_word path = with_arguments (snake_case (last_part path))
