-- The camel case of a name.
use Rattle.std.specs.Prelude.{ℕ, ◌==◌, Bool, true, false, List, [], ◌∷◌, if◌then◌else◌}
use Rattle.std.specs.Char.{to_ascii_uppercase}

-- the byte itself, or its capital where it is a letter `a` to `z` and at_start is set
abbrev pub capital_at : Bool → ℕ → ℕ
capital_at at_start c = if at_start then to_ascii_uppercase c else c

-- Each `_` is dropped. A letter `a` to `z` becomes a capital where it is first (at_start) or follows a `_`.
abbrev pub camel_from : Bool → List ℕ → List ℕ
camel_from at_start [] = []
camel_from at_start (c ∷ cs) =
    if c == 95 then camel_from true cs
    else (capital_at at_start c ∷ camel_from false cs)

-- the camel case of a name: `dynamic_stack_addr` is `DynamicStackAddr`
abbrev pub camel_case_of : List ℕ → List ℕ
camel_case_of name = camel_from true name
