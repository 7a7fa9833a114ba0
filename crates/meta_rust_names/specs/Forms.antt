-- The forms of a name: `x` and `r#x` are one identifier.
--     has_form name text      a text is a form of the name
--     is_named word name      the identifier is that word
--     is_numbered stem count name      it is the stem with a number below the count
--     meets known name        a form of the name is known
use Rattle.std.specs.Prelude.{ℕ, Bool, ◌||◌, List, ◌++◌, codes}
use Rattle.std.specs.List.{list_any, range_with_len}
use Rattle.std.specs.Fmt.{decimal}
use Rattle.meta_operands.specs.Texts.{same_text}

-- the raw form of a name: `r#in`
abbrev pub raw_form : List ℕ → List ℕ
raw_form name = codes "r#" ++ name

-- whether a text is a form of the name
abbrev pub has_form : List ℕ → List ℕ → Bool
has_form name text = same_text name text || same_text (raw_form name) text

-- whether the identifier is that word
abbrev pub is_named : List ℕ → List ℕ → Bool
is_named word name = has_form word name

-- whether it is the stem and a number from 0 on, below the count
abbrev pub is_numbered : List ℕ → ℕ → List ℕ → Bool
is_numbered stem count name = list_any (λ number. is_named (stem ++ decimal number) name) (range_with_len 0 count)

-- whether a form of the name is known
abbrev pub meets : (List ℕ → Bool) → List ℕ → Bool
meets known name = known name || known (raw_form name)
