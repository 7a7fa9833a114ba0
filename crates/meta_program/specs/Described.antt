-- What `describe` writes of declarations.
--     undescribed_line       the line that no file describes them
--     IsUndescribed d out    it is that line, and the declarations aren't settings alone
--     AreDescribed           the text of a file that declares the same, or, as a rejection, that line
use Rattle.std.specs.Prelude.{◌≡◌, ℕ, Bool, true, false, List, [], ◌∷◌, ◌++◌, codes}
use Rattle.meta_build.specs.AllDeclared.{Declared}
use Rattle.meta_file_describe.specs.Described.{IsDescription, HoldSettingsAlone}
use Rattle.meta_run.specs.Run.{Texts}

-- the line if the items that would be written declare something else
abbrev pub undescribed_line : List ℕ
undescribed_line = codes "undescribed: no file of this form declares the same" ++ 10 ∷ []

-- the text is that line, and the declarations aren't settings alone, whose comments are UTF-8
pub record IsUndescribed (d : Declared) (out : List ℕ) : Type 0 where
  pub line : out ≡ undescribed_line
  pub not_alone : HoldSettingsAlone d → ⊥

-- a text whose items declare something with the same tables and texts, or, as a rejection, the line that there is none
abbrev pub AreDescribed : Declared → Bool → List ℕ → Type 0
AreDescribed d false out = IsDescription out d
AreDescribed d true out = IsUndescribed d out

abbrev pub described : Texts
described d input is_rejection out = AreDescribed d is_rejection out
