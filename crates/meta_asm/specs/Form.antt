-- The two forms that a list is written in.
use Rattle.std.specs.Prelude.{ℕ, List, [], ◌∷◌, codes}
use Rattle.meta_gen.specs.Reply.{AcceptedReply}
use Rattle.meta_run.specs.Run.{Texts}
use Rattle.meta_asm.specs.Manners.{IsMannerDeclared}
use Rattle.meta_asm.specs.Listing.{IsShortened, IsSpelled}
use Rattle.meta_asm.specs.declared.form.Form.{Form}
use Rattle.meta_asm.specs.declared.form.Form.TheVariants.{Short, Explicit}

-- the name of the form
abbrev pub form_name : Form → List ℕ
form_name Short = codes "short"
form_name Explicit = codes "explicit"

-- the words that ask for it: its name
abbrev pub words_for : Form → List (List ℕ)
words_for form = form_name form ∷ []

-- the texts that an input is written as in the form, as declarations mean
abbrev pub written_in : Form → Texts
written_in Short d input is_rejection text = IsShortened (AcceptedReply d.set) (IsMannerDeclared d.set) input is_rejection text
written_in Explicit d input is_rejection text = IsSpelled (AcceptedReply d.set) (IsMannerDeclared d.set) input is_rejection text
