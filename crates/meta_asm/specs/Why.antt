-- The texts that also tell why a line is refused.
--     IsExplainedShort R M tables input is_rejection text      the short forms of an input, with what is told of a refusal
--     explained_in form                                        what is written over declarations
use Rattle.std.specs.Prelude.{ℕ, Bool, true, false, List}
use Rattle.meta_inst.specs.Tables.{TableContents}
use Rattle.meta_run.specs.Run.{Texts}
use Rattle.meta_verify.specs.Why.{IsExplainedVerdict, explained_verdicts}
use Rattle.meta_verify.specs.Wrong.{Replies}
use Rattle.meta_asm.specs.Reading.{Manners}
use Rattle.meta_asm.specs.Listing.{IsShortened}
use Rattle.meta_asm.specs.Form.{written_in}
use Rattle.meta_asm.specs.declared.form.Form.{Form}
use Rattle.meta_asm.specs.declared.form.Form.TheVariants.{Short, Explicit}

-- The short forms of the lines of an input, or, as a rejection, which is the first wrong one, and why, with what is told of a refusal.
abbrev pub IsExplainedShort : Replies → Manners → TableContents → List ℕ → Bool → List ℕ → Type 0
IsExplainedShort R M tables input false text = IsShortened R M input false text
IsExplainedShort R M tables input true text = IsExplainedVerdict R tables input true text

-- the texts that an input is written as in the form, as declarations mean, with what is told of a refusal by their tables
abbrev pub explained_in : Form → Texts
explained_in Short d input false text = written_in Short d input false text
explained_in Short d input true text = explained_verdicts d input true text
explained_in Explicit d input is_rejection text = written_in Explicit d input is_rejection text
