use Rattle.std.proofs.Common.{◌≡◌, ◌↔◌, ◌+◌, true, false, List, [], ℕ, refl}
use Rattle.meta_build.specs.AllDeclared.{Declared}
use Rattle.meta_verify.specs.Verdict.{wrong_text}
use Rattle.meta_verify.specs.Why.{TellsMore}
use Rattle.meta_verify.specs.declared.reason.Reason.TheVariants.{Bad}
use Rattle.meta_asm.specs.Form.{written_in}
use Rattle.meta_asm.specs.Why.{explained_in}
use Rattle.meta_asm.specs.declared.form.Form.{Form}
use Rattle.meta_asm.specs.declared.form.Form.TheVariants.{Short, Explicit}
use Rattle.meta_asm.proofs.laws.explained_forms_are_forms.Goals as goal

pub returns-clause-written : goal.returns-clause-written
returns-clause-written c = by
  where
    by : (d : Declared) (form : Form) (input text : List ℕ)
        → (explained_in form d input false text ↔ written_in form d input false text)
    by d Short input text = (λ h. h, λ h. h)
    by d Explicit input text = (λ h. h, λ h. h)

pub returns-clause-rejected : goal.returns-clause-rejected
returns-clause-rejected c = by
  where
    by : (d : Declared) (form : Form) (input text : List ℕ) → explained_in form d input true text
        → (plain : List ℕ) × written_in form d input true plain × TellsMore plain text
    by d Short input text h = c.explained_verdicts_are_verdicts.ensures.rejected d input text h
    by d Explicit input text (n, first, is) = (wrong_text (n + 1) Bad, (n, first, refl), (n + 1, Bad, [], refl, is, λ other. refl))
