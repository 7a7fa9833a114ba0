-- The line that a file is missing is plain, since the first word is one of three.
use Rattle.std.proofs.Common.{◌≡◌, ◌∙◌, ◌<◌, ℕ, true, inl, inr, List, [], ◌∷◌, ◌++◌, length, slice_get, Some}
use Rattle.std.proofs.Common.{refl, sym, ap, subst, arith}
use Rattle.std.proofs.lemmas.Option.{same_Some}
use Rattle.std.specs.Prelude.{codes}
use Rattle.std.specs.List.{list_all}
use Rattle.meta_command_line.specs.Usage.{IsPlain}
use Rattle.meta_program.specs.declared.plan.Over.{Over}
use Rattle.meta_program.specs.declared.plan.Over.TheVariants.{Shared, File}
use Rattle.meta_program.proofs.ListRows.{is_plain_byte, plain_text}
use Rattle.meta_program.specs.Wrong.{MissFile, IsFileMissing, SaysFileMissing}
use Rattle.meta_program.specs.Over.{asked_of}
use Rattle.meta_program.proofs.Words.{first}

-- a line that is this text
pub plain_line : (text line : List ℕ) → list_all is_plain_byte text ≡ true → line ≡ text → IsPlain line
plain_line text line plain is = subst IsPlain (sym is) (plain_text text plain)

abbrev pub missing_text : List ℕ → List ℕ
missing_text name = codes "a file is missing for '" ++ (name ++ codes "'")

-- the name is the first word
name_is : (words : List (List ℕ)) (name word : List ℕ) → slice_get words 0 ≡ Some name → first words ≡ word → name ≡ word
name_is [] name word at is = absurd (cc)
name_is (w ∷ words) name word at is = sym (same_Some _ _ at) ∙ is

-- what is said of a name, if the first word is this one
missing_is : (words : List (List ℕ)) (line word : List ℕ) → SaysFileMissing words line → first words ≡ word → line ≡ missing_text word
missing_is words line word h is = h.is ∙ ap missing_text (name_is words h.name word h.first is)

missing_check : (words : List (List ℕ)) (line : List ℕ) → SaysFileMissing words line → first words ≡ codes "check" → IsPlain line
missing_check words line h is =
    plain_line (missing_text (codes "check")) line refl (missing_is words line (codes "check") h is)

pub missing_plain : (words : List (List ℕ)) (line : List ℕ) → MissFile words → SaysFileMissing words line → IsPlain line
missing_plain words line (inl (option, inl is, e)) h =
    plain_line (missing_text (codes "-d")) line refl (missing_is words line (codes "-d") h (ap first e ∙ is))
missing_plain words line (inl (option, inr is, e)) h =
    plain_line (missing_text (codes "--declarations")) line refl (missing_is words line (codes "--declarations") h (ap first e ∙ is))
missing_plain words line (inr (inl e)) h = missing_check words line h (ap first e)
missing_plain words line (inr (inr (inl e))) h = missing_check words line h (ap first e)
missing_plain words line (inr (inr (inr e))) h = missing_check words line h (ap first e)

-- there is a first word
pub missing_within : (words : List (List ℕ)) → MissFile words → 0 < length words
missing_within words (inl (option, is, e)) = omega (arith, ap length e)
missing_within words (inr (inl e)) = omega (arith, ap length e)
missing_within words (inr (inr (inl e))) = omega (arith, ap length e)
missing_within words (inr (inr (inr e))) = omega (arith, ap length e)

pub missed : (over : Over) → IsFileMissing over → MissFile (asked_of over)
missed (Shared words) h = h
missed (File path words) h = absurd h
