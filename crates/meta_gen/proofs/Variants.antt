-- A derived comparison decides whether two values of an enum are the same, where that of each variant does of its fields.
use Rattle.std.proofs.Common.{◌≡◌, Bool, false, List, [], ◌∷◌, sym, ap, ◌∙◌}
use Rattle.std.specs.Bool.{Decides}
use Rattle.std.proofs.lemmas.Bool.{false≢true}
use mathlib.Core.Logic.{inl, inr}
use denote.Struct.Field.{Field}
use denote.Struct.Values.{Values}
use denote.Enum.Declared.{Record, Choice}
use denote.Enum.Compared.{Each, by}

-- each variant's test does
abbrev pub TestsDecide : (Fss : List (List Field)) → Each Bool Fss → Type 0
TestsDecide [] each = Unit {0}
TestsDecide (Fs ∷ Fss) each = ((x y : Values Fs) → Decides (each.0 x y) (x ≡ y)) × TestsDecide Fss each.1

choices_decide : (Fss : List (List Field)) (each : Each Bool Fss) → TestsDecide Fss each → (c d : Choice Fss)
    → Decides (by false false Fss each c d) (c ≡ d)
choices_decide [] each all c d = absurd c
choices_decide (Fs ∷ Fss) each all (inl x) (inl y) = (λ e. ap inl ((all.0 x y).0 e), λ e. (all.0 x y).1 (cc))
choices_decide (Fs ∷ Fss) each all (inl x) (inr y) = (λ e. absurd (false≢true e), λ e. absurd (cc))
choices_decide (Fs ∷ Fss) each all (inr x) (inl y) = (λ e. absurd (false≢true e), λ e. absurd (cc))
choices_decide (Fs ∷ Fss) each all (inr x) (inr y) =
    let rest = choices_decide Fss each.1 all.1 x y in
    (λ e. ap inr (rest.0 e), λ e. rest.1 (cc))

pub by_decides : (N : Record) (each : Each Bool N.parts) → TestsDecide N.parts each → (a b : N.D)
    → Decides (by false false N.parts each (N.as_values a) (N.as_values b)) (a ≡ b)
by_decides N each all a b =
    let choices = choices_decide N.parts each all (N.as_values a) (N.as_values b) in
    (λ e. sym (N.eta a) ∙ ap N.make (choices.0 e) ∙ N.eta b, λ e. choices.1 (ap N.as_values e))
