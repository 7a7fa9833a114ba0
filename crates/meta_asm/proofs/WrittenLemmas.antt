-- What is read of the words that are written apart from the results.
use Rattle.std.proofs.Common.{◌≡◌, ℕ, ◌<◌, List, [], ◌∷◌, map, length, Option, None, Some, codes, sym, ap, ◌∙◌}
use Rattle.std.specs.List.{join_with_byte}
use Rattle.std.specs.Option.{option_map, unwrap_or}
use Rattle.meta_types.specs.TypeParts.{number_of}
use Rattle.meta_verify.specs.Statement as spec
use Rattle.meta_verify.specs.Statement.{CanApply, value_text, list_text}
use Rattle.meta_verify.specs.Numbers.{applied, HasNumbers}
use Rattle.meta_verify.specs.declared.statement.Application.{Application}
use Rattle.meta_verify.proofs.StatementLemmas.{one_statement}
use Rattle.meta_verify.proofs.EnvironmentLemmas.{number_back}
use Rattle.meta_asm.specs.Short.{Manner, control_written}
use Rattle.meta_asm.specs.PlainNames.{IsPlain}
use Rattle.meta_asm.specs.Written.{HasWritten}
use Rattle.meta_asm.specs.declared.written.Written.{Written}
use Rattle.meta_asm.proofs.LineLemmas.{shown, shown_states}

-- what stands after the point, and `-` if there is nothing
pub written_word : {X : Type 0} (now : X → List ℕ) (o : Option X) (w : Option (List ℕ)) (d : X) → now d ≡ codes "-" → option_map now o ≡ w
    → now (unwrap_or o d) ≡ unwrap_or w (codes "-")
written_word now None None d dash e = dash
written_word now None (Some w) d dash e = absurd (cc)
written_word now (Some x) None d dash e = absurd (cc)
written_word now (Some x) (Some w) d dash e = let is : now x ≡ w = cc in is

module _ (m : Manner) (a : spec.Application) (can : CanApply a) (plain : IsPlain a.name) (some : 0 < length a.name)
    (line name control values : List ℕ)
    (name_is : name ≡ a.name) (control_is : control ≡ unwrap_or (control_written m.leaves_out a.control a.second) (codes "-"))
    (values_are : values ≡ list_text (map value_text a.values))
    (is : line ≡ join_with_byte 32 (codes "line" ∷ name ∷ control ∷ codes "-" ∷ values ∷ [])) where
  -- the line states what is shown
  pub states_shown : spec.IsStatement line (spec.OfApplication (shown m.leaves_out a))
  states_shown = shown_states m.leaves_out a line can plain some
      (is ∙ ap (λ n. join_with_byte 32 (codes "line" ∷ n ∷ control ∷ codes "-" ∷ values ∷ [])) name_is
      ∙ ap (λ c. join_with_byte 32 (codes "line" ∷ a.name ∷ c ∷ codes "-" ∷ values ∷ [])) control_is
      ∙ ap (λ v. join_with_byte 32 (codes "line" ∷ a.name ∷ unwrap_or (control_written m.leaves_out a.control a.second) (codes "-")
      ∷ codes "-" ∷ v ∷ [])) values_are)

  -- what is shown is what is read
  pub has_written : (b : Application) → spec.IsStatement line (spec.OfApplication (applied b)) → HasNumbers b → (w : Written)
      → w.control ≡ b.control → w.second ≡ b.second → w.values ≡ b.values → HasWritten m a w
  has_written b states known w c s v =
      let same : spec.OfApplication (applied b) ≡ spec.OfApplication (shown m.leaves_out a) =
      one_statement line (spec.OfApplication (applied b)) (spec.OfApplication (shown m.leaves_out a)) states states_shown in
      let apps : applied b ≡ shown m.leaves_out a = cc in
      record {
        control = c ∙ sym (number_back b.control known.control) ∙ ap (λ (x : spec.Application). option_map number_of x.control) apps;
        second = s ∙ sym (number_back b.second known.second) ∙ ap (λ (x : spec.Application). option_map number_of x.second) apps;
        values = ap (λ v. v.items) v ∙ ap (λ (x : spec.Application). x.values) apps;
      }

  pub no_parameter : (r : spec.TypedValue) → spec.IsStatement line (spec.OfParameter r) → ⊥
  no_parameter r states =
      let same : spec.OfParameter r ≡ spec.OfApplication (shown m.leaves_out a) =
      one_statement line (spec.OfParameter r) (spec.OfApplication (shown m.leaves_out a)) states states_shown in
      absurd (cc)
